-- How many replies there are of a number, and of higher ones. Assumes nothing.
use Rattle.std.specs.Prelude.{◌≡◌, Bool, true, false, List, [], ◌∷◌, ℕ, ◌+◌, ◌≤◌, ◌<◌, eqb, ltb, length}
use Rattle.std.proofs.Math.Path.{refl}
use Rattle.std.proofs.Common.{ap, ◌∙◌, arith}
use borrow.Author.Tests.{eq-eqb, ne_eqb, lt-ltb, le-ltb}
use Rattle.octets.specs.Logic.{choose, both}
use Rattle.held.specs.Head.{Record, reply}
use Rattle.held.specs.Reading.{only, replies}
use Rattle.held.specs.declared.Window.{Window}
use Rattle.held.specs.declared.Tally.{Tally}

-- the replies of a number, those of lower numbers and those of higher ones
unfoldable pub own : ℕ → List Record → List Record
own n [] = []
own n (h ∷ l) = choose (eqb h.number n) (h ∷ own n l) (own n l)

unfoldable pub lower : ℕ → List Record → List Record
lower n [] = []
lower n (h ∷ l) = choose (ltb h.number n) (h ∷ lower n l) (lower n l)

unfoldable pub higher : ℕ → List Record → List Record
higher n [] = []
higher n (h ∷ l) = choose (ltb n h.number) (h ∷ higher n l) (higher n l)

-- how many of a row are of the number, and above it
abbrev pub tally_of : ℕ → List Record → Tally
tally_of n l = record { own = length (own n l); above = length (higher n l) }

-- The replies of a window.
unfoldable pub tallied : ℕ → Window → List ℕ → Tally
tallied n w s = tally_of n (replies w s)

-- a record of a kind k and a number m alone
unfoldable pub tally_one : ℕ → ℕ → ℕ → Tally
tally_one n k m = record { own = choose (both (eqb k reply) (eqb m n)) 1 0; above = choose (both (eqb k reply) (ltb n m)) 1 0 }

-- ---- laws

-- where f picks records by a test t, one in front of a row is one more if it is of the kind and passes
front_one : (b : Bool) (h : Record) (l : List Record) → length (choose b (h ∷ l) l) ≡ choose b 1 0 + length l
unfolding choose
front_one true h l = omega arith
front_one false h l = omega arith

front_kind : (f : List Record → List Record) (t : Bool) (h : Record) (l : List Record) → f (h ∷ l) ≡ choose t (h ∷ f l) (f l) → (a : Bool) → length (f (choose a (h ∷ l) l)) ≡ choose (both a t) 1 0 + length (f l)
unfolding choose both
front_kind f t h l e true = ap length e ∙ front_one t h (f l)
front_kind f t h l e false = omega arith

-- so it counts for itself, among those of the number and among those above it
module _ (n : ℕ) (h : Record) (l : List Record) where
  pub own_front : length (own n (only reply (h ∷ l))) ≡ (tally_one n h.kind h.number).own + length (own n (only reply l))
  unfolding own only tally_one
  own_front = front_kind (own n) (eqb h.number n) h (only reply l) refl (eqb h.kind reply)

  pub above_front : length (higher n (only reply (h ∷ l))) ≡ (tally_one n h.kind h.number).above + length (higher n (only reply l))
  unfolding higher only tally_one
  above_front = front_kind (higher n) (ltb n h.number) h (only reply l) refl (eqb h.kind reply)

-- what each record comes to
module _ (n k m : ℕ) where
  pub one_other : (k ≡ reply → ⊥) → record { own = 0; above = 0 } ≡ tally_one n k m
  unfolding tally_one both choose
  one_other h = rw (ne_eqb k reply h)

  module _ (h : k ≡ reply) where
    pub one_lower : m < n → record { own = 0; above = 0 } ≡ tally_one n k m
    unfolding tally_one both choose
    one_lower q = rw (eq-eqb k reply h, ne_eqb m n (omega arith), le-ltb n m (omega arith))

    pub one_above : n < m → record { own = 0; above = 1 } ≡ tally_one n k m
    unfolding tally_one both choose
    one_above q = rw (eq-eqb k reply h, ne_eqb m n (omega arith), lt-ltb n m q)

    pub one_own : m ≤ n → n ≤ m → record { own = 1; above = 0 } ≡ tally_one n k m
    unfolding tally_one both choose
    one_own q r = rw (eq-eqb k reply h, eq-eqb m n (omega arith), le-ltb n m q)

-- each counts at most once
pub one_few : (n k m : ℕ) → ((tally_one n k m).own ≤ 1) × ((tally_one n k m).above ≤ 1)
unfolding tally_one choose
one_few n k m = (bit (both (eqb k reply) (eqb m n)), bit (both (eqb k reply) (ltb n m)))
  where
    bit : (b : Bool) → choose b 1 0 ≤ 1
    bit true = omega arith
    bit false = omega arith
