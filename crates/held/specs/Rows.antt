-- Laws of records in a row: of their bytes, of those of a kind, and of what all of them have. Assumes nothing.
use Rattle.std.specs.Prelude.{◌≡◌, refl, Bool, ℕ, zero, suc, ◌+◌, ◌≤◌, ◌<◌, eqb, length, drop}
use Rattle.std.proofs.Common.{sym, ap, ◌∙◌, arith, length-append, length-drop, drop_at, leb-true, le-leb, eq-eqb, ne_eqb}
use Rattle.std.proofs.Math.Bool.{true, false}
use mathlib.Core.List.{List, [], ◌∷◌, ◌++◌, append_assoc}
use Rattle.std.proofs.Math.Decide.{ℕ_discrete}
use Rattle.octets.specs.Logic.{choose, both_left, both_right, both_yes}
use Rattle.held.specs.General.{choose_yes, choose_no}
use Rattle.held.specs.Head.{Record, Fits, cost, encoded, decoded, length_encoded, decoded_encoded, most_fds, reply, event}
use Rattle.held.specs.Reading.{flat, read_up_to, read_all, only, fds_in, costs, All, Rising, Known, all, rising}

-- ---- bytes

pub length_flat : (hs : List Record) → length (flat hs) ≡ costs hs
unfolding flat costs
length_flat [] = refl
length_flat (h ∷ hs) = length-append (encoded h) (flat hs) ∙ (λ k. length_encoded h k + length_flat hs k)

pub flat_append : (a b : List Record) → flat (a ++ b) ≡ flat a ++ flat b
unfolding flat
flat_append [] b = refl
flat_append (h ∷ a) b = ap (λ (l : List ℕ). encoded h ++ l) (flat_append a b) ∙ sym (append_assoc (encoded h) (flat a) (flat b))

-- what adds up over a row adds up over two side by side
adds : (one : Record → ℕ) (sum : List Record → ℕ) → sum [] ≡ 0 → ((h : Record) (l : List Record) → sum (h ∷ l) ≡ one h + sum l) → (a b : List Record) → sum (a ++ b) ≡ sum a + sum b
adds one sum z s [] b = omega arith
adds one sum z s (h ∷ a) b = omega (arith, s h (a ++ b), s h a, adds one sum z s a b)

pub costs_append : (a b : List Record) → costs (a ++ b) ≡ costs a + costs b
unfolding costs
costs_append = adds cost costs refl (λ h l. refl)

-- a longer reading changes nothing
enough : (f g : ℕ) (x : List ℕ) → length x ≤ f → length x ≤ g → read_up_to f x ≡ read_up_to g x
unfolding read_up_to
enough zero zero [] h k = refl
enough zero (suc g) [] h k = refl
enough (suc f) zero [] h k = refl
enough (suc f) (suc g) [] h k = refl
enough zero g (b ∷ x) h k = absurd (omega arith)
enough (suc f) zero (b ∷ x) h k = absurd (omega arith)
enough (suc f) (suc g) (b ∷ x) h k =
    let l = length-drop (cost (decoded (b ∷ x))) (b ∷ x) in
    ap (λ (hs : List Record). decoded (b ∷ x) ∷ hs) (enough f g (drop (cost (decoded (b ∷ x))) (b ∷ x)) (omega (arith, l)) (omega (arith, l)))

-- A reading begins with the record that the bytes begin with, and goes on behind it.
pub read_step : (x : List ℕ) → 0 < length x → read_all x ≡ decoded x ∷ read_all (drop (cost (decoded x)) x)
unfolding read_all read_up_to
read_step [] h = absurd (omega arith)
read_step (b ∷ x) h =
    let y : List ℕ = drop (cost (decoded (b ∷ x))) (b ∷ x) in
    ap (λ (hs : List Record). decoded (b ∷ x) ∷ hs) (enough (length x) (length y) y (omega (arith, length-drop (cost (decoded (b ∷ x))) (b ∷ x))) (omega arith))

-- Records that fit are read back from their bytes.
pub read_flat : (hs : List Record) → All Fits hs → read_all (flat hs) ≡ hs
unfolding flat All read_all read_up_to
read_flat [] f = refl
read_flat (h ∷ hs) f =
    let l : length (encoded h) ≡ cost h = length_encoded h in
    let d : decoded (encoded h ++ flat hs) ≡ h = decoded_encoded h f.0 (flat hs) in
    read_step (encoded h ++ flat hs) (omega (arith, length-append (encoded h) (flat hs)))
    ∙ (λ k. d k ∷ read_all (drop (cost (d k)) (encoded h ++ flat hs)))
    ∙ ap (λ (x : List ℕ). h ∷ read_all x) (drop_at (encoded h) (flat hs) (cost h) l)
    ∙ ap (λ (l : List Record). h ∷ l) (read_flat hs f.1)

-- ---- those of a kind

pub only_append : (kind : ℕ) (a b : List Record) → only kind (a ++ b) ≡ only kind a ++ only kind b
unfolding only choose
only_append kind [] b = refl
only_append kind (h ∷ a) b = go (eqb h.kind kind) (only_append kind a b)
  where
    go : (t : Bool) → only kind (a ++ b) ≡ only kind a ++ only kind b
        → choose t (h ∷ only kind (a ++ b)) (only kind (a ++ b)) ≡ choose t (h ∷ only kind a) (only kind a) ++ only kind b
    go true e = ap (λ (l : List Record). h ∷ l) e
    go false e = e

pub only_is : (kind : ℕ) (h : Record) (hs : List Record) → h.kind ≡ kind → only kind (h ∷ hs) ≡ h ∷ only kind hs
unfolding only
only_is kind h hs e = choose_yes _ _ _ (eq-eqb h.kind kind e)

pub only_other : (kind : ℕ) (h : Record) (hs : List Record) → (h.kind ≡ kind → ⊥) → only kind (h ∷ hs) ≡ only kind hs
unfolding only
only_other kind h hs e = choose_no _ _ _ (ne_eqb h.kind kind e)

pub fds_in_append : (a b : List Record) → fds_in (a ++ b) ≡ fds_in a + fds_in b
unfolding fds_in
fds_in_append = adds (λ h. h.fds) fds_in refl (λ h l. refl)

-- the descriptors are the replies', since an event has none
pub fds_step : (h : Record) (hs : List Record) → Fits h → fds_in (only reply (h ∷ hs)) ≡ h.fds + fds_in (only reply hs)
unfolding only fds_in choose most_fds
fds_step h hs f = go (eqb h.kind reply) f.count
  where
    go : (t : Bool) → h.fds ≤ choose t 255 0 → fds_in (choose t (h ∷ only reply hs) (only reply hs)) ≡ h.fds + fds_in (only reply hs)
    go true e = refl
    go false e = omega arith

pub fds_replies : (hs : List Record) → All Fits hs → fds_in hs ≡ fds_in (only reply hs)
unfolding All fds_in only
fds_replies [] f = refl
fds_replies (h ∷ hs) f = ap (λ (n : ℕ). h.fds + n) (fds_replies hs f.1) ∙ sym (fds_step h hs f.0)

-- each is of one of the two kinds, and costs what it costs
pub costs_kinds : (hs : List Record) → All Fits hs → costs hs ≡ costs (only reply hs) + costs (only event hs)
unfolding All costs only
costs_kinds [] f = refl
costs_kinds (h ∷ hs) f = elim (ℕ_discrete h.kind reply) [ yes e ↦ one e (costs_kinds hs f.1) | no n ↦ two f.0.kind n (costs_kinds hs f.1) ]
  where
    one : h.kind ≡ reply → costs hs ≡ costs (only reply hs) + costs (only event hs) → cost h + costs hs ≡ costs (only reply (h ∷ hs)) + costs (only event (h ∷ hs))
    one e i =
        let a : costs (only reply (h ∷ hs)) ≡ cost h + costs (only reply hs) = ap costs (only_is reply h hs e) in
        let b : costs (only event (h ∷ hs)) ≡ costs (only event hs) = ap costs (only_other event h hs (λ q. omega arith)) in
        omega arith

    two : h.kind ≤ event → (h.kind ≡ reply → ⊥) → costs hs ≡ costs (only reply hs) + costs (only event hs) → cost h + costs hs ≡ costs (only reply (h ∷ hs)) + costs (only event (h ∷ hs))
    two k n i =
        let a : costs (only reply (h ∷ hs)) ≡ costs (only reply hs) = ap costs (only_other reply h hs n) in
        let b : costs (only event (h ∷ hs)) ≡ cost h + costs (only event hs) = ap costs (only_is event h hs (omega arith)) in
        omega arith

-- ---- what all of them have

pub all_is : {P : Record → Type 0} {p : Record → Bool} → ((h : Record) → p h ≡ true → P h) → (hs : List Record) → all p hs ≡ true → All P hs
unfolding all All
all_is f [] t = tt
all_is f (h ∷ hs) t = (f h (both_left _ _ t), all_is f hs (both_right _ _ t))

pub all_so : {P : Record → Type 0} {p : Record → Bool} → ((h : Record) → P h → p h ≡ true) → (hs : List Record) → All P hs → all p hs ≡ true
unfolding all All
all_so f [] a = refl
all_so f (h ∷ hs) a = both_yes _ _ (f h a.0) (all_so f hs a.1)

pub all_map : {P Q : Record → Type 0} → ((h : Record) → P h → Q h) → (hs : List Record) → All P hs → All Q hs
unfolding All
all_map f [] a = tt
all_map f (h ∷ hs) a = (f h a.0, all_map f hs a.1)

module _ (P : Record → Type 0) where
  pub all_append : (a b : List Record) → All P a → All P b → All P (a ++ b)
  unfolding All
  all_append [] b p q = q
  all_append (h ∷ a) b p q = (p.0, all_append a b p.1 q)

  pub all_left : (a b : List Record) → All P (a ++ b) → All P a
  unfolding All
  all_left [] b p = tt
  all_left (h ∷ a) b p = (p.0, all_left a b p.1)

  -- the one in the middle, and the others
  pub all_here : (a : List Record) (h : Record) (b : List Record) → All P (a ++ (h ∷ b)) → P h
  unfolding All
  all_here [] h b p = p.0
  all_here (x ∷ a) h b p = all_here a h b p.1

  pub all_without : (a : List Record) (h : Record) (b : List Record) → All P (a ++ (h ∷ b)) → All P (a ++ b)
  unfolding All
  all_without [] h b p = p.1
  all_without (x ∷ a) h b p = (p.0, all_without a h b p.1)

  pub all_only : (kind : ℕ) (hs : List Record) → All P hs → All P (only kind hs)
  unfolding All only choose
  all_only kind [] p = tt
  all_only kind (h ∷ hs) p = go (eqb h.kind kind) (all_only kind hs p.1)
    where
      go : (t : Bool) → All P (only kind hs) → All P (choose t (h ∷ only kind hs) (only kind hs))
      go true q = (p.0, q)
      go false q = q

-- ---- numbers that never fall

pub rising_is : (from : ℕ) (hs : List Record) → rising from hs ≡ true → Rising from hs
unfolding rising Rising
rising_is from [] t = tt
rising_is from (h ∷ hs) t = (leb-true from h.number (both_left _ _ t), rising_is h.number hs (both_right _ _ t))

pub rising_so : (from : ℕ) (hs : List Record) → Rising from hs → rising from hs ≡ true
unfolding rising Rising
rising_so from [] r = refl
rising_so from (h ∷ hs) r = both_yes _ _ (le-leb from h.number r.0) (rising_so h.number hs r.1)

rising_lower : (m n : ℕ) (hs : List Record) → m ≤ n → Rising n hs → Rising m hs
unfolding Rising
rising_lower m n [] h r = tt
rising_lower m n (x ∷ hs) h r = (omega (arith, r.0), r.1)

-- one may go from the middle
pub rising_without : (from : ℕ) (a : List Record) (h : Record) (b : List Record) → Rising from (a ++ (h ∷ b)) → Rising from (a ++ b)
unfolding Rising
rising_without from [] h b r = rising_lower from h.number b r.0 r.1
rising_without from (x ∷ a) h b r = (r.0, rising_without x.number a h b r.1)

-- one that none is above may come last
pub rising_last : (from : ℕ) (a : List Record) (h : Record) → from ≤ h.number → Rising from a → All (Known h.number) a → Rising from (a ++ (h ∷ []))
unfolding Rising All
rising_last from [] h m r k = (m, tt)
rising_last from (x ∷ a) h m r k = (r.0, rising_last x.number a h k.0 r.1 k.1)
