-- Which record is found: the oldest reply of a number, the oldest event. Assumes nothing.
use Rattle.std.specs.Prelude.{◌≡◌, Bool, true, false, List, [], ◌∷◌, ℕ, ◌+◌, eqb, length, Option, Some, None}
use Rattle.std.proofs.Common.{sym, ap, eq-eqb, ne_eqb}
use Rattle.octets.specs.Logic.{choose, both, either}
use Rattle.held.specs.Head.{Record, cost, reply, event}
use Rattle.held.specs.Reading.{records}
use Rattle.held.specs.declared.Window.{Window}
use Rattle.held.specs.declared.Spot.{Spot}

-- the place of a record that starts at an index, with so many descriptors before it
abbrev pub place_of : ℕ → ℕ → Record → Spot
place_of at before h = record { at = at; len = length h.packet; number = h.number; fds = h.fds; before = before }

-- Of records side by side from an index on, with so many descriptors before them: the first that passes a test.
unfoldable pub sought : (Record → Bool) → ℕ → ℕ → List Record → Option Spot
sought p at before [] = None
sought p at before (h ∷ hs) = choose (p h) (Some (place_of at before h)) (sought p (at + cost h) (before + h.fds) hs)

-- a record of a kind k and a number n is of the kind asked for and, unless any will do, of the number
unfoldable pub suits : ℕ → Bool → ℕ → ℕ → ℕ → Bool
suits kind any number k n = both (eqb k kind) (either any (eqb n number))

abbrev pub wanted : ℕ → Bool → ℕ → Record → Bool
wanted kind any number h = suits kind any number h.kind h.number

-- the first record of a window that is wanted
abbrev pub found : ℕ → Bool → ℕ → Window → List ℕ → Option Spot
found kind any number w s = sought (wanted kind any number) w.start 0 (records w s)

-- The oldest reply of a number.
unfoldable pub found_reply : ℕ → Window → List ℕ → Option Spot
found_reply number w s = found reply false number w s

-- The oldest event.
unfoldable pub found_event : Window → List ℕ → Option Spot
found_event w s = found event true 0 w s

-- ---- laws

-- another kind; any of the kind; the one of a number
pub suits_not : (kind : ℕ) (any : Bool) (number k n : ℕ) → (k ≡ kind → ⊥) → false ≡ suits kind any number k n
unfolding suits both
suits_not kind any number k n h = sym (ap (λ (b : Bool). both b (either any (eqb n number))) (ne_eqb k kind h))

pub suits_any : (kind : ℕ) (any : Bool) (number k n : ℕ) → k ≡ kind → any ≡ true → true ≡ suits kind any number k n
unfolding suits both either
suits_any kind any number k n h e = sym (λ j. both (eq-eqb k kind h j) (either (e j) (eqb n number)))

pub suits_one : (kind : ℕ) (any : Bool) (number k n m : ℕ) → k ≡ kind → any ≡ false → m ≡ n → eqb m number ≡ suits kind any number k n
unfolding suits both either
suits_one kind any number k n m h e q = sym (λ j. both (eq-eqb k kind h j) (either (e j) (eqb (sym q j) number)))
