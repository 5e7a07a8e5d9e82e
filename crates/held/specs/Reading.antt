-- THE READING of a store: the records of its window, the oldest first, and when a state is sound. Assumes nothing.
use Rattle.std.specs.Prelude.{◌≡◌, Bool, true, List, [], ◌∷◌, ◌++◌, ℕ, zero, suc, ◌+◌, ◌-◌, ◌≤◌, leb, eqb, length, drop}
use Rattle.octets.specs.Logic.{choose, both}
use Rattle.octets.specs.Put.{cut}
use Rattle.held.specs.General.{same}
use Rattle.held.specs.Head.{Record, Fits, fits, cost, encoded, decoded, most_store, reply, event}
use Rattle.held.specs.declared.Window.{Window}

-- the bytes of a window, and how many they are
abbrev pub inside : Window → List ℕ → List ℕ
inside w s = cut w.start (w.end - w.start) s

abbrev pub used : Window → ℕ
used w = w.end - w.start

-- records as bytes, side by side
unfoldable pub flat : List Record → List ℕ
flat [] = []
flat (h ∷ hs) = encoded h ++ flat hs

-- bytes as records, at most n of them
unfoldable pub read_up_to : ℕ → List ℕ → List Record
read_up_to zero x = []
read_up_to (suc n) [] = []
read_up_to (suc n) (b ∷ x) = decoded (b ∷ x) ∷ read_up_to n (drop (cost (decoded (b ∷ x))) (b ∷ x))

-- all of them: each takes a byte or more
unfoldable pub read_all : List ℕ → List Record
read_all x = read_up_to (length x) x

-- the records of a window
unfoldable pub records : Window → List ℕ → List Record
records w s = read_all (inside w s)

-- those of a kind, in order
unfoldable pub only : ℕ → List Record → List Record
only kind [] = []
only kind (h ∷ hs) = choose (eqb h.kind kind) (h ∷ only kind hs) (only kind hs)

abbrev pub replies : Window → List ℕ → List Record
replies w s = only reply (records w s)

abbrev pub events : Window → List ℕ → List Record
events w s = only event (records w s)

-- their descriptors, and their costs, in all
unfoldable pub fds_in : List Record → ℕ
fds_in [] = 0
fds_in (h ∷ hs) = h.fds + fds_in hs

unfoldable pub costs : List Record → ℕ
costs [] = 0
costs (h ∷ hs) = cost h + costs hs

-- ---- soundness

-- each of them has a property
unfoldable pub All : (Record → Type 0) → List Record → Type 0
All P [] = Unit
All P (h ∷ hs) = P h × All P hs

-- their numbers never fall, from a first one on
unfoldable pub Rising : ℕ → List Record → Type 0
Rising from [] = Unit
Rising from (h ∷ hs) = (from ≤ h.number) × Rising h.number hs

abbrev pub Known : ℕ → Record → Type 0
Known last h = h.number ≤ last

-- The store reads as held records: the bytes of the window are records that fit, side by side.
pub record Readable (w : Window) (s : List ℕ) : Type 0 where
  pub room : length s ≤ most_store
  pub order : w.start ≤ w.end
  pub within : w.end ≤ length s
  pub bytes : inside w s ≡ flat (records w s)
  pub fit : All Fits (records w s)

-- 01, Rooms: the store reads as held records, reply numbers never fall, and no held number is above the last read.
pub record Sound (last : ℕ) (w : Window) (s : List ℕ) : Type 0 where
  pub readable : Readable w s
  pub rising : Rising 0 (replies w s)
  pub known : All (Known last) (records w s)

-- the same, tested
unfoldable pub all : (Record → Bool) → List Record → Bool
all p [] = true
all p (h ∷ hs) = both (p h) (all p hs)

unfoldable pub rising : ℕ → List Record → Bool
rising from [] = true
rising from (h ∷ hs) = both (leb from h.number) (rising h.number hs)

abbrev pub known : ℕ → Record → Bool
known last h = leb h.number last

unfoldable pub fine : ℕ → ℕ → List ℕ → List Record → Bool
fine from last x hs = both (same x (flat hs)) (both (all fits hs) (both (rising from (only reply hs)) (all (known last) hs)))

unfoldable pub soundb : ℕ → Window → List ℕ → Bool
soundb last w s =
    both (leb (length s) most_store)
    (both (leb w.start w.end)
    (both (leb w.end (length s))
    (fine 0 last (inside w s) (records w s))))
