-- Descriptors that come in, and the close list that goes out, exactly. Assumes nothing.
use Rattle.std.specs.Prelude.{◌≡◌, List, ℕ, ◌+◌, ltb, length, Result}
use Rattle.refusal.specs.Answer.{Answer, gives, refuse}
use Rattle.descriptors.specs.Room as Slots
use Rattle.descriptors.specs.Room.{most_descriptors}
use Rattle.model.specs.Reading.{Rooms, rooms, slots_of}
use Rattle.model.specs.Moved.{moved_state}
use Rattle.model.specs.Promise.{Done, Exact, output_of, same}
use Rattle.model.specs.Says.{says_next, says_closed}
use Rattle.model.specs.declared.Connection.{Connection}
use Rattle.model.specs.declared.Closed.{Closed}
use Rattle.refusal.specs.declared.Refusal.{Refusal}

-- what a move of descriptors leaves
abbrev pub moved_to : {A : Type 0} → A → Connection → Rooms → Slots.Room → Done A
moved_to x c r d = record { value = x; state = moved_state c c.window d.counts; left = rooms r.requests r.store d.slots }

-- 5 for over 256 inside; otherwise they wait behind the others.
unfoldable pub enqueue_fds_exact : Connection → Rooms → List ℕ → Answer (Done Unit)
enqueue_fds_exact c r list = refuse (ltb most_descriptors (Slots.total c.counts + length list)) 5 (gives (moved_to tt c r (Slots.enqueue list (slots_of c r))))

-- 8 where the output is too small; otherwise the close list leaves whole.
unfoldable pub close_exact : Connection → Rooms → ℕ → Answer (Done (List ℕ))
close_exact c r places = refuse (ltb places c.counts.closed) 8 (gives (moved_to (Slots.closing (slots_of c r)) c r (Slots.take_closed (slots_of c r))))

-- The steps are exact, whatever the rooms that they are not lent.
pub record EnqueueFdsStep (c : Connection) (list f : List ℕ) (a : Result Connection Refusal) (f' : List ℕ) : Type 0 where
  pub exact : (q s : List ℕ) → Exact same (enqueue_fds_exact c (rooms q s f) list) (rooms q s f) (says_next a) (rooms q s f')

pub record CloseStep (c : Connection) (f out : List ℕ) (a : Result Closed Refusal) (f' out' : List ℕ) : Type 0 where
  pub exact : (q s : List ℕ) → Exact length (close_exact c (rooms q s f) (length out)) (rooms q s f) (says_closed a) (rooms q s f')
  pub output : (q s : List ℕ) → out' ≡ output_of same (close_exact c (rooms q s f) (length out)) out
