-- A packet taken in, exactly. Assumes nothing.
use Rattle.std.specs.Prelude.{◌≡◌, true, List, ℕ, ◌≤◌, ◌<◌, length, Result}
use Rattle.refusal.specs.Answer.{Answer, gives, pass}
use Rattle.requests.specs.Room.{capacity}
use Rattle.held.specs.Head.{held, reply, event}
use Rattle.held.specs.Moves.{Left, left, Room, appended}
use Rattle.descriptors.specs.Room as Slots
use Rattle.packet.specs.Packet.{code_of, packet_class}
use Rattle.model.specs.Model.{is_held, Filing, Task}
use Rattle.model.specs.Reading.{Rooms, rooms, slots_of}
use Rattle.model.specs.Moved.{moved_state}
use Rattle.model.specs.Sound.{Ranges}
use Rattle.model.specs.Promise.{Done, Exact, same}
use Rattle.model.specs.Says.{says_enqueued}
use Rattle.model.specs.declared.Connection.{Connection}
use Rattle.model.specs.declared.Enqueued.{Enqueued}
use Rattle.model.specs.declared.Place.{Place}
use Rattle.filing.specs.Plan.{plan_of, numbered_state}
use Rattle.refusal.specs.declared.Refusal.{Refusal}

-- ---- the state

-- what the step needs of a sound state
pub record Takeable (c : Connection) (q s f : List ℕ) : Type 0 where
  pub some : 0 < capacity q
  pub numbers : Ranges c
  pub order : c.window.start ≤ c.window.end
  pub within : c.window.end ≤ length s
  pub store : length s ≡ c.room
  pub slots : Slots.Sound (Slots.room f c.counts)

-- ---- filing

-- where a packet was filed, under which number, and its class
abbrev pub filing : Place → ℕ → List ℕ → Filing
filing place n p = record { place = place; number = n; class = packet_class p }

-- what is left where the held packets are l and the descriptors are d
abbrev pub done_by : Place → Connection → Rooms → List ℕ → Left → Slots.Room → Done Filing
done_by place c r p l d = record { value = filing place c.read p; state = moved_state c l.window d.counts; left = rooms r.requests l.store d.slots }

-- Under the last number read: a reply is held, and with it the k descriptors that it claims; an event is held and has none; those of a dropped packet are closed.
abbrev pub filed_as : Place → Connection → Rooms → ℕ → List ℕ → Done Filing
filed_as Place.Replies c r k p = done_by Place.Replies c r p (appended c.window r.store (held c.read k reply p)) (Slots.hold k (slots_of c r))
filed_as Place.Events c r k p = done_by Place.Events c r p (appended c.window r.store (held c.read 0 event p)) (slots_of c r)
filed_as Place.Dropped c r k p = done_by Place.Dropped c r p (left c.window r.store) (Slots.close_waiting k (slots_of c r))

-- what filing asks for: the claimed descriptors wait, and a packet that is held has room
pub record MayFile (c : Connection) (s f : List ℕ) (place : Place) (k n : ℕ) : Type 0 where
  pub slots : Slots.Sound (Slots.room f c.counts)
  pub some : k ≤ c.counts.waiting
  pub room : is_held place ≡ true → Room c.window s n

-- what filing leaves, whatever the request room
pub record FileDone (c : Connection) (s f : List ℕ) (place : Place) (k : ℕ) (p : List ℕ) (a : Connection) (s' f' : List ℕ) : Type 0 where
  pub done : (q : List ℕ) → record { value = filing place c.read p; state = a; left = rooms q s' f' } ≡ filed_as place c (rooms q s f) k p

-- ---- the step

-- a plan carried out
unfoldable pub carried_out : Connection → Rooms → List ℕ → Task → Done Filing
carried_out c r p t = filed_as t.place (numbered_state c (code_of p) t.number) r t.claimed p

-- 1, 2, 3, 20, 4, 5, or what the plan says
unfoldable pub enqueue_exact : Connection → Rooms → List ℕ → Answer (Done Filing)
enqueue_exact c r p = pass (plan_of c r.requests p) (λ t. gives (carried_out c r p t))

-- THE STEP is exact.
pub record EnqueueStep (c : Connection) (q s f p : List ℕ) (a : Result Enqueued Refusal) (s' f' : List ℕ) : Type 0 where
  pub exact : Exact same (enqueue_exact c (rooms q s f) p) (rooms q s f) (says_enqueued a) (rooms q s' f')
