-- The polls, exactly: what each answers and leaves, byte by byte. Assumes nothing.
use Rattle.std.specs.Prelude.{◌≡◌, Bool, List, [], ℕ, ◌+◌, ltb, length, get_or, Option, Some, None, Result}
use Rattle.octets.specs.Logic.{choose, either}
use Rattle.octets.specs.Put.{cut}
use Rattle.refusal.specs.Answer.{Answer, gives, refuse}
use Rattle.held.specs.Head.{header_size}
use Rattle.held.specs.Find.{found_reply, found_event}
use Rattle.held.specs.Moves.{Left, left, removed, demoted}
use Rattle.held.specs.declared.Spot.{Spot}
use Rattle.descriptors.specs.Room as Slots
use Rattle.model.specs.Client.{Held, held_packet}
use Rattle.model.specs.Model as Model
use Rattle.packet.specs.Packet.{PacketClass, class_of, is_error}
use Rattle.packet.specs.declared.Class.{Class}
use Rattle.model.specs.Model.{Taken}
use Rattle.model.specs.Reading.{Rooms, rooms, slots_of}
use Rattle.model.specs.Moved.{moved_state}
use Rattle.model.specs.Promise.{Done, Exact, output_of}
use Rattle.model.specs.Says.{shown_taken, shown_poll, bytes_of_taken, descriptors_of_taken, bytes_of_poll, says_polled, says_poll_reply}
use Rattle.model.specs.declared.Connection.{Connection}
use Rattle.model.specs.declared.Handed.{Handed}
use Rattle.model.specs.declared.Polled.{Polled}
use Rattle.model.specs.declared.PollReply.{PollReply}
use Rattle.refusal.specs.declared.Refusal.{Refusal}

-- what is left where nothing moves, and where records and descriptors did
abbrev pub stays : {A : Type 0} → A → Connection → Rooms → Done A
stays x c r = record { value = x; state = c; left = r }

abbrev pub moved : {A : Type 0} → A → Connection → Rooms → Left → Slots.Room → Done A
moved x c r l d = record { value = x; state = moved_state c l.window d.counts; left = rooms r.requests l.store d.slots }

-- the packet at a place of the store
abbrev pub packet_at : List ℕ → Spot → List ℕ
packet_at s p = cut (p.at + header_size) p.len s

-- its class
abbrev pub class_at : List ℕ → Spot → PacketClass
class_at s p = class_of (get_or s (p.at + header_size) 0)

-- what is handed out of it, with that class and so many descriptors
abbrev pub handed_at : Spot → Class → ℕ → Handed
handed_at p class fds = record { number = record { 0 = p.number }; length = p.len; descriptors = fds; class = class }

-- it is held with these descriptors
abbrev pub held_at : Rooms → Spot → List ℕ → Held
held_at r p fds = held_packet p.number (packet_at r.store p) fds

-- an event, and a reply with its descriptors: they stand behind those of the replies before it
abbrev pub event_at : Rooms → Spot → Held
event_at r p = held_at r p []

abbrev pub reply_at : Connection → Rooms → Spot → Held
reply_at c r p = held_at r p (Slots.held_run p.before p.fds (slots_of c r))

-- the record at a place is removed; it becomes an event
abbrev pub without : Connection → Rooms → Spot → Left
without c r p = removed c.window r.store p

abbrev pub turned_event : Connection → Rooms → Spot → Left
turned_event c r p = left c.window (demoted c.window r.store p)

-- its descriptors are handed out; they are to be closed
abbrev pub handing_out : Connection → Rooms → Spot → Slots.Room
handing_out c r p = Slots.hand_out p.before p.fds (slots_of c r)

abbrev pub closing : Connection → Rooms → Spot → Slots.Room
closing c r p = Slots.close_held p.before p.fds (slots_of c r)

-- ---- `poll_for_event_with_sequence`: the oldest event; nothing found, then 8

abbrev pub event_from : Connection → Rooms → ℕ → Option Spot → Answer (Done Taken)
event_from c r bytes None = gives (stays Model.none c r)
event_from c r bytes (Some p) = refuse (ltb bytes p.len) 8 (gives (moved (Model.packet (event_at r p)) c r (without c r p) (slots_of c r)))

unfoldable pub event_exact : Connection → Rooms → ℕ → Answer (Done Taken)
event_exact c r bytes = event_from c r bytes (found_event c.window r.store)

-- ---- `poll_for_reply_or_error`: the oldest packet of a number, with its descriptors

abbrev pub taken_from : Connection → Rooms → ℕ → ℕ → Option Spot → Answer (Done Taken)
taken_from c r bytes places None = gives (stays Model.none c r)
taken_from c r bytes places (Some p) =
    refuse (either (ltb bytes p.len) (ltb places p.fds)) 8 (gives (moved (Model.packet (reply_at c r p)) c r (without c r p) (handing_out c r p)))

unfoldable pub taken_exact : Connection → Rooms → ℕ → ℕ → ℕ → Answer (Done Taken)
taken_exact c r n bytes places = taken_from c r bytes places (found_reply n c.window r.store)

-- ---- `poll_check_for_reply_or_error`: its descriptors are closed; "NoReply only if last read > number"

abbrev pub checked_from : Connection → Rooms → ℕ → ℕ → Option Spot → Answer (Done Model.PollReply)
checked_from c r n bytes None = gives (stays (choose (ltb n c.read) Model.no_reply Model.try_again) c r)
checked_from c r n bytes (Some p) = refuse (ltb bytes p.len) 8 (gives (moved (Model.reply (reply_at c r p)) c r (without c r p) (closing c r p)))

unfoldable pub checked_exact : Connection → Rooms → ℕ → ℕ → Answer (Done Model.PollReply)
checked_exact c r n bytes = checked_from c r n bytes (found_reply n c.window r.store)

-- ---- `poll_for_reply`: the same, but an error becomes an event, which needs no output

abbrev pub error_at : Rooms → Spot → Bool
error_at r p = is_error (class_at r.store p)

abbrev pub replied_from : Connection → Rooms → ℕ → Option Spot → Answer (Done Model.PollReply)
replied_from c r bytes None = gives (stays Model.try_again c r)
replied_from c r bytes (Some p) =
    choose (error_at r p) (gives (moved Model.no_reply c r (turned_event c r p) (closing c r p)))
    (refuse (ltb bytes p.len) 8 (gives (moved (Model.reply (reply_at c r p)) c r (without c r p) (closing c r p))))

unfoldable pub replied_exact : Connection → Rooms → ℕ → ℕ → Answer (Done Model.PollReply)
replied_exact c r n bytes = replied_from c r bytes (found_reply n c.window r.store)

-- ---- The steps are exact, whatever the rooms that they are not lent.

pub record EventStep (c : Connection) (s out : List ℕ) (a : Result Polled Refusal) (s' out' : List ℕ) : Type 0 where
  pub exact : (q f : List ℕ) → Exact shown_taken (event_exact c (rooms q s f) (length out)) (rooms q s f) (says_polled a) (rooms q s' f)
  pub output : (q f : List ℕ) → out' ≡ output_of bytes_of_taken (event_exact c (rooms q s f) (length out)) out

pub record TakenStep (c : Connection) (n : ℕ) (s f out fds : List ℕ) (a : Result Polled Refusal) (s' f' out' fds' : List ℕ) : Type 0 where
  pub exact : (q : List ℕ) → Exact shown_taken (taken_exact c (rooms q s f) n (length out) (length fds)) (rooms q s f) (says_polled a) (rooms q s' f')
  pub output : (q : List ℕ) → out' ≡ output_of bytes_of_taken (taken_exact c (rooms q s f) n (length out) (length fds)) out
  pub places : (q : List ℕ) → fds' ≡ output_of descriptors_of_taken (taken_exact c (rooms q s f) n (length out) (length fds)) fds

pub record CheckedStep (c : Connection) (n : ℕ) (s f out : List ℕ) (a : Result PollReply Refusal) (s' f' out' : List ℕ) : Type 0 where
  pub exact : (q : List ℕ) → Exact shown_poll (checked_exact c (rooms q s f) n (length out)) (rooms q s f) (says_poll_reply a) (rooms q s' f')
  pub output : (q : List ℕ) → out' ≡ output_of bytes_of_poll (checked_exact c (rooms q s f) n (length out)) out

pub record RepliedStep (c : Connection) (n : ℕ) (s f out : List ℕ) (a : Result PollReply Refusal) (s' f' out' : List ℕ) : Type 0 where
  pub exact : (q : List ℕ) → Exact shown_poll (replied_exact c (rooms q s f) n (length out)) (rooms q s f) (says_poll_reply a) (rooms q s' f')
  pub output : (q : List ℕ) → out' ≡ output_of bytes_of_poll (replied_exact c (rooms q s f) n (length out)) out
