-- Many events handed out, exactly: a row of single polls, each with the room that is left. Assumes nothing.
use Rattle.std.specs.Prelude.{Option, ◌≡◌, Bool, List, [], ◌∷◌, ℕ, ◌-◌, leb, eqb, length, Result, Ok, Err, Some, None}
use Rattle.octets.specs.Logic.{choose}
use Rattle.octets.specs.Put.{put}
use Rattle.refusal.specs.Answer.{Answer, gives, refuses}
use Rattle.refusal.specs.declared.Refusal.{Refusal}
use Rattle.model.specs.Client.{Held}
use Rattle.model.specs.Reading.{Rooms, rooms}
use Rattle.model.specs.Sound.{Sound}
use Rattle.model.specs.Promise.{Done, Exact, output_of}
use Rattle.model.specs.Batch.{Turn, Many, many, Stop, ended, Site, site, exact_turn}
use Rattle.model.specs.PollForEvents.{turns, Lent, lent, room_for, handing, Handings, or_refused, shown_handings, packets_of_handings, marks_of_handings, marks_each}
use Rattle.packet.specs.Packet.{class_number}
use Rattle.packet.specs.Class.{says_class}
use Rattle.model.specs.Says.{shown_taken, bytes_of_taken, says_polled}
use Rattle.model.specs.SaysBatch.{says_events}
use Rattle.model.specs.declared.Connection.{Connection}
use Rattle.model.specs.declared.Events.{Events}
use Rattle.model.specs.declared.Stop.TheVariants as Stops
use Rattle.polling.specs.Exact.{event_exact}
use Rattle.model.specs.declared.Handed.{Handed}
use Rattle.model.specs.declared.Polled.{Polled}

unfoldable pub event_step : Lent Site → Bool → Turn Held Stop (Lent Site)
event_step l marks = handing l.room (exact_turn (event_exact l.at.state l.at.left (room_for marks l.room)))

unfoldable pub handed_exact : Many Held Stop (Lent Site) → Answer (Done Handings)
handed_exact x = or_refused x.values x.stopped (gives (record { value = record { events = x.values; stopped = x.stopped }; state = x.end.at.state; left = x.end.at.left }))

unfoldable pub events_exact : Connection → Rooms → ℕ → ℕ → Answer (Done Handings)
events_exact c r room marks = handed_exact (many event_step ended (lent (site c r) room) (turns marks))

-- ---- what the step is made of

-- a packet at an index of a lent output, and its marks
unfoldable pub placed : {A : Type 0} → (A → List ℕ) → ℕ → Answer (Done A) → List ℕ → List ℕ
placed g at (gives d) out = put out at (g d.value)
placed g at (refuses n) out = out

abbrev pub marks_shown : Handed → List ℕ
marks_shown x = x.number.0 ∷ x.length ∷ class_number (says_class x.class) ∷ []

abbrev pub marked_by : Option Handed → ℕ → List ℕ → List ℕ
marked_by (Some x) at marks = put marks at (marks_shown x)
marked_by None at marks = marks

abbrev pub marked : Result Polled Refusal → ℕ → List ℕ → List ℕ
marked (Ok p) at marks = marked_by p.packet at marks
marked (Err r) at marks = marks

-- the room of a turn
abbrev pub room_left : List ℕ → List ℕ → ℕ → ℕ → ℕ
room_left out marks used at = room_for (leb marks_each (length marks - at)) (length out - used)

pub record TurnStep (c : Connection) (s out marks : List ℕ) (used at : ℕ) (a : Result Polled Refusal) (s' out' marks' : List ℕ) : Type 0 where
  pub exact : (q f : List ℕ) → Exact shown_taken (event_exact c (rooms q s f) (room_left out marks used at)) (rooms q s f) (says_polled a) (rooms q s' f)
  pub output : (q f : List ℕ) → out' ≡ placed bytes_of_taken used (event_exact c (rooms q s f) (room_left out marks used at)) out
  pub marks_are : marks' ≡ marked a at marks

-- the answer where a turn was refused: the refusal alone, if there was none before it
unfoldable pub stopped_by : ℕ → ℕ → Refusal → Connection → Result Events Refusal
stopped_by count used r c = choose (eqb count 0) (Err r) (Ok (record { count = count; bytes = used; stop = (Stops.Refused r); connection = c }))

-- the state is sound with the store and two other rooms, which are not lent
pub record Stored (c : Connection) (s : List ℕ) : Type 0 where
  pub requests : List ℕ
  pub slots : List ℕ
  pub sound : Sound c (rooms requests s slots)

-- The step is exact, whatever the rooms that it is not lent.
pub record EventsStep (c : Connection) (s out marks : List ℕ) (a : Result Events Refusal) (s' out' marks' : List ℕ) : Type 0 where
  pub exact : (q f : List ℕ) → Exact shown_handings (events_exact c (rooms q s f) (length out) (length marks)) (rooms q s f) (says_events a) (rooms q s' f)
  pub output : (q f : List ℕ) → out' ≡ output_of packets_of_handings (events_exact c (rooms q s f) (length out) (length marks)) out
  pub marked : (q f : List ℕ) → marks' ≡ output_of marks_of_handings (events_exact c (rooms q s f) (length out) (length marks)) marks
