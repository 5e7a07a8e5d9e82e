-- `poll_for_events` in the model: a row of `poll_for_event_with_sequence`, each with the room that is left in the outputs. Assumes nothing.
use Rattle.std.specs.Prelude.{Bool, true, false, List, [], ◌∷◌, ◌++◌, ℕ, zero, suc, ◌-◌, length}
use Rattle.octets.specs.Logic.{choose}
use Rattle.refusal.specs.Answer.{Answer, gives, refuses}
use Rattle.packet.specs.Packet.{packet_class, class_number}
use Rattle.model.specs.Client.{Held, Client}
use Rattle.model.specs.Model.{Taken, none, packet, poll_for_event}
use Rattle.model.specs.Batch.{Turn, goes, stops, Many, many, Stop, ended, refused, meaningless, model_turn}

-- Two outputs are lent: one for the packets, and one for marks, three for each event: its number, the length of its packet, and its class.
abbrev pub marks_each : ℕ
marks_each = 3

abbrev pub marks_for : Held → List ℕ
marks_for h = h.number ∷ length h.packet ∷ class_number (packet_class h.packet) ∷ []

-- A turn that has its marks may use all the room that is left for packets; one without marks has no room, and hands nothing out.
abbrev pub with_marks : Bool
with_marks = true

abbrev pub without_marks : Bool
without_marks = false

-- One turn for each three marks, and a last one without, which tells whether an event is left: it is refused by 8 if one is. Of seven marks
-- the turns are two with marks and the last without; the seventh mark is not used.
unfoldable pub turns : ℕ → List Bool
turns zero = without_marks ∷ []
turns (suc zero) = without_marks ∷ []
turns (suc (suc zero)) = without_marks ∷ []
turns (suc (suc (suc n))) = with_marks ∷ turns n

-- a state, with the room that is left for packets
pub record Lent (S : Type 0) : Type 0 where
  pub at : S
  pub room : ℕ

abbrev pub lent : {S : Type 0} → S → ℕ → Lent S
lent s n = record { at = s; room = n }

-- the room of a turn, of what is left
unfoldable pub room_for : Bool → ℕ → ℕ
room_for marks room = choose marks room 0

-- a call that finds nothing ends the row; a packet that it hands out takes its length of the room
unfoldable pub handing : {S : Type 0} → ℕ → Turn Taken Stop S → Turn Held Stop (Lent S)
handing room (goes none s) = stops ended
handing room (goes (packet h) s) = goes h (lent s (room - length h.packet))
handing room (stops w) = stops w

unfoldable pub event_turn : Lent Client → Bool → Turn Held Stop (Lent Client)
event_turn l marks = handing l.room (model_turn (poll_for_event l.at (room_for marks l.room)))

-- what was handed out: the events, oldest first, and what stopped it: the end of the events, or that the next has no room
pub record Handings : Type 0 where
  pub events : List Held
  pub stopped : Stop

-- 8 where there is an event and not even one fits
unfoldable pub or_refused : {B : Type 0} → List Held → Stop → Answer B → Answer B
or_refused [] ended a = a
or_refused [] (refused n) a = refuses n
or_refused [] meaningless a = a
or_refused (h ∷ l) w a = a

unfoldable pub handed : {S : Type 0} → Many Held Stop (Lent S) → Answer (Handings × S)
handed x = or_refused x.values x.stopped (gives (record { events = x.values; stopped = x.stopped }, x.end.at))

unfoldable pub poll_for_events : Client → ℕ → ℕ → Answer (Handings × Client)
poll_for_events c room marks = handed (many event_turn ended (lent c room) (turns marks))

-- the outputs: the packets one behind the other, and the marks
unfoldable pub packets_of : List Held → List ℕ
packets_of [] = []
packets_of (h ∷ l) = h.packet ++ packets_of l

unfoldable pub marks_of : List Held → List ℕ
marks_of [] = []
marks_of (h ∷ l) = marks_for h ++ marks_of l

abbrev pub packets_of_handings : Handings → List ℕ
packets_of_handings x = packets_of x.events

abbrev pub marks_of_handings : Handings → List ℕ
marks_of_handings x = marks_of x.events

-- what is shown of it: how many events, and how many bytes their packets are
pub record ShownHandings : Type 0 where
  pub count : ℕ
  pub bytes : ℕ
  pub stopped : Stop

abbrev pub shown_handings : Handings → ShownHandings
shown_handings x = record { count = length x.events; bytes = length (packets_of x.events); stopped = x.stopped }
