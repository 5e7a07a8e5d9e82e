-- A PROMISE WITH NUMBERS: `poll_for_event_with_sequence` on a small connection hands an event out, is refused by 8, and is refused by 9. Each claim is
-- `PollsEvent state lent out answer left out'`, as the contract has it, with all six spelled out. Assumes nothing.
use Rattle.std.specs.Prelude.{◌≡◌, refl, List, [], ◌∷◌, ◌++◌, ℕ, replicate, Result, Ok, Some}
use Rattle.octets.specs.Logic.{choose, both, either}
use Rattle.octets.specs.Bytes.{legal, bytes_of, number_in, low_bytes, low_number, turned}
use Rattle.octets.specs.Put.{put, cut}
use Rattle.octets.specs.Field.{field}
use Rattle.refusal.specs.Answer.{gives, refuses, refuse}
use Rattle.requests.specs.Room as Room
use Rattle.held.specs.General as General
use Rattle.held.specs.Head as Head
use Rattle.held.specs.Reading as Store
use Rattle.held.specs.Find as Find
use Rattle.held.specs.Moves as Moves
use Rattle.descriptors.specs.Room as Slots
use Rattle.packet.specs.Packet.{was_sent, class_of}
use Rattle.packet.specs.declared.Class.TheVariants as Class
use Rattle.model.specs.Client.{Client, held_packet, set_events}
use Rattle.model.specs.Model as Model
use Rattle.model.specs.Reading.{Rooms, rooms, with_descriptors, reads}
use Rattle.model.specs.Sound.{limitsb, runb, numbersb, holdsb, heldb, soundb}
use Rattle.model.specs.Promise.{answer_of, rooms_of, output_of, model_of, guarded}
use Rattle.model.specs.Says.{packet, says_polled}
use Rattle.model.specs.declared.Connection.{Connection}
use Rattle.model.specs.declared.Handed.{Handed}
use Rattle.model.specs.declared.ReplyFdKind.TheVariants.{NoReply}
use Rattle.polling.specs.Exact.{event_exact}
use Rattle.connection.specs.Calls.{PollsEvent}
use Rattle.connection.specs.Promises.{polls_event_one}
use Rattle.refusal.specs.declared.Refusal.{Refusal}
use Rattle.model.specs.declared.Polled.{Polled}

-- ---- what the call is given

-- an event of request 7: code 2, the wire number at bytes 2 and 3, and 28 bytes more
abbrev event : List ℕ
event = 2 ∷ 0 ∷ 7 ∷ 0 ∷ replicate 28 1

-- the header of its record: the number, the length of the packet, no descriptors, kind 1 (an event), two zeros
abbrev header : List ℕ
header = 7 ∷ 0 ∷ 0 ∷ 0 ∷ 0 ∷ 0 ∷ 0 ∷ 0 ∷ 32 ∷ 0 ∷ 0 ∷ 0 ∷ 0 ∷ 1 ∷ 0 ∷ 0 ∷ []

-- THE ROOMS: four request bytes (K is 4), a store of 100 bytes (S is 100), in which the record has bytes 10 to 57, and 256 slots for descriptors
abbrev lent : Rooms
lent = rooms (replicate 4 0) (replicate 10 9 ++ (header ++ (event ++ replicate 42 9))) (replicate 256 0)

-- THE STATE: requests 8 and 9 are outstanding, the last packet read had the number `read`, and held records stand from byte `start` up to `end`
abbrev state_with : ℕ → ℕ → ℕ → Connection
state_with read start end = record {
  order = 108;
  capacity = 4;
  room = 100;
  written = 9;
  expected = 8;
  read = read;
  first = 8;
  window = record { start = start; end = end };
  counts = record { closed = 0; held = 0; waiting = 0 };
}

abbrev state : Connection
state = state_with 7 10 58

-- THE OUTPUTS: 40 bytes, and 31, which are too few
abbrev out : List ℕ
out = replicate 40 255

abbrev short : List ℕ
short = replicate 31 255

-- ---- what it answers and leaves

-- what an answer shows of the packet
abbrev shown : Handed
shown = record { number = record { 0 = 7 }; length = 32; descriptors = 0; class = Class.Event }

-- the state with nothing held, and the output with the packet and 8 bytes as found
abbrev after : Connection
after = state_with 7 58 58

abbrev written : List ℕ
written = event ++ replicate 8 255

-- opens what the claims compute with
unfoldable computing : ℕ
unfolding answer_of rooms_of output_of model_of guarded refuse soundb numbersb limitsb runb heldb holdsb both either choose legal bytes_of number_in low_bytes low_number turned put cut field Room.sized Room.legals Room.legal_run Room.legal Room.byte_at Room.request_at Room.request_of Room.mode_of Room.upto Room.outstanding General.same Head.encoded Head.most_fds Head.fits Head.num_of Head.len_of Head.fds_of Head.kind_of Head.decoded Store.flat Store.read_up_to Store.read_all Store.records Store.only Store.fds_in Store.all Store.rising Store.fine Store.soundb Find.sought Find.suits Find.found_event Moves.removed Slots.sound Slots.closing Slots.holding Slots.waiting with_descriptors reads Model.poll_for_event class_of was_sent event_exact
computing = 0

-- 1. HANDED OUT. `answers`: the packet is shown, and the state is handed back with nothing held. `leaves`: no byte of the rooms changed, since the record was the first in its window.
-- `output`: the packet stands at the start. `model`: what is given and left, as it is read, is what the model gives (below).
pub handed : PollsEvent state lent out (gives (packet shown, after)) lent written
unfolding computing
handed = record { promise = record { exact = record { answers = refl; leaves = refl }; model = refl }; output = refl }

-- 2. TOO SHORT. 31 bytes are refused by 8: rooms and output are as found, and no state is handed back: the caller goes on with the one that he has.
pub too_short : PollsEvent state lent short (refuses 8) lent short
unfolding computing
too_short = record { promise = record { exact = record { answers = refl; leaves = refl }; model = refl }; output = refl }

-- 3. NOT SOUND. An event of number 7 is held, and the last read is 6: 9, before it is seen that the output is too short, and again all is as found.
pub not_sound : PollsEvent (state_with 6 10 58) lent short (refuses 9) lent short
unfolding computing
not_sound = record { promise = record { exact = record { answers = refl; leaves = refl }; model = refl }; output = refl }

-- ---- what the model has to do with it

-- the state as it is read
abbrev client : Client
client = record {
  order = 108;
  most_requests = 4;
  most_bytes = 100;
  numbers = record { written = 9; expected = 8; read = 7 };
  outstanding = Model.joining NoReply ∷ Model.joining NoReply ∷ [];
  replies = [];
  events = held_packet 7 event [] ∷ [];
  waiting = [];
  closing = [];
}

-- The state is read as this one; of it the model hands the event out; and what it leaves is what the state handed back is read as.
pub modelled : (reads state lent ≡ client) × (Model.poll_for_event client 40 ≡ gives (Model.packet (held_packet 7 event []), set_events client [])) × (reads after lent ≡ set_events client [])
unfolding computing
modelled = (refl, refl, refl)

-- NO OTHER ANSWER is allowed, nor other rooms or another output.
pub no_other : (a : Result Polled Refusal) (left : Rooms) (out' : List ℕ) → PollsEvent state lent out (says_polled a) left out' → (a ≡ Ok (record { packet = Some shown; connection = after })) × (left ≡ lent) × (out' ≡ written)
no_other a left out' p = polls_event_one state lent out a (Ok (record { packet = Some shown; connection = after })) left lent out' written p handed
