-- PACKETS OF A RUN OF BYTES, taken in behind one test: what that is in the model, and exactly. Assumes nothing.
use Rattle.std.specs.Prelude.{◌≡◌, List, ℕ, ltb, eqb, length, take, Result, Ok, Err}
use Rattle.octets.specs.Logic.{choose}
use Rattle.refusal.specs.Answer.{Answer, gives}
use Rattle.packet_reader.specs.Frame.{aim, Cut, cut_packets}
use Rattle.packet_reader.specs.Reader.{most_buffer}
use Rattle.packet_reader.specs.Front.{Front, nothing, part, long, whole, front_of}
use Rattle.intake.specs.Exact.{enqueue_exact}
use Rattle.model.specs.Client.{Client}
use Rattle.model.specs.Model.{enqueue_packet}
use Rattle.model.specs.Reading.{Rooms, rooms}
use Rattle.model.specs.Promise.{Done, Exact}
use Rattle.model.specs.Batch.{Turn, goes, stops, Many, many, Site, site, model_many, exact_many}
use Rattle.model.specs.Feed.{Stopped, ended, partial, refused, Took, Feeding, model_took, exact_took, shown_fed, says_halt, says_fed}
use Rattle.model.specs.declared.Connection.{Connection}
use Rattle.model.specs.declared.Halt.{Halt}
use Rattle.model.specs.declared.Fed.{Fed}
use Rattle.batch.specs.declared.feed.Turned.{Turned}
use Rattle.refusal.specs.declared.Refusal.{Refusal}

-- ---- THE MODEL

-- what stops a row behind its last packet: no byte is left, part of a packet is, or the first bytes of one that is longer than any may be, which is refused by 2
unfoldable pub stop_at : ℕ → List ℕ → Stopped
stop_at o left = choose (eqb (length left) 0) ended (choose (ltb most_buffer (aim o left (length left))) (refused 2) partial)

abbrev pub feeding : List Took → Stopped → Client → Feeding
feeding packets stopped c = record { packets = packets; stopped = stopped }

-- `enqueue_packets`: the run is cut into packets by the connection's byte order, and `enqueue_packet` is done for each, up to the first that is refused.
unfoldable pub enqueue_packets : Client → List ℕ → Answer (Feeding × Client)
enqueue_packets c bytes =
    let cut = cut_packets c.order bytes in
    gives (model_many feeding (many (λ m p. model_took (length p) (enqueue_packet m p)) (stop_at c.order cut.left) c cut.packets))

-- ---- EXACTLY

abbrev pub packet_turn : Site → List ℕ → Turn Took Stopped Site
packet_turn s p = exact_took (length p) (enqueue_exact s.state s.left p)

-- the packets of a cut, one after the other
abbrev pub row : ℕ → Site → Cut → Many Took Stopped Site
row o s cut = many packet_turn (stop_at o cut.left) s cut.packets

unfoldable pub feed_exact : Connection → Rooms → List ℕ → Answer (Done Feeding)
feed_exact c r bytes = gives (exact_many feeding (row c.order (site c r) (cut_packets c.order bytes)))

-- THE STEP is exact.
pub record FeedStep (c : Connection) (q s f bytes : List ℕ) (a : Result Fed Refusal) (s' f' : List ℕ) : Type 0 where
  pub exact : Exact shown_fed (feed_exact c (rooms q s f) bytes) (rooms q s f) (says_fed a) (rooms q s' f')

-- ---- a turn of the loop, over the bytes ahead

unfoldable pub turn_by : Site → List ℕ → Front → Turn Took Stopped Site
turn_by s bytes nothing = stops ended
turn_by s bytes part = stops partial
turn_by s bytes long = stops (refused 2)
turn_by s bytes (whole n class) = packet_turn s (take n bytes)

-- what is shown of a turn: the bytes it took, and the state; or what stops the row
pub data ShownTurn : Type 0 where
  on : ℕ → Connection → ShownTurn
  halted : Stopped → ShownTurn

unfoldable pub shown_turn : Turn Took Stopped Site → ShownTurn
shown_turn (goes v s) = on v.bytes s.state
shown_turn (stops w) = halted w

-- a turn that stops the row leaves the rooms as found
unfoldable pub left_by : Turn Took Stopped Site → Rooms → Rooms
left_by (goes v s) r = s.left
left_by (stops w) r = r

abbrev pub says_turned : Result Turned Halt → ShownTurn
says_turned (Ok t) = on t.bytes t.connection
says_turned (Err h) = halted (says_halt h)

pub record TurnIs (t : Turn Took Stopped Site) (r : Rooms) (a : Result Turned Halt) (r' : Rooms) : Type 0 where
  pub answers : says_turned a ≡ shown_turn t
  pub leaves : r' ≡ left_by t r

abbrev pub PacketTurn : Connection → List ℕ → List ℕ → List ℕ → List ℕ → Result Turned Halt → List ℕ → List ℕ → Type 0
PacketTurn c q s f p a s' f' = TurnIs (packet_turn (site c (rooms q s f)) p) (rooms q s f) a (rooms q s' f')

abbrev pub FrontTurn : ℕ → Connection → List ℕ → List ℕ → List ℕ → List ℕ → Result Turned Halt → List ℕ → List ℕ → Type 0
FrontTurn o c q s f bytes a s' f' = TurnIs (turn_by (site c (rooms q s f)) bytes (front_of o bytes)) (rooms q s f) a (rooms q s' f')
