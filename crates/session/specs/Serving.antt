-- DEMAND 3, WORD FOR WORD: a session with a server that has packets of its own to bring, in order, a refused one again before a later one. Definitions only. Assumes nothing.
use Rattle.std.specs.Prelude.{false, List, [], ◌∷◌, ◌++◌, ◌≡◌, ℕ, take, drop}
use Rattle.refusal.specs.Answer.{Answer, gives, refuses}
use Rattle.packet.specs.Packet.{code_of, unnumbered}
use Rattle.packet_reader.specs.Frame.{cut_packets}
use Rattle.packet_reader.specs.declared.PacketReader.{PacketReader}
use Rattle.id_allocator.specs.declared.IdAllocator.{IdAllocator}
use Rattle.model.specs.Client.{Held, Client}
use Rattle.model.specs.Model as Model
use Rattle.model.specs.Model.{Filing, enqueue_packet, Taken, PollReply}
use Rattle.model.specs.Batch.{Each}
use Rattle.model.specs.Feed.{ShownFed}
use Rattle.model.specs.Reading.{Rooms, reads}
use Rattle.model.specs.declared.Connection.{Connection}
use Rattle.savepoint.specs.Calls.{laid, Values, Saves, Restores}
use Rattle.connection.specs.Calls.{Opens}
use Rattle.honest.specs.Run.{Entry, Fair, Filed}
use Rattle.honest.specs.Public.{state_of}
use Rattle.honest.specs.Server.{Packet}
use Rattle.honest.specs.Origins.{each, Lists, OneOf}
use Rattle.session.specs.Ask.{Ask, send_request_ask, enqueue_fds_ask, enqueue_packet_ask, discard_reply_ask, poll_for_reply_or_error_ask, poll_check_for_reply_or_error, poll_for_reply_ask, poll_for_event_with_sequence, take_closed_fds, prepare_check_for_reply_or_error, send_requests_ask, enqueue_packets_ask, poll_for_events_ask, form, Value, Outputs, Answers, OfBytes}
use Rattle.session.specs.Session.{logged}

-- ---- The server

-- the packets that a call brings, on a connection of byte order o: of a run of bytes those that it is cut into
abbrev pub brought : ℕ → Ask → List (List ℕ)
brought o (send_request_ask kind) = []
brought o (enqueue_fds_ask list) = []
brought o (enqueue_packet_ask p) = p ∷ []
brought o (discard_reply_ask n mode) = []
brought o (poll_for_reply_or_error_ask n out fds) = []
brought o (poll_check_for_reply_or_error n out) = []
brought o (poll_for_reply_ask n out) = []
brought o (poll_for_event_with_sequence out) = []
brought o (take_closed_fds out) = []
brought o (prepare_check_for_reply_or_error n) = []
brought o (send_requests_ask bytes) = []
brought o (enqueue_packets_ask bytes) = (cut_packets o bytes).packets
brought o (poll_for_events_ask out marks) = []

-- how many of them it took, by its answer: the one, or as many as the answer says
unfoldable pub took_one : {A : Type 0} → Answer A → ℕ
took_one (gives y) = 1
took_one (refuses n) = 0

unfoldable pub took_many : {A : Type 0} → Answer (ShownFed × A) → ℕ
took_many (gives y) = y.0.packets
took_many (refuses n) = 0

abbrev pub taken : {S : Type 0} (x : Ask) → Answer (Value x × S) → ℕ
taken (send_request_ask kind) a = 0
taken (enqueue_fds_ask list) a = 0
taken (enqueue_packet_ask p) a = took_one a
taken (discard_reply_ask n mode) a = 0
taken (poll_for_reply_or_error_ask n out fds) a = 0
taken (poll_check_for_reply_or_error n out) a = 0
taken (poll_for_reply_ask n out) a = 0
taken (poll_for_event_with_sequence out) a = 0
taken (take_closed_fds out) a = 0
taken (prepare_check_for_reply_or_error n) a = 0
taken (send_requests_ask bytes) a = 0
taken (enqueue_packets_ask bytes) a = took_many a
taken (poll_for_events_ask out marks) a = 0

-- the bytes and the true numbers of packets
abbrev pub bytes_in : List Packet → List (List ℕ)
bytes_in = each (λ (p : Packet). p.bytes)

abbrev pub numbers_in : List Packet → List ℕ
numbers_in = each (λ (p : Packet). p.true_number)

-- A session with a server that has these packets, and those that are left of them. The packets that a call brings are the next ones, and those that it took are gone: one that it refused is still to be brought, before all behind it. Over a savepoint they go on.
pub data Serves (all : List Packet) : List Packet → Connection → Rooms → List Entry → Type 1 where
  new : (o : ℕ) (r : Rooms) (c : Connection) → Opens o r (gives (tt, c)) → Serves all all c r []
  call : {c : Connection} {r : Rooms} {l : List Entry} (ahead rest : List Packet) (x : Ask) → OfBytes x → bytes_in ahead ≡ brought c.order x → (a : Answer (Value x × Connection)) (r' : Rooms) (o : Outputs x)
      → Answers x c r a r' o → Serves all (ahead ++ rest) c r l → Serves all (drop (taken x a) ahead ++ rest) (state_of a c) r' (logged x (numbers_in ahead) (reads c r) a l)
  restored : {left : List Packet} {c : Connection} {r : Rooms} {l : List Entry} (reader : PacketReader) (buffer : List ℕ) (ids : IdAllocator) (out : List ℕ) (n : ℕ) (out' : List ℕ) → Saves (laid c r reader buffer ids) out (gives n) out'
      → (q : Rooms) (b : List ℕ) (v : Values) (q' : Rooms) (b' : List ℕ) → Restores (take n out') q b (gives v) q' b' → Serves all left c r l → Serves all left v.0 q' l

-- ---- What is to be shown

-- Packets that were taken in one after the other, from the client m to the client m': each was filed under its true number, if it carries one.
abbrev pub FiledAll : Client → List Packet → Client → Type 0
FiledAll m [] m' = m' ≡ m
FiledAll m (p ∷ ps) m' =
    (x : Filing × Client) × (gives x ≡ enqueue_packet m p.bytes) × (unnumbered (code_of p.bytes) ≡ false → Filed m p.bytes p.true_number x) × FiledAll x.1 ps m'

-- the next of these packets, if there is one and it carries a number, is as an honest server's after l
abbrev pub NextFair : ℕ → List Entry → List Packet → Type 0
NextFair o l [] = Unit {0}
NextFair o l (q ∷ qs) = unnumbered (code_of q.bytes) ≡ false → Fair o l q.true_number q.bytes

-- the records that a call hands out, by what the model gives
abbrev pub of_taken : Taken → List Held
of_taken Model.none = []
of_taken (Model.packet h) = h ∷ []

abbrev pub of_poll : PollReply → List Held
of_poll Model.try_again = []
of_poll Model.no_reply = []
of_poll (Model.reply h) = h ∷ []

abbrev pub handed_out : (x : Ask) → (form x).Given → List Held
handed_out (send_request_ask kind) v = []
handed_out (enqueue_fds_ask list) v = []
handed_out (enqueue_packet_ask p) v = []
handed_out (discard_reply_ask n mode) v = []
handed_out (poll_for_reply_or_error_ask n out fds) v = of_taken v
handed_out (poll_check_for_reply_or_error n out) v = of_poll v
handed_out (poll_for_reply_ask n out) v = of_poll v
handed_out (poll_for_event_with_sequence out) v = of_taken v
handed_out (take_closed_fds out) v = []
handed_out (prepare_check_for_reply_or_error n) v = []
handed_out (send_requests_ask bytes) v = []
handed_out (enqueue_packets_ask bytes) v = []
handed_out (poll_for_events_ask out marks) v = v.events

-- What an answer shows and what its outputs hold is of records that were held, x, each tied to the one of these packets that it came from.
abbrev pub HandsTied : (z : Ask) → List Packet → Lists → Answer (Value z × Connection) → Outputs z → Type 0
HandsTied z ps x (gives y) o = (v : (form z).Given) × (y.0 ≡ (form z).shows v) × (o ≡ (form z).written v) × Each (OneOf ps x) (handed_out z v)
HandsTied z ps x (refuses n) o = Unit {0}
