-- DEMAND 3: what a session is. `new`, then public calls by their promises, whichever they are, with any arguments, refused or not, each on the whole state and rooms as the call before left them; and savepoints. Assumes nothing.
use Rattle.std.specs.Prelude.{List, [], ◌∷◌, ℕ, take}
use Rattle.refusal.specs.Answer.{Answer, gives, refuses}
use Rattle.packet_reader.specs.declared.PacketReader.{PacketReader}
use Rattle.id_allocator.specs.declared.IdAllocator.{IdAllocator}
use Rattle.model.specs.Client.{Client}
use Rattle.model.specs.Model.{has_reply}
use Rattle.model.specs.Reading.{Rooms, reads}
use Rattle.model.specs.SendRequests.{kind_of, ShownSendings}
use Rattle.model.specs.declared.Connection.{Connection}
use Rattle.savepoint.specs.Calls.{laid, Values, Saves, Restores}
use Rattle.connection.specs.Calls.{Opens}
use Rattle.honest.specs.Run.{Entry, sent, note_sent, note_took}
use Rattle.honest.specs.Public.{state_of}
use Rattle.session.specs.Ask.{Ask, send_request_ask, enqueue_fds_ask, enqueue_packet_ask, discard_reply_ask, poll_for_reply_or_error_ask, poll_check_for_reply_or_error, poll_for_reply_ask, poll_for_event_with_sequence, take_closed_fds, prepare_check_for_reply_or_error, send_requests_ask, enqueue_packets_ask, poll_for_events_ask, Value, Outputs, Answers, OfBytes}
use Rattle.session.specs.Noting.{next, note_fed}

-- what the bytes of `send_requests` add to the log: a request for each of the first so many as were sent
unfoldable pub sent_all : List ℕ → List Entry → List Entry
sent_all [] l = l
sent_all (b ∷ bytes) l = sent_all bytes (sent (has_reply (kind_of b)) ∷ l)

unfoldable pub note_sends : {A : Type 0} → List ℕ → Answer (ShownSendings × A) → List Entry → List Entry
note_sends bytes (gives x) l = sent_all (take x.0.count bytes) l
note_sends bytes (refuses n) l = l

-- What a call on the state m adds to the log, which has what was accepted. The true numbers ts of the packets that a call brings are the server's: no call sees them.
abbrev pub logged : {S : Type 0} (x : Ask) → List ℕ → Client → Answer (Value x × S) → List Entry → List Entry
logged (send_request_ask kind) ts m a l = note_sent (has_reply kind) a l
logged (enqueue_fds_ask list) ts m a l = l
logged (enqueue_packet_ask p) ts m a l = note_took (next ts) p a l
logged (discard_reply_ask n mode) ts m a l = l
logged (poll_for_reply_or_error_ask n out fds) ts m a l = l
logged (poll_check_for_reply_or_error n out) ts m a l = l
logged (poll_for_reply_ask n out) ts m a l = l
logged (poll_for_event_with_sequence out) ts m a l = l
logged (take_closed_fds out) ts m a l = l
logged (prepare_check_for_reply_or_error n) ts m a l = l
logged (send_requests_ask bytes) ts m a l = note_sends bytes a l
logged (enqueue_packets_ask bytes) ts m a l = note_fed ts m bytes a l
logged (poll_for_events_ask out marks) ts m a l = l

-- A SESSION: state and rooms that it came to, and its log. Packets are of bytes. 02, M-100: saved with any reader, buffer and allocator beside it, and restored in other rooms, "the history up to the save stands, and packets and sends go on from there".
pub data Session : Connection → Rooms → List Entry → Type 1 where
  new : (o : ℕ) (r : Rooms) (c : Connection) → Opens o r (gives (tt, c)) → Session c r []
  call : {c : Connection} {r : Rooms} {l : List Entry} (x : Ask) → OfBytes x → (ts : List ℕ) (a : Answer (Value x × Connection)) (r' : Rooms) (o : Outputs x) → Answers x c r a r' o → Session c r l
      → Session (state_of a c) r' (logged x ts (reads c r) a l)
  restored : {c : Connection} {r : Rooms} {l : List Entry} (reader : PacketReader) (buffer : List ℕ) (ids : IdAllocator) (out : List ℕ) (n : ℕ) (out' : List ℕ) → Saves (laid c r reader buffer ids) out (gives n) out'
      → (q : Rooms) (b : List ℕ) (v : Values) (q' : Rooms) (b' : List ℕ) → Restores (take n out') q b (gives v) q' b' → Session c r l → Session v.0 q' l
