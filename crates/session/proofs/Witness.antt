-- Laws of `specs/Witness.antt`. Assumes nothing.
use Rattle.std.specs.Prelude.{true, false, not, List, [], ◌∷◌, ◌++◌, ◌≡◌, ℕ, zero, suc, ◌≤◌, ◌<◌, ltb, eqb, length, get_or, replicate, take, drop}
use Rattle.std.proofs.Common.{inl, inr, ⊎_elim, sym, ◌∙◌, arith, ltb-true, le-ltb}
use Rattle.std.proofs.Math.Path.{refl, ap, subst}
use Rattle.octets.specs.Logic.{choose, both, either, both_left, both_right}
use Rattle.octets.specs.Bytes.{legal}
use Rattle.octets.specs.Put.{put}
use Rattle.requests.specs.Room.{capacity}
use Rattle.refusal.specs.Answer.{Answer, gives, refuses, refuse, pass, gives_same, past_refusal}
use Rattle.model.specs.Client.{Client, inside}
use Rattle.packet.specs.Packet as Packet
use Rattle.packet.specs.Packet.{was_sent, class_of, PacketClass}
use Rattle.id_allocator.specs.Ids as Ids
use Rattle.id_allocator.specs.declared.IdAllocator.{IdAllocator}
use Rattle.packet_reader.specs.Reader as Reader
use Rattle.packet_reader.specs.Sound as ReaderSound
use Rattle.packet_reader.specs.declared.PacketReader.{PacketReader}
use Rattle.packet_reader.specs.Frame.{length_as, total_of, aim, cuts, cut_packets}
use Rattle.model.specs.Model.{roomy, fresh, Filing}
use Rattle.model.specs.Batch.{many, on_turn, model_turn, notes}
use Rattle.model.specs.Feed.{model_took}
use Rattle.model.specs.SendRequests.{send_turn, send_requests}
use Rattle.model.specs.PollForEvents.{turns, room_for, handing, event_turn, or_refused, handed, poll_for_events}
use Rattle.model.specs.declared.ReplyFdKind.TheVariants.{ReplyWithoutFds}
use Rattle.model.specs.declared.Place.{Place}
use Rattle.model.specs.declared.Place.TheVariants.{Replies, Events}
use Rattle.batch.specs.Feed.{stop_at, enqueue_packets}
use Rattle.honest.specs.Computing.{computing, packet_of}
use Rattle.honest.specs.Test.{every}
use Rattle.model.specs.Promise.{Done, answer_of, rooms_of, model_of, guarded, guarded_on}
use Rattle.model.specs.Reading.{Rooms, rooms, reads}
use Rattle.model.specs.Sound.{is_sound}
use Rattle.model.specs.declared.Connection.{Connection}
use Rattle.savepoint.specs.Saved.{Saved, encode, decode}
use Rattle.savepoint.proofs.SavedLaws.{decode_encode}
use Rattle.savepoint.specs.Calls.{Laid, laid, saved_of, holds, length_of, bytes_of, count_of, output_of, fitting, placed, Values, values_of, rooms_after, buffer_after, Saves, Restores}
use Rattle.savepoint.specs.Calls as Savepoint
use Rattle.savepoint.specs.Theorems as Laid
use Rattle.savepoint.proofs.Theorems as LaidLaws
use Rattle.connection.specs.Calls.{fresh_state, Opens}
use Rattle.connection.specs.Opening.{opens_fresh, opens_done}
use Rattle.honest.specs.Run.{Entry, sent, took, note_sent, note_took}
use Rattle.honest.specs.Public.{state_of}
use Rattle.honest.specs.Server.{Packet, carrying, HonestServer}
use Rattle.session.specs.Ask.{Ask, send_request_ask, enqueue_fds_ask, enqueue_packet_ask, discard_reply_ask, poll_for_reply_or_error_ask, poll_check_for_reply_or_error, poll_for_reply_ask, poll_for_event_with_sequence, take_closed_fds, prepare_check_for_reply_or_error, send_requests_ask, enqueue_packets_ask, poll_for_events_ask, form, Value, OfBytes}
use Rattle.session.specs.AskLaws.{has_form, some_answer}
use Rattle.session.specs.Noting.{note_packet, took_of, note_fed}
use Rattle.session.specs.Session.{sent_all, note_sends, logged}
use Rattle.session.specs.Serving.{took_one, took_many, brought, taken, bytes_in, numbers_in, Serves, new, call, restored}
use Rattle.session.proofs.ServingLaws.{serves_session}
use Rattle.session.proofs.Theorems.{session_sound}
use Rattle.session.specs.Witness.{shown, told, next, Reached}

-- ---- the log and the count do not look at the state

given_alike : (x : Ask) {S T : Type 0} (ts : List ℕ) (m : Client) (v : Value x) (s : S) (t : T) (l : List Entry)
    → (logged x ts m (gives (v, s)) l ≡ logged x ts m (gives (v, t)) l) × (taken {S = S} x (gives (v, s)) ≡ taken {S = T} x (gives (v, t)))
unfolding note_sent note_took note_sends note_fed took_one took_many
given_alike (send_request_ask kind) ts m v s t l = (refl, refl)
given_alike (enqueue_fds_ask list) ts m v s t l = (refl, refl)
given_alike (enqueue_packet_ask p) ts m v s t l = (refl, refl)
given_alike (discard_reply_ask n mode) ts m v s t l = (refl, refl)
given_alike (poll_for_reply_or_error_ask n out fds) ts m v s t l = (refl, refl)
given_alike (poll_check_for_reply_or_error n out) ts m v s t l = (refl, refl)
given_alike (poll_for_reply_ask n out) ts m v s t l = (refl, refl)
given_alike (poll_for_event_with_sequence out) ts m v s t l = (refl, refl)
given_alike (take_closed_fds out) ts m v s t l = (refl, refl)
given_alike (prepare_check_for_reply_or_error n) ts m v s t l = (refl, refl)
given_alike (send_requests_ask bytes) ts m v s t l = (refl, refl)
given_alike (enqueue_packets_ask bytes) ts m v s t l = (refl, refl)
given_alike (poll_for_events_ask out marks) ts m v s t l = (refl, refl)

refused_alike : (x : Ask) (S T : Type 0) (ts : List ℕ) (m : Client) (n : ℕ) (l : List Entry)
    → (logged {S = S} x ts m (refuses n) l ≡ logged {S = T} x ts m (refuses n) l) × (taken {S = S} x (refuses n) ≡ taken {S = T} x (refuses n))
unfolding note_sent note_took note_sends note_fed took_one took_many
refused_alike (send_request_ask kind) S T ts m n l = (refl, refl)
refused_alike (enqueue_fds_ask list) S T ts m n l = (refl, refl)
refused_alike (enqueue_packet_ask p) S T ts m n l = (refl, refl)
refused_alike (discard_reply_ask i mode) S T ts m n l = (refl, refl)
refused_alike (poll_for_reply_or_error_ask i out fds) S T ts m n l = (refl, refl)
refused_alike (poll_check_for_reply_or_error i out) S T ts m n l = (refl, refl)
refused_alike (poll_for_reply_ask i out) S T ts m n l = (refl, refl)
refused_alike (poll_for_event_with_sequence out) S T ts m n l = (refl, refl)
refused_alike (take_closed_fds out) S T ts m n l = (refl, refl)
refused_alike (prepare_check_for_reply_or_error i) S T ts m n l = (refl, refl)
refused_alike (send_requests_ask bytes) S T ts m n l = (refl, refl)
refused_alike (enqueue_packets_ask bytes) S T ts m n l = (refl, refl)
refused_alike (poll_for_events_ask out marks) S T ts m n l = (refl, refl)

-- ---- A CALL MORE: there is an answer, and it is the model's

module _ (all ahead rest : List Packet) (l : List Entry) (x : Ask) where
  -- what is left and what is logged, by an answer
  abbrev Goes : {S : Type 0} → Client → Answer (Value x × S) → Client → Type 1
  Goes m a m' = Reached all (drop (taken x a) ahead ++ rest) m' (logged x (numbers_in ahead) m a l)

  by_outcome : (c : Connection) (r : Rooms) (g : Answer (Done (form x).Given)) → model_of g ≡ (form x).modelled (reads c r)
      → Serves all (drop (taken x (answer_of (form x).shows g)) ahead ++ rest) (state_of (answer_of (form x).shows g) c) (rooms_of g r) (logged x (numbers_in ahead) (reads c r) (answer_of (form x).shows g) l)
      → Goes (reads c r) (told x (reads c r)) (next (told x (reads c r)) (reads c r))
  unfolding answer_of rooms_of model_of shown next state_of
  by_outcome c r (gives d) e k =
      let z = given_alike x (numbers_in ahead) (reads c r) ((form x).shows d.value) d.state (reads d.state d.left) l in
      subst (λ (y : Answer ((form x).Given × Client)). Goes (reads c r) (shown (form x).shows y) (next (shown (form x).shows y) (reads c r))) e
      (record { state = d.state; left = d.left; run = rw (z.0, z.1) at k; read = refl })
  by_outcome c r (refuses n) e k =
      let z = refused_alike x Connection Client (numbers_in ahead) (reads c r) n l in
      subst (λ (y : Answer ((form x).Given × Client)). Goes (reads c r) (shown (form x).shows y) (next (shown (form x).shows y) (reads c r))) e
      (record { state = c; left = r; run = rw (z.0, z.1) at k; read = refl })

  by_answer : OfBytes x → (c : Connection) (r : Rooms) → bytes_in ahead ≡ brought c.order x → Serves all (ahead ++ rest) c r l → Goes (reads c r) (told x (reads c r)) (next (told x (reads c r)) (reads c r))
  by_answer b c r e k =
      let s = some_answer x b c r in
      let p = (has_form x c r s.0 s.1 s.2 s.3).promise in
      by_outcome c r (guarded c r ((form x).exactly c r)) (p.model ∙ guarded_on c r ((form x).modelled (reads c r)) (is_sound c r (session_sound (serves_session k))))
      (rw (p.exact.answers, p.exact.leaves) at (call ahead rest x b e s.0 s.1 s.2 s.3 k))

  pub on : (m : Client) → OfBytes x → bytes_in ahead ≡ brought m.order x → Reached all (ahead ++ rest) m l → Goes m (told x m) (next (told x m) m)
  unfolding reads
  on m b e k = subst (λ (y : Client). Goes y (told x y) (next (told x y) y)) k.read (by_answer b k.state k.left (e ∙ ap (λ (y : Client). brought y.order x) (sym k.read)) k.run)

-- A session begins: room for four requests, a store of 150 bytes, and nothing in either.
abbrev empty : Rooms
empty = rooms (replicate 4 0) (replicate 150 0) (replicate 256 0)

opening : Opens 108 empty (gives (tt, fresh_state 108 4 150))
unfolding roomy capacity legal both either
opening = opens_done 108 empty refl {k = 4} refl refl refl (fresh_state 108 4 150) refl

pub begun : (all : List Packet) → Reached all all (fresh 108 4 150) []
unfolding capacity
begun all = record { state = fresh_state 108 4 150; left = empty; run = new 108 empty (fresh_state 108 4 150) opening; read = opens_fresh 108 empty (fresh_state 108 4 150) opening }

-- ---- A SAVEPOINT MORE: where no descriptor is inside there is one, and it is restored

-- A session that is saved and restored goes on, with the same packets to come and the same log.
goes_over : {all rest : List Packet} {m : Client} {l : List Entry} (z : Reached all rest m l) (reader : PacketReader) (buffer : List ℕ) (ids : IdAllocator) (out : List ℕ) (n : ℕ) (out' : List ℕ) → Saves (laid z.state z.left reader buffer ids) out (gives n) out'
    → (q : Rooms) (b : List ℕ) (v : Values) (q' : Rooms) (b' : List ℕ) → Restores (take n out') q b (gives v) q' b' → Reached all rest m l
goes_over z reader buffer ids out n out' s q b v q' b' t =
    record { state = v.0; left = q'; run = restored reader buffer ids out n out' s q b v q' b' t z.run; read = sym (LaidLaws.again_alike (laid z.state z.left reader buffer ids) out n out' s q b v q' b' t).same ∙ z.read }

-- What is saved of a sound client without descriptors, into an output that is long enough, comes back in rooms of the lengths saved.
pub some_savepoint : (x : Laid) → Laid.Sound x → holds x ≡ false → (q : Rooms) (b : List ℕ) → fitting (saved_of x) q b ≡ true → (out : List ℕ) → length (encode (saved_of x)) ≤ length out
    → (n : ℕ) × (out' : List ℕ) × Saves x out (gives n) out' × (v : Values) × (q' : Rooms) × (b' : List ℕ) × Restores (take n out') q b (gives v) q' b'
unfolding length_of bytes_of count_of output_of Savepoint.restored values_of rooms_after buffer_after pass
some_savepoint x S h q b f out long =
    let w : List ℕ = encode (saved_of x) in
    let e : gives w ≡ bytes_of x (length out) =
    past_refusal _ 8 _ (le-ltb _ _ long)
    ∙ ap (λ (a : Answer ℕ). pass a (λ n. refuse (ltb (length out) n) 8 (gives w))) (past_refusal _ 18 (gives (length w)) h ∙ past_refusal _ 9 _ (ap not (LaidLaws.is_sound x S))) in
    let s : Saves x out (gives (length w)) (put out 0 w) = record { answers = ap count_of e; writes = ap (λ (a : Answer (List ℕ)). output_of a out) e } in
    let u : w ≡ take (length w) (put out 0 w) = gives_same (e ∙ sym (LaidLaws.saves_given x out (length w) (put out 0 w) s)) in
    let y : Laid = placed (saved_of x) q b in
    let g : gives y ≡ Savepoint.restored (take (length w) (put out 0 w)) q b =
    past_refusal _ 9 _ (ap not f)
    ∙ ap (λ (a : Answer Saved). pass a (λ z. refuse (not (fitting z q b)) 9 (gives (placed z q b)))) (decode_encode (saved_of x) (LaidLaws.saved_sound x S h) ∙ ap decode u) in (
      length w,
      put out 0 w,
      s,
      (y.connection, (y.reader, y.ids)),
      y.rooms,
      y.buffer,
      record { answers = ap values_of g; leaves = ap (λ (a : Answer Laid). rooms_after a q) g; fills = ap (λ (a : Answer Laid). buffer_after a b) g },
    )

-- beside the connection: a reader with nothing filled, its buffer, and an allocator
abbrev buffer : List ℕ
buffer = replicate 32 0

reader_sound : ReaderSound.Sound (Reader.fresh 108) buffer
unfolding Reader.soundb Reader.room aim choose legal both either
reader_sound = ReaderSound.sound_is (Reader.fresh 108) buffer refl

abbrev some_ids : IdAllocator
some_ids = record { next = 0; last = 255; step = 1 }

ids_sound : Ids.sound some_ids ≡ true
unfolding Ids.sound Ids.power_below both either
ids_sound = refl

-- saved with these, and restored in the rooms that a session begins with
pub over : (all rest : List Packet) (l : List Entry) (m : Client) → m.most_requests ≡ 4 → m.most_bytes ≡ 150 → inside m ≡ 0 → Reached all rest m l → Reached all rest m l
unfolding holds fitting capacity both
over all rest l m k s d z =
    let x : Laid = laid z.state z.left (Reader.fresh 108) buffer some_ids in
    let S : Laid.Sound x = record { connection = session_sound (serves_session z.run); reader = reader_sound; ids = ids_sound } in
    let h : holds x ≡ false = ap (λ (n : ℕ). not (eqb n 0)) (ap inside z.read ∙ d) in
    let f : fitting (saved_of x) empty buffer ≡ true = λ i. both (eqb 4 ((ap (λ (c : Client). c.most_requests) z.read ∙ k) i)) (both (eqb 150 ((ap (λ (c : Client). c.most_bytes) z.read ∙ s) i)) true) in
    let w = some_savepoint x S h empty buffer f (encode (saved_of x)) (omega arith) in
    goes_over z (Reader.fresh 108) buffer some_ids (encode (saved_of x)) w.0 w.1 w.2 empty buffer w.3 w.4 w.5 w.6

-- ---- A SESSION with an honest server: an event, a KeymapNotify, one that SendEvent made, a reply and an event. The store holds three packets, so that of the first four, brought at once, the reply is refused, and again when it is brought alone; the three that are held are handed out at
-- once, and the last two are taken. Request 1, which has no reply, gets no packet before the reply to request 2; request 3 is pending at the end.

abbrev an_event : Packet
an_event = record { true_number = 0; bytes = packet_of 2 0 0 }

abbrev a_keymap : Packet
a_keymap = record { true_number = 0; bytes = packet_of 11 255 65535 }

abbrev a_sent : Packet
a_sent = record { true_number = 0; bytes = packet_of 139 254 3 }

abbrev a_reply : Packet
a_reply = record { true_number = 2; bytes = packet_of 1 0 2 }

abbrev a_last : Packet
a_last = record { true_number = 2; bytes = packet_of 3 0 2 }

abbrev server : List Packet
server = an_event ∷ a_keymap ∷ a_sent ∷ a_reply ∷ a_last ∷ []

abbrev filed : Place → ℕ → PacketClass → Filing
filed place n k = record { place = place; number = n; class = k }

abbrev witness_log : List Entry
witness_log = sent true ∷ took 2 a_last.bytes (filed Events 2 (Packet.event false)) ∷ took 2 a_reply.bytes (filed Replies 2 Packet.reply) ∷ took 0 an_event.bytes (filed Events 0 (Packet.event false)) ∷ sent true ∷ sent false ∷ []

-- a run of bytes, and outputs of so many places
abbrev zeros : ℕ → List ℕ
zeros n = replicate n 0

byte_of : (l : List ℕ) → every (λ n. ltb n 256) l ≡ true → (i : ℕ) → get_or l i 0 < 256
unfolding every
byte_of [] h i = omega arith
byte_of (a ∷ l) h zero = ltb-true _ _ (both_left _ _ h)
byte_of (a ∷ l) h (suc i) = byte_of l (both_right _ _ h) i

abbrev first_run : List ℕ
first_run = an_event.bytes ++ (a_keymap.bytes ++ (a_sent.bytes ++ a_reply.bytes))

abbrev last_run : List ℕ
last_run = a_reply.bytes ++ a_last.bytes

-- the session, with a step more while those three are held: any that leaves it as it is read
witness_with : ((l : List Entry) (m : Client) → m.most_requests ≡ 4 → m.most_bytes ≡ 150 → inside m ≡ 0 → Reached server (a_reply ∷ a_last ∷ []) m l → Reached server (a_reply ∷ a_last ∷ []) m l) → (m : Client) × Reached server [] m witness_log
unfolding computing shown next took_one took_many note_sends sent_all note_fed notes note_packet took_of enqueue_packets cut_packets cuts aim total_of length_as class_of was_sent many on_turn model_took stop_at send_turn send_requests poll_for_events handed or_refused event_turn handing model_turn room_for turns every
witness_with a-step = (
  _,
  on server [] [] _ (send_request_ask ReplyWithoutFds) _ tt refl
      (on server (a_reply ∷ a_last ∷ []) [] _ (enqueue_packets_ask last_run) _ (byte_of last_run refl) refl
      (on server [] (a_reply ∷ a_last ∷ []) _ (poll_for_events_ask (zeros 96) (zeros 6)) _ tt refl
      (a-step _ _ refl refl refl
      (on server (a_reply ∷ []) (a_last ∷ []) _ (enqueue_packet_ask a_reply.bytes) _ (omega arith) refl
      (on server (an_event ∷ a_keymap ∷ a_sent ∷ a_reply ∷ []) (a_last ∷ []) _ (enqueue_packets_ask first_run) _ (byte_of first_run refl) refl
      (on server [] server _ (send_requests_ask (0 ∷ 1 ∷ [])) _ tt refl (begun server))))))),
)

pub witness : (m : Client) × Reached server [] m witness_log
witness = witness_with (λ l m k s d z. z)

-- The same session, saved while those three are held, and restored.
pub witness_restored : (m : Client) × Reached server [] m witness_log
witness_restored = witness_with (over server (a_reply ∷ a_last ∷ []))

-- the server is honest in it
pub witness_honest : HonestServer 108 server witness_log
unfolding computing carrying
witness_honest =
    record {
      wire = (refl, (refl, (refl, tt)));
      rising = ((omega arith, (omega arith, tt)), ((omega arith, tt), (tt, tt)));
      known = (omega arith, (omega arith, (omega arith, tt)));
      answered = λ q a. ⊎_elim (λ (e : q ≡ 3). inr (omega arith, inr (omega arith, inr (omega arith, tt)))) (λ b. ⊎_elim (λ (e : q ≡ 2). inr (omega arith, inl (sym e))) (λ z. absurd z) b) a;
    }
