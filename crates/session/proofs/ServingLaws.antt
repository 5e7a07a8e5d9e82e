-- What a server's session comes to: it is a session, and its log has the server's numbered packets in order, none left out. Assumes nothing.
use Rattle.std.specs.Prelude.{Bool, List, [], ◌∷◌, ◌++◌, ◌≡◌, refl, ℕ, length, take, drop}
use Rattle.std.proofs.Common.{sym, ap, ◌∙◌, subst, arith}
use Rattle.refusal.specs.Answer.{Answer, gives, refuses}
use Rattle.packet_reader.specs.Frame.{cut_packets}
use Rattle.model.specs.Client.{Client}
use Rattle.model.specs.Model.{has_reply, Filing}
use Rattle.model.specs.Batch.{notes}
use Rattle.model.specs.Feed.{Took, ShownFed, shown_fed}
use Rattle.model.specs.Reading.{Rooms, reads}
use Rattle.model.specs.SendRequests.{kind_of, ShownSendings}
use Rattle.model.specs.declared.Connection.{Connection}
use Rattle.batch.specs.Feed.{enqueue_packets, feed_exact}
use Rattle.honest.specs.Run.{Entry, sent, note_sent, note_took, Honest}
use Rattle.honest.specs.Public.{Came, gave, kept, came}
use Rattle.honest.specs.Server.{Packet, packets_in, carrying, HonestServer}
use Rattle.honest.proofs.ServerLaws.{offered, log_honest}
use Rattle.session.specs.Ask.{Ask, send_request_ask, enqueue_fds_ask, enqueue_packet_ask, discard_reply_ask, poll_for_reply_or_error_ask, poll_check_for_reply_or_error, poll_for_reply_ask, poll_for_event_with_sequence, take_closed_fds, prepare_check_for_reply_or_error, send_requests_ask, enqueue_packets_ask, poll_for_events_ask, Value, Outputs, Answers}
use Rattle.session.specs.Noting.{noting, next, note_packet, took_of, note_fed}
use Rattle.session.specs.Session.{Session, sent_all, note_sends, logged}
use Rattle.session.specs.Serving.{brought, took_one, took_many, taken, bytes_in, numbers_in, Serves, new, call, restored}

pub serves_session : {all left : List Packet} {c : Connection} {r : Rooms} {l : List Entry} → Serves all left c r l → Session c r l
serves_session (new o r c h) = Session.new o r c h
serves_session (call ahead rest x b e a r' o h k) = Session.call x b (numbers_in ahead) a r' o h (serves_session k)
serves_session (restored reader buffer ids out n out' s q b v q' b' t k) = Session.restored reader buffer ids out n out' s q b v q' b' t (serves_session k)

-- ---- IN ORDER

-- requests are no packets
sent_none : {A : Type 0} (b : Bool) (a : Answer A) (l : List Entry) → packets_in (note_sent b a l) ≡ packets_in l
unfolding note_sent packets_in
sent_none b (gives x) l = refl
sent_none b (refuses n) l = refl

all_none : (bytes : List ℕ) (l : List Entry) → packets_in (sent_all bytes l) ≡ packets_in l
unfolding sent_all packets_in
all_none [] l = refl
all_none (b ∷ bytes) l = all_none bytes (sent (has_reply (kind_of b)) ∷ l)

sends_none : {A : Type 0} (bytes : List ℕ) (a : Answer (ShownSendings × A)) (l : List Entry) → packets_in (note_sends bytes a l) ≡ packets_in l
unfolding note_sends
sends_none bytes (gives x) l = all_none (take x.0.count bytes) l
sends_none bytes (refuses n) l = refl

-- a packet alone
one_order : {A : Type 0} (ahead rest : List Packet) (p : List ℕ) → bytes_in ahead ≡ p ∷ [] → (a : Answer (Filing × A)) (l : List Entry)
    → packets_in (note_took (next (numbers_in ahead)) p a l) ++ carrying (drop (took_one a) ahead ++ rest) ≡ packets_in l ++ carrying (ahead ++ rest)
unfolding took_one note_took
one_order [] rest p e a l = absurd (omega (arith, ap length e))
one_order (q ∷ ahead) rest p e (refuses n) l = refl
one_order (q ∷ ahead) rest p e (gives x) l =
    let w : q.bytes ≡ p = ap (λ (y : List (List ℕ)). head y) e in
    subst (λ (y : List ℕ). packets_in (note_took q.true_number y (gives x) l) ++ carrying (ahead ++ rest) ≡ packets_in l ++ carrying (q ∷ ahead ++ rest)) w (offered q (ahead ++ rest) l x)
  where
    head : List (List ℕ) → List ℕ
    head [] = []
    head (y ∷ ys) = y

-- the packets of a run, of which vs were taken
row_order : (ps rest : List Packet) (vs : List Took) (l : List Entry) → packets_in (notes note_packet (bytes_in ps) vs (noting (numbers_in ps) l)).log ++ carrying (drop (length vs) ps ++ rest) ≡ packets_in l ++ carrying (ps ++ rest)
unfolding notes note_packet
row_order [] rest [] l = refl
row_order [] rest (v ∷ vs) l = refl
row_order (p ∷ ps) rest [] l = refl
row_order (p ∷ ps) rest (v ∷ vs) l =
    row_order ps rest vs (note_took p.true_number p.bytes (gives (v.filing, tt {0})) l) ∙ offered p (ps ++ rest) l (v.filing, tt {0})

fed_order : (ahead rest : List Packet) (m : Client) (bytes : List ℕ) → bytes_in ahead ≡ (cut_packets m.order bytes).packets → (r : Rooms) {a : Answer (ShownFed × Connection)} {r' : Rooms} → Came shown_fed (enqueue_packets m bytes) r a r' → (l : List Entry)
    → packets_in (note_fed (numbers_in ahead) m bytes a l) ++ carrying (drop (took_many a) ahead ++ rest) ≡ packets_in l ++ carrying (ahead ++ rest)
unfolding note_fed took_of took_many
fed_order ahead rest m bytes e r (gave v s r' q) l =
    let end : List Packet = carrying (drop (length v.packets) ahead ++ rest) in
    subst (λ (vs : List Took). packets_in (notes note_packet (cut_packets m.order bytes).packets vs (noting (numbers_in ahead) l)).log ++ end ≡ packets_in l ++ carrying (ahead ++ rest)) (sym (ap took_of q))
    (subst (λ (ps : List (List ℕ)). packets_in (notes note_packet ps v.packets (noting (numbers_in ahead) l)).log ++ end ≡ packets_in l ++ carrying (ahead ++ rest)) e (row_order ahead rest v.packets l))
fed_order ahead rest m bytes e r (kept n) l = refl

-- a call brings its packets in order
call_order : (ahead rest : List Packet) (x : Ask) (c : Connection) (r : Rooms) → bytes_in ahead ≡ brought c.order x → (a : Answer (Value x × Connection)) (r' : Rooms) (o : Outputs x) → Answers x c r a r' o → (l : List Entry)
    → packets_in (logged x (numbers_in ahead) (reads c r) a l) ++ carrying (drop (taken x a) ahead ++ rest) ≡ packets_in l ++ carrying (ahead ++ rest)
unfolding reads
call_order ahead rest (send_request_ask kind) c r e a r' o h l = ap (λ y. y ++ carrying (ahead ++ rest)) (sent_none (has_reply kind) a l)
call_order ahead rest (enqueue_fds_ask list) c r e a r' o h l = refl
call_order ahead rest (enqueue_packet_ask p) c r e a r' o h l = one_order ahead rest p e a l
call_order ahead rest (discard_reply_ask n mode) c r e a r' o h l = refl
call_order ahead rest (poll_for_reply_or_error_ask n out fds) c r e a r' o h l = refl
call_order ahead rest (poll_check_for_reply_or_error n out) c r e a r' o h l = refl
call_order ahead rest (poll_for_reply_ask n out) c r e a r' o h l = refl
call_order ahead rest (poll_for_event_with_sequence out) c r e a r' o h l = refl
call_order ahead rest (take_closed_fds out) c r e a r' o h l = refl
call_order ahead rest (prepare_check_for_reply_or_error n) c r e a r' o h l = refl
call_order ahead rest (send_requests_ask bytes) c r e a r' o h l = ap (λ y. y ++ carrying (ahead ++ rest)) (sends_none bytes a l)
call_order ahead rest (enqueue_packets_ask bytes) c r e a r' o h l = fed_order ahead rest (reads c r) bytes e r (came shown_fed (feed_exact c r bytes) (λ m. enqueue_packets m bytes) c r a r' h) l
call_order ahead rest (poll_for_events_ask out marks) c r e a r' o h l = refl

-- THE LOG's packets, and those that are left, are the server's.
pub serves_in_order : {all rest : List Packet} {c : Connection} {r : Rooms} {l : List Entry} → Serves all rest c r l → packets_in l ++ carrying rest ≡ carrying all
unfolding packets_in
serves_in_order (new o r c h) = refl
serves_in_order (call {c = c} {r = r} {l = l} ahead rest x b e a r' o h k) = call_order ahead rest x c r e a r' o h l ∙ serves_in_order k
serves_in_order (restored reader buffer ids out n out' s q b v q' b' t k) = serves_in_order k

-- So the log is honest where the server is.
pub serves_honest : {all rest : List Packet} {c : Connection} {r : Rooms} {l : List Entry} (o : ℕ) → Serves all rest c r l → HonestServer o all l → Honest o l
serves_honest {all} {rest} {l = l} o k h = log_honest o all rest l (serves_in_order k) h
