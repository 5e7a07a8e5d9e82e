-- DEMAND 3, WORD FOR WORD, for the public calls: of the answers and the rooms as they are, with the server's own list of packets. Assumes nothing.
use Rattle.std.specs.Prelude.{Bool, true, false, List, [], ◌∷◌, ◌++◌, ◌≡◌, refl, ℕ, ltb, length, take, drop}
use Rattle.std.proofs.Common.{sym, ap, ◌∙◌, subst, arith}
use Rattle.refusal.specs.Answer.{Answer, gives, refuses, refuse, gives_rest, gives_same}
use Rattle.packet.specs.Packet.{code_of, unnumbered}
use Rattle.packet_reader.specs.Frame.{cut_packets}
use Rattle.model.specs.Client.{Held, Client, set_events}
use Rattle.model.specs.Model as Model
use Rattle.model.specs.Model.{Filing, Taken, PollReply, event_by, poll_for_event}
use Rattle.model.specs.Calls as Calls
use Rattle.model.specs.Calls.{says_taken, says_poll, step, outcome}
use Rattle.model.specs.Batch.{Each, Many, many, on_turn, onward, model_turn, Stop, ended, refused, meaningless, notes}
use Rattle.model.specs.Feed as Feed
use Rattle.model.specs.Feed.{Took, ShownFed, shown_fed}
use Rattle.model.specs.PollForEvents.{turns, Lent, lent, room_for, handing, event_turn, or_refused, handed, poll_for_events, Handings}
use Rattle.model.specs.Promise.{Done, answer_of, model_of, guarded}
use Rattle.model.specs.Reading.{Rooms, reads}
use Rattle.model.specs.declared.Connection.{Connection}
use Rattle.batch.specs.Feed.{enqueue_packets, feed_exact}
use Rattle.connection.specs.Calls.{Enqueues, EnqueuesMany}
use Rattle.honest.specs.Run.{Entry, Runs, note_took, Honest, Right, Ordinary, Filed, Holds, Hands}
use Rattle.honest.specs.Public.{Came, gave, kept, came, public_runs}
use Rattle.honest.specs.Handing.{hands}
use Rattle.honest.specs.Server.{Packet, packets_in, carrying, HonestServer}
use Rattle.honest.specs.Origins.{Lists, Traced, AllTied, OneOf}
use Rattle.honest.specs.OriginsLaws.{Trace}
use Rattle.honest.proofs.OriginsLaws.{runs_traced, traced_client, tied_grown, holds_one}
use Rattle.honest.proofs.Theorems.{run_tied}
use Rattle.session.specs.Ask.{Ask, send_request_ask, enqueue_fds_ask, enqueue_packet_ask, discard_reply_ask, poll_for_reply_or_error_ask, poll_check_for_reply_or_error, poll_for_reply_ask, poll_for_event_with_sequence, take_closed_fds, prepare_check_for_reply_or_error, send_requests_ask, enqueue_packets_ask, poll_for_events_ask, form, Value, Outputs, Answers, OfBytes}
use Rattle.session.specs.AskLaws.{HasForm, outputs_of, has_form}
use Rattle.session.specs.Noting.{noting, note_packet, note_fed, took_of}
use Rattle.session.specs.Session.{Session}
use Rattle.session.proofs.Theorems.{session_public, session_true, session_filed}
use Rattle.session.proofs.FeedFiled.{noted_honest, run_fed, run_refused}
use Rattle.session.specs.Serving.{bytes_in, numbers_in, Serves, call, FiledAll, NextFair, handed_out, HandsTied, of_taken, of_poll}
use Rattle.session.proofs.ServingLaws.{serves_session, serves_in_order, serves_honest}

-- ---- The records of a session, followed

-- a session as it is read
pub session_runs : {c : Connection} {r : Rooms} {l : List Entry} → Session c r l → Runs (reads c r) l
session_runs k = public_runs (session_public k)

-- they can be followed
pub session_traced : {c : Connection} {r : Rooms} {l : List Entry} (k : Session c r l) → Trace (session_runs k)
session_traced k = runs_traced (session_runs k)

-- TIED: each that is held bears the true number of the very packet that it came from.
pub session_tied : {c : Connection} {r : Rooms} {l : List Entry} (k : Session c r l) → Honest c.order l → (x : Lists) → Traced (reads c r) l (session_runs k) x → AllTied (packets_in l) x
unfolding reads
session_tied k h x t = run_tied t h

-- ---- What is handed out

-- by a single call
taken_each : (P : Held → Type 0) (v : Taken) → Hands P (says_taken v) → Each P (of_taken v)
taken_each P Model.none h = tt
taken_each P (Model.packet x) h = (h, tt)

poll_each : (P : Held → Type 0) (v : PollReply) → Hands P (says_poll v) → Each P (of_poll v)
poll_each P Model.try_again h = tt
poll_each P Model.no_reply h = tt
poll_each P (Model.reply x) h = (h, tt)

-- by a row of polls for an event
row_each : (P : Held → Type 0) (ts : List Bool) (m : Lent Client) → Each P m.at.events → Each P (many event_turn ended m ts).values
unfolding many on_turn event_turn handing model_turn poll_for_event refuse
row_each P [] m a = tt
row_each P (t ∷ ts) m a = go m.at.events a (λ m' b. row_each P ts m' b)
  where
    next : (h : Held) (es : List Held) → P h → Each P es → ((m' : Lent Client) → Each P m'.at.events → Each P (many event_turn ended m' ts).values) → (b : Bool)
        → Each P (on_turn (λ h m'. onward (h ∷ []) (many event_turn ended m' ts)) (λ w. record { values = []; stopped = w; end = m }) (handing m.room (model_turn (refuse b 8 (gives (Model.packet h, set_events m.at es)))))).values
    next h es p a on true = tt
    next h es p a on false = (p, on _ a)

    go : (es : List Held) → Each P es → ((m' : Lent Client) → Each P m'.at.events → Each P (many event_turn ended m' ts).values)
        → Each P (on_turn (λ h m'. onward (h ∷ []) (many event_turn ended m' ts)) (λ w. record { values = []; stopped = w; end = m }) (handing m.room (model_turn (event_by m.at (room_for t m.room) es)))).values
    go [] a on = tt
    go (h ∷ es) a on = next h es a.0 a.1 on (ltb (room_for t m.room) (length h.packet))

given_some : {A : Type 0} (vs : List Held) (w : Stop) (x y : A) → or_refused vs w (gives x) ≡ gives y → y ≡ x
unfolding or_refused
given_some [] ended x y q = sym (gives_same q)
given_some [] (refused n) x y q = absurd (let z : ◌≡◌ {A = ℕ} 0 1 = cc in omega arith)
given_some [] meaningless x y q = sym (gives_same q)
given_some (h ∷ vs) w x y q = sym (gives_same q)

events_each : (P : Held → Type 0) (m : Client) (room marks : ℕ) (v : Handings) (m' : Client) → Each P m.events → poll_for_events m room marks ≡ gives (v, m') → Each P v.events
unfolding poll_for_events handed
events_each P m room marks v m' a e =
    let x : Many Held Stop (Lent Client) = many event_turn ended (lent m room) (turns marks) in
    subst (λ (y : Handings × Client). Each P y.0.events) (sym (given_some x.values x.stopped _ (v, m') e)) (row_each P (turns marks) (lent m room) a)

-- what is true of each record that is held is true of each that a public call hands out
handed_each : (P : Held → Type 0) (m : Client) → Holds P m → (z : Ask) (v : (form z).Given) (m' : Client) → (form z).modelled m ≡ gives (v, m') → Each P (handed_out z v)
unfolding step
handed_each P m k (send_request_ask kind) v m' e = tt
handed_each P m k (enqueue_fds_ask list) v m' e = tt
handed_each P m k (enqueue_packet_ask p) v m' e = tt
handed_each P m k (discard_reply_ask n mode) v m' e = tt
handed_each P m k (poll_for_reply_or_error_ask n out fds) v m' e = taken_each P v (subst (λ (a : Answer (Taken × Client)). Hands P (outcome says_taken m a).said) e (hands P m (Calls.poll n (length out) (length fds)) k))
handed_each P m k (poll_check_for_reply_or_error n out) v m' e = poll_each P v (subst (λ (a : Answer (PollReply × Client)). Hands P (outcome says_poll m a).said) e (hands P m (Calls.check n (length out)) k))
handed_each P m k (poll_for_reply_ask n out) v m' e = poll_each P v (subst (λ (a : Answer (PollReply × Client)). Hands P (outcome says_poll m a).said) e (hands P m (Calls.poll_reply n (length out)) k))
handed_each P m k (poll_for_event_with_sequence out) v m' e = taken_each P v (subst (λ (a : Answer (Taken × Client)). Hands P (outcome says_taken m a).said) e (hands P m (Calls.poll_event (length out)) k))
handed_each P m k (take_closed_fds out) v m' e = tt
handed_each P m k (prepare_check_for_reply_or_error n) v m' e = tt
handed_each P m k (send_requests_ask bytes) v m' e = tt
handed_each P m k (enqueue_packets_ask bytes) v m' e = tt
handed_each P m k (poll_for_events_ask out marks) v m' e = events_each P m (length out) (length marks) v m' k.1 e

-- so of an answer that keeps its promise, and of its outputs
handed_form : (z : Ask) (ps : List Packet) (x : Lists) (c : Connection) (r : Rooms) (a : Answer (Value z × Connection)) (r' : Rooms) (o : Outputs z) → HasForm (form z) c r a r' o → Holds (OneOf ps x) (reads c r)
    → HandsTied z ps x a o
unfolding answer_of outputs_of model_of guarded
handed_form z ps x c r a r' o f k = rw f.promise.exact.answers (go (guarded c r ((form z).exactly c r)) f.promise.model f.outputs)
  where
    go : (g : Answer (Done (form z).Given)) → model_of g ≡ guarded c r ((form z).modelled (reads c r)) → o ≡ outputs_of (form z).lent (form z).written g → HandsTied z ps x (answer_of (form z).shows g) o
    go (gives d) q w = (d.value, refl, w, handed_each (OneOf ps x) (reads c r) k z d.value (reads d.state d.left) (sym (gives_rest _ 9 _ q)))
    go (refuses n) q w = tt

-- HANDED OUT: what any call answers and writes is of records that were held, each tied to the very packet that it came from.
pub session_handed_lem : {c : Connection} {r : Rooms} {l : List Entry} (k : Session c r l) → Honest c.order l → (x : Lists) → Traced (reads c r) l (session_runs k) x
    → (z : Ask) (a : Answer (Value z × Connection)) (r' : Rooms) (o : Outputs z) → Answers z c r a r' o → HandsTied z (packets_in l) x a o
session_handed_lem {c} {r} {l} k h x t z a r' o q = handed_form z (packets_in l) x c r a r' o (has_form z c r a r' o q) (holds_one (reads c r) (packets_in l) x (traced_client t) (session_tied k h x t))

-- ---- `enqueue_packets`

fed_came : {m : Client} {l : List Entry} (k : Runs m l) (bytes : List ℕ) (ps : List Packet) → bytes_in ps ≡ (cut_packets m.order bytes).packets → {r : Rooms} {a : Answer (ShownFed × Connection)} {r' : Rooms} → Came shown_fed (enqueue_packets m bytes) r a r'
    → Honest m.order (note_fed (numbers_in ps) m bytes a l) → (f : ShownFed) (s : Connection) → a ≡ gives (f, s) → FiledAll m (take f.packets ps) (reads s r')
unfolding note_fed took_of
fed_came {m} {l} k bytes ps cuts (gave v s' r' q) h f s e =
    let g = gives_same e in
    subst (λ (y : ShownFed × Connection). FiledAll m (take y.0.packets ps) (reads y.1 r')) g
    (run_fed k bytes ps cuts v (reads s' r') q (subst (λ (vs : List Took). Honest m.order (notes note_packet (cut_packets m.order bytes).packets vs (noting (numbers_in ps) l)).log) (ap took_of q) h))
fed_came k bytes ps cuts (kept n) h f s e = absurd (let z : ◌≡◌ {A = ℕ} 0 1 = cc in omega arith)

-- FED: the packets ps that the bytes are cut into, of which the answer says that so many were taken: these stand in the rooms that the call leaves, or were dropped, each under its true number, and all in their order.
pub session_fed : {c : Connection} {r : Rooms} {l : List Entry} (k : Session c r l) (bytes : List ℕ) (ps : List Packet) → bytes_in ps ≡ (cut_packets c.order bytes).packets → (a : Answer (ShownFed × Connection)) (r' : Rooms) → EnqueuesMany c r bytes a r'
    → Honest c.order (note_fed (numbers_in ps) (reads c r) bytes a l) → (f : ShownFed) (s : Connection) → a ≡ gives (f, s) → FiledAll (reads c r) (take f.packets ps) (reads s r')
unfolding reads
session_fed {c} {r} {l} k bytes ps cuts a r' p h f s e = fed_came (session_runs k) bytes ps cuts (came shown_fed (feed_exact c r bytes) (λ m. enqueue_packets m bytes) c r a r' p) h f s e

refused_came : {m : Client} {l : List Entry} (k : Runs m l) (bytes : List ℕ) (ps : List Packet) → bytes_in ps ≡ (cut_packets m.order bytes).packets → {r : Rooms} {a : Answer (ShownFed × Connection)} {r' : Rooms} → Came shown_fed (enqueue_packets m bytes) r a r'
    → Honest m.order (note_fed (numbers_in ps) m bytes a l) → (f : ShownFed) (s : Connection) → a ≡ gives (f, s) → NextFair m.order (note_fed (numbers_in ps) m bytes a l) (drop f.packets ps) → (n : ℕ) → f.stopped ≡ Feed.refused n → Ordinary n
unfolding note_fed took_of
refused_came {m} {l} k bytes ps cuts (gave v s' r' q) h f s e i n t =
    let g = ap (λ (y : ShownFed × Connection). y.0) (gives_same e) in
    let log : List Took → List Entry = λ vs. (notes note_packet (cut_packets m.order bytes).packets vs (noting (numbers_in ps) l)).log in
    run_refused k bytes ps cuts v (reads s' r') q (subst (λ (vs : List Took). Honest m.order (log vs)) (ap took_of q) h)
    (subst (λ (vs : List Took). NextFair m.order (log vs) (drop (length v.packets) ps)) (ap took_of q) (subst (λ (y : ShownFed). NextFair m.order (log (took_of (enqueue_packets m bytes))) (drop y.packets ps)) (sym g) i)) n (ap (λ (y : ShownFed). y.stopped) g ∙ t)
refused_came k bytes ps cuts (kept j) h f s e i n t = absurd (let z : ◌≡◌ {A = ℕ} 0 1 = cc in omega arith)

-- NEVER ENDED, NEVER AHEAD: where the next packet behind those taken is the honest server's too, no refusal stops it but 1, 2, 4 and 5.
pub session_fed_refused : {c : Connection} {r : Rooms} {l : List Entry} (k : Session c r l) (bytes : List ℕ) (ps : List Packet) → bytes_in ps ≡ (cut_packets c.order bytes).packets → (a : Answer (ShownFed × Connection)) (r' : Rooms) → EnqueuesMany c r bytes a r'
    → Honest c.order (note_fed (numbers_in ps) (reads c r) bytes a l) → (f : ShownFed) (s : Connection) → a ≡ gives (f, s) → NextFair c.order (note_fed (numbers_in ps) (reads c r) bytes a l) (drop f.packets ps) → (n : ℕ) → f.stopped ≡ Feed.refused n → Ordinary n
unfolding reads
session_fed_refused {c} {r} {l} k bytes ps cuts a r' p h f s e = refused_came (session_runs k) bytes ps cuts (came shown_fed (feed_exact c r bytes) (λ m. enqueue_packets m bytes) c r a r' p) h f s e

-- ---- Word for word

-- A session with an honest server. Its packets in order, the refused one again before a later one, "every numbered packet that is taken in" gets its true number;
module _ {all rest : List Packet} {c : Connection} {r : Rooms} {l : List Entry} (k : Serves all rest c r l) (h : HonestServer c.order all l) where
  pub served_true : Right l
  served_true = session_true (serves_session k) (serves_honest c.order k h)

  -- each record that is held bears the true number of the packet of the server that it came from, and so does each that a call hands out.
  module _ (x : Lists) (t : Traced (reads c r) l (session_runs (serves_session k)) x) where
    pub served_tied : AllTied (carrying all) x
    served_tied = subst (λ (ps : List Packet). AllTied ps x) (serves_in_order k) (tied_grown (packets_in l) (carrying rest) x (session_tied (serves_session k) (serves_honest c.order k h) x t))

    pub served_handed : (z : Ask) (a : Answer (Value z × Connection)) (r' : Rooms) (o : Outputs z) → Answers z c r a r' o → HandsTied z (carrying all) x a o
    served_handed z a r' o q = handed_form z (carrying all) x c r a r' o (has_form z c r a r' o q) (holds_one (reads c r) (carrying all) x (traced_client t) served_tied)

-- The call that brings the next packet: where it answers with a filing, the packet stands in the rooms, or was dropped, under its true number.
pub served_filed : {all rest : List Packet} {c : Connection} {r : Rooms} {l : List Entry} (p : Packet) (k : Serves all (p ∷ rest) c r l) → OfBytes (enqueue_packet_ask p.bytes) → (f : Filing) (s : Connection) (r' : Rooms) → Enqueues c r p.bytes (gives (f, s)) r'
    → HonestServer c.order all (note_took p.true_number p.bytes (gives (f, s)) l) → unnumbered (code_of p.bytes) ≡ false → Filed (reads c r) p.bytes p.true_number (f, reads s r')
unfolding note_took
served_filed {all} {rest} {c} {r} {l} p k b f s r' q h carries =
    let after = call (p ∷ []) rest (enqueue_packet_ask p.bytes) b refl (gives (f, s)) r' tt q k in
    let w = noted_honest c.order p.true_number p.bytes f l (serves_honest c.order after h) in
    session_filed (serves_session k) w.1 p.true_number p.bytes carries (w.0 carries) (gives (f, s)) r' q f s refl

-- The call that brings several: those of them that it says it took.
pub served_fed : {all : List Packet} {c : Connection} {r : Rooms} {l : List Entry} (ps rest : List Packet) (k : Serves all (ps ++ rest) c r l) (bytes : List ℕ) → OfBytes (enqueue_packets_ask bytes) → bytes_in ps ≡ (cut_packets c.order bytes).packets
    → (f : ShownFed) (s : Connection) (r' : Rooms) → EnqueuesMany c r bytes (gives (f, s)) r' → HonestServer c.order all (note_fed {A = ShownFed × Connection} (numbers_in ps) (reads c r) bytes (gives (f, s)) l)
    → FiledAll (reads c r) (take f.packets ps) (reads s r')
served_fed {all} {c} {r} {l} ps rest k bytes b cuts f s r' q h =
    let after = call ps rest (enqueue_packets_ask bytes) b cuts (gives (f, s)) r' tt q k in
    session_fed (serves_session k) bytes ps cuts (gives (f, s)) r' q (serves_honest c.order after h) f s refl
