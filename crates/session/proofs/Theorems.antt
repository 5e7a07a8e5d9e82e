-- DEMAND 3 for the public calls. Assumes nothing.
use Rattle.std.specs.Prelude.{false, List, ◌∷◌, ◌≡◌, refl, ℕ, ◌-◌, ◌≤◌, length}
use Rattle.std.proofs.Common.{sym}
use Rattle.refusal.specs.Answer.{Answer, gives, refuses}
use Rattle.sequence.specs.Numbering.{last_number, wire_values, full, in_range}
use Rattle.sequence.specs.Sending.{sync_span}
use Rattle.packet.specs.Packet.{code_of, unnumbered, wire_of}
use Rattle.model.specs.Client.{Held}
use Rattle.model.specs.Model.{has_reply, send_request, Filing, packet, poll_for_event}
use Rattle.model.specs.Calls as Calls
use Rattle.model.specs.Promise.{Promise, same}
use Rattle.model.specs.Reading.{Rooms, reads}
use Rattle.model.specs.Says.{shown_taken, shown_poll}
use Rattle.model.specs.Sound.{Sound, is_sound}
use Rattle.model.specs.SendRequests.{kind_of}
use Rattle.model.specs.declared.Connection.{Connection}
use Rattle.model.specs.declared.ReplyFdKind.TheVariants.{NoReply}
use Rattle.intake.specs.Exact.{enqueue_exact}
use Rattle.polling.specs.Exact.{event_exact}
use Rattle.savepoint.specs.Calls.{laid}
use Rattle.savepoint.proofs.Theorems.{again_sound, again_alike}
use Rattle.connection.specs.Calls.{Sends, Enqueues}
use Rattle.connection.specs.Opening.{opens_fresh, opens_sound}
use Rattle.honest.specs.Run as Run
use Rattle.honest.specs.Run.{Entry, sent, note_sent, note_took, Wire, Fair, Honest, Right, Ordinary, Filed}
use Rattle.honest.specs.Public.{state_of, Public, opens, sends, takes, others, again, public_runs, refused_so}
use Rattle.honest.proofs.Theorems as AnyRun
use Rattle.honest.specs.Span.{further, Misreckoned}
use Rattle.honest.proofs.SpanRuns.{run_one_too_many}
use Rattle.session.specs.Ask.{Ask, send_request_ask, enqueue_fds_ask, enqueue_packet_ask, discard_reply_ask, poll_for_reply_or_error_ask, poll_check_for_reply_or_error, poll_for_reply_ask, poll_for_event_with_sequence, take_closed_fds, prepare_check_for_reply_or_error, send_requests_ask, enqueue_packets_ask, poll_for_events_ask, Value, Outputs, Answers, OfBytes}
use Rattle.session.specs.AskLaws.{has_form, goes_sound}
use Rattle.session.specs.Noting.{next}
use Rattle.session.specs.Session.{logged, Session, new, call, restored}
use Rattle.session.specs.Rows.{sends_row, events_row}
use Rattle.session.specs.FeedRow.{feed_row}

-- ---- Soundness

-- SOUND: state and rooms are sound at any time, so that no call of a session is refused by 9.
pub session_sound : {c : Connection} {r : Rooms} {l : List Entry} → Session c r l → Sound c r
session_sound (new o r c h) = opens_sound o r c h
session_sound (call {c = c} {r = r} x b ts a r' o h k) = goes_sound x b c r (session_sound k) a r' o h
session_sound (restored {c = c} {r = r} reader buffer ids out n out' s q b v q' b' t k) = (again_sound (laid c r reader buffer ids) out n out' s q b v q' b' t).connection

-- ---- True numbers

-- a single call of a row
sends_on : (c : Connection) (r : Rooms) (l : List Entry) (byte n : ℕ) (c' : Connection) (r' : Rooms) → Sends c r (kind_of byte) (gives (n, c')) r' → Public c r l → Public c' r' (sent (has_reply (kind_of byte)) ∷ l)
unfolding state_of note_sent
sends_on c r l byte n c' r' q p = sends (kind_of byte) _ (gives (n, c')) r' q p

packets_on : (c : Connection) (r : Rooms) (l : List Entry) (t : ℕ) (p : List ℕ) (f : Filing) (c' : Connection) (r' : Rooms) → Enqueues c r p (gives (f, c')) r' → Public c r l → Public c' r' (note_took t p (gives (f, c')) l)
unfolding state_of
packets_on c r l t p f c' r' q k = takes t p _ (gives (f, c')) r' q k

events_on : (c : Connection) (r : Rooms) (l : List Entry) (bytes : ℕ) (h : Held) (c' : Connection) (r' : Rooms)
    → Promise shown_taken (event_exact c r bytes) (λ m. poll_for_event m bytes) c r (gives (shown_taken (packet h), c')) r' → Public c r l → Public c' r' l
unfolding state_of
events_on c r l bytes h c' r' q p = others (Calls.poll_event bytes) tt shown_taken _ (gives (shown_taken (packet h), c')) r' q p

-- a call of a session, as the runs of public calls have it
call_public : {c : Connection} {r : Rooms} {l : List Entry} (x : Ask) → OfBytes x → (ts : List ℕ) (a : Answer (Value x × Connection)) (r' : Rooms) (o : Outputs x) → Answers x c r a r' o → Sound c r → Public c r l
    → Public (state_of a c) r' (logged x ts (reads c r) a l)
call_public (send_request_ask kind) b ts a r' o h S k = sends kind _ a r' h k
call_public (enqueue_fds_ask list) b ts a r' o h S k = others (Calls.enqueue_fds_ask list) tt same _ a r' h k
call_public (enqueue_packet_ask p) b ts a r' o h S k = takes (next ts) p _ a r' h k
call_public (discard_reply_ask n mode) b ts a r' o h S k = others (Calls.discard n mode) tt same _ a r' h k
call_public (poll_for_reply_or_error_ask n out fds) b ts a r' o h S k = others (Calls.poll n (length out) (length fds)) tt shown_taken _ a r' h.packet.promise k
call_public (poll_check_for_reply_or_error n out) b ts a r' o h S k = others (Calls.check n (length out)) tt shown_poll _ a r' h.promise k
call_public (poll_for_reply_ask n out) b ts a r' o h S k = others (Calls.poll_reply n (length out)) tt shown_poll _ a r' h.promise k
call_public (poll_for_event_with_sequence out) b ts a r' o h S k = others (Calls.poll_event (length out)) tt shown_taken _ a r' h.promise k
call_public (take_closed_fds out) b ts a r' o h S k = others (Calls.take_closed_ask (length out)) tt length _ a r' h.promise k
call_public {c = c} {r = r} (prepare_check_for_reply_or_error n) b ts a r' o h S k = others (Calls.prepare n) tt same _ a r' (has_form (prepare_check_for_reply_or_error n) c r a r' o h).promise k
call_public {c = c} {r = r} {l = l} (send_requests_ask bytes) b ts a r' o h S k = sends_row Public (λ c r l S p byte n c' r' q. sends_on c r l byte n c' r' q p) c r l S k bytes a r' h
call_public {c = c} {r = r} {l = l} (enqueue_packets_ask bytes) b ts a r' o h S k = feed_row Public (λ c r l S k t p b f c' r' q. packets_on c r l t p f c' r' q k) c r l S k ts bytes b a r' h
call_public {c = c} {r = r} {l = l} (poll_for_events_ask out marks) b ts a r' o h S k =
    events_row (λ c r. Public c r l) (λ c r S p bytes h c' r' q. events_on c r l bytes h c' r' q p) c r S k out marks a r' o.0 o.1 h

pub session_public : {c : Connection} {r : Rooms} {l : List Entry} → Session c r l → Public c r l
session_public (new o r c h) = opens o _ _ (opens_fresh o r c h)
session_public (call x b ts a r' o h k) = call_public x b ts a r' o h (session_sound k) (session_public k)
session_public (restored {c = c} {r = r} reader buffer ids out n out' s q b v q' b' t k) = again v.0 q' (sym (again_alike (laid c r reader buffer ids) out n out' s q b v q' b' t).same) (session_public k)

-- NEVER PAST: whatever the server sends, honest or not, the last read does not pass next reply expected, nor that the last written.
pub session_never_past : {c : Connection} {r : Rooms} {l : List Entry} → Session c r l → (c.read ≤ c.expected) × (c.expected ≤ c.written)
session_never_past k = AnyRun.public_never_past (session_public k)

-- TRUE NUMBERS: with an honest server the number of each packet taken in is its true one, however long the session is.
pub session_true : {c : Connection} {r : Rooms} {l : List Entry} → Session c r l → Honest c.order l → Right l
session_true k h = AnyRun.public_true (session_public k) h

-- A session with an honest server, and the call that brings its next packet.
module _ {c : Connection} {r : Rooms} {l : List Entry} (k : Session c r l) (h : Honest c.order l) (t : ℕ) (p : List ℕ) (carries : unnumbered (code_of p) ≡ false) (fair : Fair c.order l t p)
    (a : Answer (Filing × Connection)) (r' : Rooms) (enqueues : Enqueues c r p a r') where
  -- FILED: where it is taken in, it is the last of its list under its true number, or if dropped was reckoned by it.
  pub session_filed : (f : Filing) (s : Connection) → a ≡ gives (f, s) → Filed (reads c r) p t (f, reads s r')
  session_filed = AnyRun.public_filed (session_public k) h t p carries fair (enqueue_exact c r p) a r' enqueues

  -- NEVER ENDED, NEVER AHEAD: it is refused by 1, 2, 4 and 5 alone.
  pub session_never_ended : (n : ℕ) → a ≡ refuses n → Ordinary n
  session_never_ended = AnyRun.public_never_ended (session_public k) h t p carries fair (enqueue_exact c r p) a r' enqueues (is_sound c r (session_sound k))

-- ONE TOO MANY (02, M-111): a session with an honest server in which `send_request` answers 6 and the last read equals next reply expected. With one request more let through, a run that meets every premise misreckons a packet.
pub session_one_too_many : {c : Connection} {r : Rooms} {l : List Entry} → Session c r l → Honest c.order l → (r' : Rooms) → Sends c r NoReply (refuses 6) r' → c.read ≡ c.expected → c.read ≤ last_number - wire_values
    → (p : List ℕ) → Wire c.order (Run.sends (further l)) p → (f : Filing) → gives f.number ≡ in_range (full c.read (wire_of c.order p)) → Misreckoned sync_span c.order (record { written = c.written; expected = c.expected; read = c.read }) l p f
unfolding reads
session_one_too_many {c} {r} k h r' q level most =
    run_one_too_many (public_runs (session_public k)) h (refused_so _ _ (λ m. send_request m NoReply) c r (refuses 6) r' (is_sound c r (session_sound k)) q 6 refl) level most
