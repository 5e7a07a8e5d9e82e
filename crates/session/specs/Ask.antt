-- EVERY PUBLIC CALL that takes a state: what it is asked, the promise that its answer keeps, and the one form that all these promises have. Definitions only. Assumes nothing.
use Rattle.std.specs.Prelude.{List, ◌≡◌, ℕ, ◌<◌, length, get_or}
use Rattle.octets.specs.Put.{put}
use Rattle.refusal.specs.Answer.{Answer, gives, refuses}
use Rattle.model.specs.Client.{Client}
use Rattle.model.specs.Model.{send_request, enqueue_fds, take_closed, enqueue_packet, discard_reply, poll_for_reply_or_error, poll_check, poll_for_reply, prepare_check, poll_for_event}
use Rattle.model.specs.Promise.{Done, same}
use Rattle.model.specs.Reading.{Rooms, reads}
use Rattle.model.specs.Says.{shown_taken, shown_poll, bytes_of_taken, descriptors_of_taken, bytes_of_poll}
use Rattle.model.specs.SendRequests.{shown_sendings, send_requests}
use Rattle.model.specs.PollForEvents.{shown_handings, packets_of_handings, marks_of_handings, poll_for_events}
use Rattle.model.specs.Feed.{shown_fed}
use Rattle.model.specs.declared.Connection.{Connection}
use Rattle.model.specs.declared.DiscardMode.{DiscardMode}
use Rattle.model.specs.declared.ReplyFdKind.{ReplyFdKind}
use Rattle.sending.specs.Send.{send_exact}
use Rattle.sending.specs.Fds.{enqueue_fds_exact, close_exact}
use Rattle.intake.specs.Exact.{enqueue_exact}
use Rattle.discarding.specs.Exact.{discard_exact}
use Rattle.polling.specs.Exact.{event_exact, taken_exact, checked_exact, replied_exact}
use Rattle.batch.specs.Send.{sends_exact}
use Rattle.batch.specs.Feed.{enqueue_packets, feed_exact}
use Rattle.batch.specs.Events.{events_exact}
use Rattle.connection.specs.Calls.{Sends, EnqueuesFds, Enqueues, Discards, Polls, Checks, PollsReply, PollsEvent, Closes, Prepares, SendsMany, EnqueuesMany, PollsEvents}
use Rattle.honest.specs.Public.{state_of}

-- a call, with what it is given, its outputs as they are lent among it; `new`, which takes no state, stands apart
pub data Ask : Type 0 where
  send_request_ask : ReplyFdKind → Ask
  enqueue_fds_ask : List ℕ → Ask
  enqueue_packet_ask : List ℕ → Ask
  discard_reply_ask : ℕ → DiscardMode → Ask
  poll_for_reply_or_error_ask : ℕ → List ℕ → List ℕ → Ask
  poll_check_for_reply_or_error : ℕ → List ℕ → Ask
  poll_for_reply_ask : ℕ → List ℕ → Ask
  poll_for_event_with_sequence : List ℕ → Ask
  take_closed_fds : List ℕ → Ask
  prepare_check_for_reply_or_error : ℕ → Ask
  send_requests_ask : List ℕ → Ask
  enqueue_packets_ask : List ℕ → Ask
  poll_for_events_ask : List ℕ → List ℕ → Ask

-- ---- The form of a call

-- what the model gives, and what an answer shows of it; the outputs as they are lent, and as they are with it; the exact outcome; the model's function
pub record Form : Type 1 where
  pub Given : Type 0
  pub Value : Type 0
  pub Outputs : Type 0
  pub shows : Given → Value
  pub lent : Outputs
  pub written : Given → Outputs
  pub exactly : Connection → Rooms → Answer (Done Given)
  pub modelled : Client → Answer (Given × Client)

-- of a call without outputs, with one, and with two
module _ {A B : Type 0} (f : A → B) (e : Connection → Rooms → Answer (Done A)) (m : Client → Answer (A × Client)) where
  abbrev tells : Form
  tells = record { Given = A; Value = B; Outputs = Unit {0}; shows = f; lent = tt; written = λ v. tt; exactly = e; modelled = m }

  abbrev hands : (A → List ℕ) → List ℕ → Form
  hands g out = record { Given = A; Value = B; Outputs = List ℕ; shows = f; lent = out; written = λ v. put out 0 (g v); exactly = e; modelled = m }

  abbrev hands_two : (A → List ℕ) → List ℕ → (A → List ℕ) → List ℕ → Form
  hands_two g out h more = record { Given = A; Value = B; Outputs = List ℕ × List ℕ; shows = f; lent = (out, more); written = λ v. (put out 0 (g v), put more 0 (h v)); exactly = e; modelled = m }

-- each call in this form
abbrev pub form : Ask → Form
form (send_request_ask kind) = tells same (λ c r. send_exact c r kind) (λ m. send_request m kind)
form (enqueue_fds_ask list) = tells same (λ c r. enqueue_fds_exact c r list) (λ m. enqueue_fds m list)
form (enqueue_packet_ask p) = tells same (λ c r. enqueue_exact c r p) (λ m. enqueue_packet m p)
form (discard_reply_ask n mode) = tells same (λ c r. gives (discard_exact c r n mode)) (λ m. discard_reply m n mode)
form (poll_for_reply_or_error_ask n out fds) = hands_two shown_taken (λ c r. taken_exact c r n (length out) (length fds)) (λ m. poll_for_reply_or_error m n (length out) (length fds)) bytes_of_taken out descriptors_of_taken fds
form (poll_check_for_reply_or_error n out) = hands shown_poll (λ c r. checked_exact c r n (length out)) (λ m. poll_check m n (length out)) bytes_of_poll out
form (poll_for_reply_ask n out) = hands shown_poll (λ c r. replied_exact c r n (length out)) (λ m. poll_for_reply m n (length out)) bytes_of_poll out
form (poll_for_event_with_sequence out) = hands shown_taken (λ c r. event_exact c r (length out)) (λ m. poll_for_event m (length out)) bytes_of_taken out
form (take_closed_fds out) = hands length (λ c r. close_exact c r (length out)) (λ m. take_closed m (length out)) same out
form (prepare_check_for_reply_or_error n) = tells same (λ c r. gives (record { value = prepare_check (reads c r) n; state = c; left = r })) (λ m. gives (prepare_check m n, m))
form (send_requests_ask bytes) = tells shown_sendings (λ c r. sends_exact c r bytes) (λ m. send_requests m bytes)
form (enqueue_packets_ask bytes) = tells shown_fed (λ c r. feed_exact c r bytes) (λ m. enqueue_packets m bytes)
form (poll_for_events_ask out marks) = hands_two shown_handings (λ c r. events_exact c r (length out) (length marks)) (λ m. poll_for_events m (length out) (length marks)) packets_of_handings out marks_of_handings marks

-- what an answer has beside the state, and the outputs
abbrev pub Value : Ask → Type 0
Value x = (form x).Value

abbrev pub Outputs : Ask → Type 0
Outputs x = (form x).Outputs

-- ---- What each call answers

-- what an answer tells, the state apart
unfoldable pub told : {B : Type 0} → Answer (B × Connection) → Answer B
told (gives x) = gives x.0
told (refuses n) = refuses n

-- The call on the state c and rooms r answers a, leaves the rooms r' and its outputs as o, by its promise. A check is not even lent state and rooms to be written.
abbrev pub Answers : (x : Ask) → Connection → Rooms → Answer (Value x × Connection) → Rooms → Outputs x → Type 0
Answers (send_request_ask kind) c r a r' o = Sends c r kind a r'
Answers (enqueue_fds_ask list) c r a r' o = EnqueuesFds c r list a r'
Answers (enqueue_packet_ask p) c r a r' o = Enqueues c r p a r'
Answers (discard_reply_ask n mode) c r a r' o = Discards c r n mode a r'
Answers (poll_for_reply_or_error_ask n out fds) c r a r' o = Polls c r n out fds a r' o.0 o.1
Answers (poll_check_for_reply_or_error n out) c r a r' o = Checks c r n out a r' o
Answers (poll_for_reply_ask n out) c r a r' o = PollsReply c r n out a r' o
Answers (poll_for_event_with_sequence out) c r a r' o = PollsEvent c r out a r' o
Answers (take_closed_fds out) c r a r' o = Closes c r out a r' o
Answers (prepare_check_for_reply_or_error n) c r a r' o = Prepares c r n (told a) × (state_of a c ≡ c) × (r' ≡ r)
Answers (send_requests_ask bytes) c r a r' o = SendsMany c r bytes a r'
Answers (enqueue_packets_ask bytes) c r a r' o = EnqueuesMany c r bytes a r'
Answers (poll_for_events_ask out marks) c r a r' o = PollsEvents c r out marks a r' o.0 o.1

-- a packet is of bytes, of which that byte 1 is one is all that is asked, and so is a run of packets
abbrev pub OfBytes : Ask → Type 0
OfBytes (send_request_ask kind) = Unit {0}
OfBytes (enqueue_fds_ask list) = Unit {0}
OfBytes (enqueue_packet_ask p) = get_or p 1 0 < 256
OfBytes (discard_reply_ask n mode) = Unit {0}
OfBytes (poll_for_reply_or_error_ask n out fds) = Unit {0}
OfBytes (poll_check_for_reply_or_error n out) = Unit {0}
OfBytes (poll_for_reply_ask n out) = Unit {0}
OfBytes (poll_for_event_with_sequence out) = Unit {0}
OfBytes (take_closed_fds out) = Unit {0}
OfBytes (prepare_check_for_reply_or_error n) = Unit {0}
OfBytes (send_requests_ask bytes) = Unit {0}
OfBytes (enqueue_packets_ask bytes) = (i : ℕ) → get_or bytes i 0 < 256
OfBytes (poll_for_events_ask out marks) = Unit {0}
