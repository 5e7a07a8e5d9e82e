-- THE PROMISES of the public calls, one by one. Assumes nothing.
use Rattle.std.specs.Prelude.{◌≡◌, Bool, not, List, ℕ, eqb, length}
use Rattle.octets.specs.Bytes.{legal}
use Rattle.refusal.specs.Answer.{Answer, gives, refuse, pass}
use Rattle.descriptors.specs.Room.{most_descriptors}
use Rattle.requests.specs.Room.{capacity}
use Rattle.model.specs.Client.{Client}
use Rattle.model.specs.Model.{roomy, new, send_request, enqueue_fds, take_closed, Filing, enqueue_packet, discard_reply, poll_for_reply_or_error, poll_check, poll_for_reply, prepare_check, poll_for_event}
use Rattle.model.specs.Reading.{Rooms, reads}
use Rattle.model.specs.Promise.{Done, Exact, Promise, output_of, model_of, guarded, same}
use Rattle.model.specs.Says.{Shown, shown_taken, ShownPoll, shown_poll, bytes_of_taken, descriptors_of_taken, bytes_of_poll}
use Rattle.model.specs.SendRequests.{ShownSendings, shown_sendings, send_requests}
use Rattle.model.specs.Feed.{ShownFed, shown_fed}
use Rattle.model.specs.PollForEvents.{ShownHandings, shown_handings, packets_of_handings, marks_of_handings, poll_for_events}
use Rattle.model.specs.declared.Connection.{Connection}
use Rattle.model.specs.declared.ReplyFdKind.{ReplyFdKind}
use Rattle.model.specs.declared.DiscardMode.{DiscardMode}
use Rattle.sending.specs.Send.{send_exact}
use Rattle.sending.specs.Fds as Fds
use Rattle.sending.specs.Fds.{close_exact}
use Rattle.intake.specs.Exact.{enqueue_exact}
use Rattle.discarding.specs.Exact.{discard_exact}
use Rattle.polling.specs.Exact.{event_exact, taken_exact, checked_exact, replied_exact}
use Rattle.batch.specs.Send.{sends_exact}
use Rattle.batch.specs.Feed.{enqueue_packets, feed_exact}
use Rattle.batch.specs.Events.{events_exact}

-- a state with nothing sent, read or held
abbrev pub fresh_state : ℕ → ℕ → ℕ → Connection
fresh_state o k s = record {
  order = o;
  capacity = k;
  room = s;
  written = 0;
  expected = 0;
  read = 0;
  first = 1;
  window = record { start = 0; end = 0 };
  counts = record { closed = 0; held = 0; waiting = 0 };
}

-- `new`: 9 for other than 256 slots; then as the model, and the state is read as the model's fresh one.
unfoldable pub open_exact : ℕ → Rooms → Answer (Done Unit)
open_exact o r =
    refuse (not (eqb (length r.slots) most_descriptors)) 9
    (refuse (not (roomy (capacity r.requests) (length r.store))) 9
    (refuse (not (legal o)) 13
    (gives (record { value = tt; state = fresh_state o (capacity r.requests) (length r.store); left = r }))))

-- the model's `new`, behind that
unfoldable pub opened : ℕ → Rooms → Answer (Unit × Client)
opened o r =
    refuse (not (eqb (length r.slots) most_descriptors)) 9 (pass (new o (capacity r.requests) (length r.store)) (λ c. gives (tt, c)))

pub record Opens (order : ℕ) (lent : Rooms) (answer : Answer (Unit × Connection)) : Type 0 where
  pub exact : Exact same (open_exact order lent) lent answer lent
  pub model : model_of (open_exact order lent) ≡ opened order lent

-- ---- the promises, call by call: what the call is exactly, and which function of the model that is. First comes what the call is given, state and rooms as c and r, and last the answer, the
-- rooms at exit and the outputs at exit: `Sends c r kind answer left`, `PollsEvent c r out answer left out'`.

abbrev pub Sends : Connection → Rooms → ReplyFdKind → Answer (ℕ × Connection) → Rooms → Type 0
Sends c r kind = Promise same (send_exact c r kind) (λ m. send_request m kind) c r

abbrev pub EnqueuesFds : Connection → Rooms → List ℕ → Answer (Unit × Connection) → Rooms → Type 0
EnqueuesFds c r list = Promise same (Fds.enqueue_fds_exact c r list) (λ m. enqueue_fds m list) c r

abbrev pub Enqueues : Connection → Rooms → List ℕ → Answer (Filing × Connection) → Rooms → Type 0
Enqueues c r p = Promise same (enqueue_exact c r p) (λ m. enqueue_packet m p) c r

abbrev pub Discards : Connection → Rooms → ℕ → DiscardMode → Answer (Unit × Connection) → Rooms → Type 0
Discards c r n mode = Promise same (gives (discard_exact c r n mode)) (λ m. discard_reply m n mode) c r

-- A call that hands something out: its promise, and besides
--
--      writes     what goes into the output of a value: the bytes of a packet, say
--      out        the output, as it is lent
--      out'       the output at exit: what is written stands at its start, the rest as found, and so is all of it after a refusal
pub record Hands {A B : Type 0} (shows : A → B) (writes : A → List ℕ) (outcome : Answer (Done A)) (modelled : Client → Answer (A × Client)) (state : Connection) (lent : Rooms) (out : List ℕ)
    (answer : Answer (B × Connection)) (left : Rooms) (out' : List ℕ) : Type 0 where
  pub promise : Promise shows outcome modelled state lent answer left
  pub output : out' ≡ output_of writes (guarded state lent outcome) out

abbrev pub Closes : Connection → Rooms → List ℕ → Answer (ℕ × Connection) → Rooms → List ℕ → Type 0
Closes c r out = Hands length same (close_exact c r (length out)) (λ m. take_closed m (length out)) c r out

abbrev pub PollsEvent : Connection → Rooms → List ℕ → Answer (Shown × Connection) → Rooms → List ℕ → Type 0
PollsEvent c r out = Hands shown_taken bytes_of_taken (event_exact c r (length out)) (λ m. poll_for_event m (length out)) c r out

abbrev pub Checks : Connection → Rooms → ℕ → List ℕ → Answer (ShownPoll × Connection) → Rooms → List ℕ → Type 0
Checks c r n out = Hands shown_poll bytes_of_poll (checked_exact c r n (length out)) (λ m. poll_check m n (length out)) c r out

abbrev pub PollsReply : Connection → Rooms → ℕ → List ℕ → Answer (ShownPoll × Connection) → Rooms → List ℕ → Type 0
PollsReply c r n out = Hands shown_poll bytes_of_poll (replied_exact c r n (length out)) (λ m. poll_for_reply m n (length out)) c r out

-- `poll_for_reply_or_error` has two outputs, for the packet and for its descriptors.
pub record Polls (c : Connection) (r : Rooms) (n : ℕ) (out fds : List ℕ) (answer : Answer (Shown × Connection)) (left : Rooms) (out' fds' : List ℕ) : Type 0 where
  pub packet : Hands shown_taken bytes_of_taken (taken_exact c r n (length out) (length fds)) (λ m. poll_for_reply_or_error m n (length out) (length fds)) c r out answer left out'
  pub descriptors : fds' ≡ output_of descriptors_of_taken (guarded c r (taken_exact c r n (length out) (length fds))) fds

-- ---- calls that make many steps: each is exactly its row of steps, and that is the model's row of single calls

abbrev pub SendsMany : Connection → Rooms → List ℕ → Answer (ShownSendings × Connection) → Rooms → Type 0
SendsMany c r bytes = Promise shown_sendings (sends_exact c r bytes) (λ m. send_requests m bytes) c r

abbrev pub EnqueuesMany : Connection → Rooms → List ℕ → Answer (ShownFed × Connection) → Rooms → Type 0
EnqueuesMany c r bytes = Promise shown_fed (feed_exact c r bytes) (λ m. enqueue_packets m bytes) c r

-- `poll_for_events` has two outputs, for the packets and for their marks.
pub record PollsEvents (c : Connection) (r : Rooms) (out marks : List ℕ) (answer : Answer (ShownHandings × Connection)) (left : Rooms) (out' marks' : List ℕ) : Type 0 where
  pub packets : Hands shown_handings packets_of_handings (events_exact c r (length out) (length marks)) (λ m. poll_for_events m (length out) (length marks)) c r out answer left out'
  pub marked : marks' ≡ output_of marks_of_handings (guarded c r (events_exact c r (length out) (length marks))) marks

-- `prepare_check_for_reply_or_error`: 9, or the model's word; state and rooms are not even lent to be written.
abbrev pub Prepares : Connection → Rooms → ℕ → Answer Bool → Type 0
Prepares c r n a = a ≡ guarded c r (gives (prepare_check (reads c r) n))
