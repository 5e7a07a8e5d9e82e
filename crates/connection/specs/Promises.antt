-- ONE OUTCOME of each public call, over the very promise that its contract cites: any two answers that it allows are equal, with the rooms and outputs that they come with. Assumes nothing.
use Rattle.std.specs.Prelude.{Bool, ◌≡◌, List, ℕ, Result}
use Rattle.std.proofs.Common.{sym, ◌∙◌}
use Rattle.refusal.specs.Answer.{Answer}
use Rattle.model.specs.Client.{Client}
use Rattle.model.specs.Reading.{Rooms}
use Rattle.model.specs.Promise.{Done, Promise}
use Rattle.model.specs.Says.{says_next, says_sent, says_enqueued, says_polled, says_poll_reply, says_closed, says_prepared, next_one, sent_one_lem, enqueued_one, polled_one, poll_reply_one, closed_one, prepared_one}
use Rattle.model.specs.SaysBatch.{says_sent_many, says_events, sent_many_one, events_one}
use Rattle.model.specs.Feed.{says_fed, fed_one}
use Rattle.model.specs.declared.Connection.{Connection}
use Rattle.model.specs.declared.DiscardMode.{DiscardMode}
use Rattle.model.specs.declared.ReplyFdKind.{ReplyFdKind}
use Rattle.model.specs.declared.Sent.{Sent}
use Rattle.model.specs.declared.SentMany.{SentMany}
use Rattle.model.specs.declared.Enqueued.{Enqueued}
use Rattle.model.specs.declared.Fed.{Fed}
use Rattle.model.specs.declared.Polled.{Polled}
use Rattle.model.specs.declared.PollReply.{PollReply}
use Rattle.model.specs.declared.Events.{Events}
use Rattle.model.specs.declared.Closed.{Closed}
use Rattle.connection.specs.Calls.{Opens, Sends, EnqueuesFds, Enqueues, Discards, Hands, Closes, PollsEvent, Checks, PollsReply, Polls, SendsMany, EnqueuesMany, PollsEvents, Prepares}
use Rattle.connection.specs.Theorems.{one_outcome, hands_outcome}
use Rattle.refusal.specs.declared.Refusal.{Refusal}

-- `new`
pub opens_one : (order : ℕ) (r : Rooms) (a b : Result Connection Refusal) → Opens order r (says_next a) → Opens order r (says_next b) → a ≡ b
opens_one order r a b p q = next_one a b (p.exact.answers ∙ sym q.exact.answers)

-- what a promise says of answers of which two that say the same are equal
module _ {E A B : Type 0} {says : E → Answer (B × Connection)} (one : (a b : E) → says a ≡ says b → a ≡ b) {shows : A → B} {outcome : Answer (Done A)} {modelled : Client → Answer (A × Client)} {c : Connection} {r : Rooms} where
  told : (a b : E) (s t : Rooms) → Promise shows outcome modelled c r (says a) s → Promise shows outcome modelled c r (says b) t → (a ≡ b) × (s ≡ t)
  told a b s t p q = let z = one_outcome shows outcome modelled c r (says a) (says b) s t p q in (one a b z.0, z.1)

  handed : {writes : A → List ℕ} {out : List ℕ} (a b : E) (s t : Rooms) (x y : List ℕ) → Hands shows writes outcome modelled c r out (says a) s x → Hands shows writes outcome modelled c r out (says b) t y
      → (a ≡ b) × (s ≡ t) × (x ≡ y)
  handed {writes} {out} a b s t x y p q = let z = hands_outcome shows writes outcome modelled c r out (says a) (says b) s t x y p q in (one a b z.0, z.1, z.2)

module _ (c : Connection) (r : Rooms) where
  -- `send_request`
  pub sends_one : (kind : ReplyFdKind) (a b : Result Sent Refusal) (s t : Rooms) → Sends c r kind (says_sent a) s → Sends c r kind (says_sent b) t → (a ≡ b) × (s ≡ t)
  sends_one kind = told sent_one_lem

  -- `send_requests`
  pub sends_many_one : (kinds : List ℕ) (a b : Result SentMany Refusal) (s t : Rooms) → SendsMany c r kinds (says_sent_many a) s → SendsMany c r kinds (says_sent_many b) t → (a ≡ b) × (s ≡ t)
  sends_many_one kinds = told sent_many_one

  -- `enqueue_fds`
  pub enqueues_fds_one : (list : List ℕ) (a b : Result Connection Refusal) (s t : Rooms) → EnqueuesFds c r list (says_next a) s → EnqueuesFds c r list (says_next b) t → (a ≡ b) × (s ≡ t)
  enqueues_fds_one list = told next_one

  -- `enqueue_packet`
  pub enqueues_one : (packet : List ℕ) (a b : Result Enqueued Refusal) (s t : Rooms) → Enqueues c r packet (says_enqueued a) s → Enqueues c r packet (says_enqueued b) t → (a ≡ b) × (s ≡ t)
  enqueues_one packet = told enqueued_one

  -- `enqueue_packets`
  pub enqueues_many_one : (bytes : List ℕ) (a b : Result Fed Refusal) (s t : Rooms) → EnqueuesMany c r bytes (says_fed a) s → EnqueuesMany c r bytes (says_fed b) t → (a ≡ b) × (s ≡ t)
  enqueues_many_one bytes = told fed_one

  -- `discard_reply`
  pub discards_one : (n : ℕ) (mode : DiscardMode) (a b : Result Connection Refusal) (s t : Rooms) → Discards c r n mode (says_next a) s → Discards c r n mode (says_next b) t → (a ≡ b) × (s ≡ t)
  discards_one n mode = told next_one

  -- `poll_for_reply_or_error`
  pub polls_one : (n : ℕ) (out fds : List ℕ) (a b : Result Polled Refusal) (s t : Rooms) (x y u v : List ℕ) → Polls c r n out fds (says_polled a) s x u → Polls c r n out fds (says_polled b) t y v → (a ≡ b) × (s ≡ t) × (x ≡ y) × (u ≡ v)
  polls_one n out fds a b s t x y u v p q = let z = handed polled_one a b s t x y p.packet q.packet in (z.0, z.1, z.2, p.descriptors ∙ sym q.descriptors)

  -- `poll_check_for_reply_or_error`
  pub checks_one : (n : ℕ) (out : List ℕ) (a b : Result PollReply Refusal) (s t : Rooms) (x y : List ℕ) → Checks c r n out (says_poll_reply a) s x → Checks c r n out (says_poll_reply b) t y → (a ≡ b) × (s ≡ t) × (x ≡ y)
  checks_one n out = handed poll_reply_one

  -- `poll_for_reply`
  pub polls_reply_one : (n : ℕ) (out : List ℕ) (a b : Result PollReply Refusal) (s t : Rooms) (x y : List ℕ) → PollsReply c r n out (says_poll_reply a) s x → PollsReply c r n out (says_poll_reply b) t y → (a ≡ b) × (s ≡ t) × (x ≡ y)
  polls_reply_one n out = handed poll_reply_one

  -- `poll_for_event_with_sequence`
  pub polls_event_one : (out : List ℕ) (a b : Result Polled Refusal) (s t : Rooms) (x y : List ℕ) → PollsEvent c r out (says_polled a) s x → PollsEvent c r out (says_polled b) t y → (a ≡ b) × (s ≡ t) × (x ≡ y)
  polls_event_one out = handed polled_one

  -- `poll_for_events`
  pub polls_events_one : (out marks : List ℕ) (a b : Result Events Refusal) (s t : Rooms) (x y u v : List ℕ) → PollsEvents c r out marks (says_events a) s x u → PollsEvents c r out marks (says_events b) t y v → (a ≡ b) × (s ≡ t) × (x ≡ y) × (u ≡ v)
  polls_events_one out marks a b s t x y u v p q = let z = handed events_one a b s t x y p.packets q.packets in (z.0, z.1, z.2, p.marked ∙ sym q.marked)

  -- `take_closed_fds`
  pub closes_one : (out : List ℕ) (a b : Result Closed Refusal) (s t : Rooms) (x y : List ℕ) → Closes c r out (says_closed a) s x → Closes c r out (says_closed b) t y → (a ≡ b) × (s ≡ t) × (x ≡ y)
  closes_one out = handed closed_one

  -- `prepare_check_for_reply_or_error`
  pub prepares_one : (n : ℕ) (a b : Result Bool Refusal) → Prepares c r n (says_prepared a) → Prepares c r n (says_prepared b) → a ≡ b
  prepares_one n a b p q = prepared_one a b (p ∙ sym q)
