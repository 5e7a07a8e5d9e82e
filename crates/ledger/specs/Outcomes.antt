-- Any two outcomes that the promise of a public call allows are equal: the answers themselves, the rooms and every lent output; and a refusal leaves all as found. Assumes nothing.
use Rattle.std.proofs.Math.Path.{◌≡◌}
use Rattle.std.specs.Prelude.{refl, ℕ, Bool, Result}
use Rattle.std.proofs.Common.{sym, ap, ◌∙◌, arith}
use Rattle.refusal.specs.Answer.{Answer, gives, refuses}
use Rattle.model.specs.Promise.{Done, answer_of, rooms_of, guarded}
use Rattle.model.specs.Reading.{Rooms}
use Rattle.model.specs.Says.{says_next, says_sent, says_enqueued, says_polled, says_poll_reply, says_closed, says_prepared, next_one, sent_one_lem, enqueued_one, polled_one, poll_reply_one, closed_one, prepared_one}
use Rattle.model.specs.Feed.{says_fed, fed_one}
use Rattle.model.specs.SaysBatch.{says_sent_many, says_events, sent_many_one, events_one}
use Rattle.model.specs.declared.Connection.{Connection}
use Rattle.connection.specs.Theorems.{one_outcome}
use Rattle.session.specs.Ask.{Ask, send_request_ask, enqueue_fds_ask, enqueue_packet_ask, discard_reply_ask, poll_for_reply_or_error_ask, poll_check_for_reply_or_error, poll_for_reply_ask, poll_for_event_with_sequence, take_closed_fds, prepare_check_for_reply_or_error, send_requests_ask, enqueue_packets_ask, poll_for_events_ask, form, Value, Outputs, told, Answers}
use Rattle.session.specs.AskLaws.{outputs_of, has_form}
use Rattle.refusal.specs.declared.Refusal.{Refusal}

-- ---- what a call answers

-- a type of answers, what one says of the state that the call was given, and that two that say the same are equal
pub record Spoken (B : Type 0) : Type 1 where
  pub Enum : Type 0
  pub says : Connection → Enum → Answer (B × Connection)
  pub one : (c : Connection) (a b : Enum) → says c a ≡ says c b → a ≡ b

abbrev spoken_by : {E B : Type 0} (says : E → Answer (B × Connection)) → ((a b : E) → says a ≡ says b → a ≡ b) → Spoken B
spoken_by {E = E} says one = record { Enum = E; says = λ c. says; one = λ c. one }

-- an answer that hands no state back: the caller goes on with the one that it has
unfoldable pub stated : {B : Type 0} → Connection → Answer B → Answer (B × Connection)
stated c (gives v) = gives (v, c)
stated c (refuses n) = refuses n

told_stated : {B : Type 0} (c : Connection) (a : Answer B) → told (stated c a) ≡ a
unfolding told stated
told_stated c (gives v) = refl
told_stated c (refuses n) = refl

pub stated_one : (c : Connection) (a b : Result Bool Refusal) → stated c (says_prepared a) ≡ stated c (says_prepared b) → a ≡ b
stated_one c a b e = prepared_one a b (sym (told_stated c (says_prepared a)) ∙ ap told e ∙ told_stated c (says_prepared b))

abbrev pub spoken : (x : Ask) → Spoken (Value x)
spoken (send_request_ask kind) = spoken_by says_sent sent_one_lem
spoken (enqueue_fds_ask list) = spoken_by says_next next_one
spoken (enqueue_packet_ask p) = spoken_by says_enqueued enqueued_one
spoken (discard_reply_ask n mode) = spoken_by says_next next_one
spoken (poll_for_reply_or_error_ask n out fds) = spoken_by says_polled polled_one
spoken (poll_check_for_reply_or_error n out) = spoken_by says_poll_reply poll_reply_one
spoken (poll_for_reply_ask n out) = spoken_by says_poll_reply poll_reply_one
spoken (poll_for_event_with_sequence out) = spoken_by says_polled polled_one
spoken (take_closed_fds out) = spoken_by says_closed closed_one
spoken (prepare_check_for_reply_or_error n) = record { Enum = Result Bool Refusal; says = λ c a. stated c (says_prepared a); one = stated_one }
spoken (send_requests_ask bytes) = spoken_by says_sent_many sent_many_one
spoken (enqueue_packets_ask bytes) = spoken_by says_fed fed_one
spoken (poll_for_events_ask out marks) = spoken_by says_events events_one

-- ---- one outcome

module _ (x : Ask) (c : Connection) (r : Rooms) where
  pub call_one : (a b : (spoken x).Enum) (s t : Rooms) (o p : Outputs x) → Answers x c r ((spoken x).says c a) s o → Answers x c r ((spoken x).says c b) t p → (a ≡ b) × (s ≡ t) × (o ≡ p)
  call_one a b s t o p h i =
      let k = has_form x c r ((spoken x).says c a) s o h in
      let l = has_form x c r ((spoken x).says c b) t p i in
      let z = one_outcome (form x).shows _ _ c r _ _ s t k.promise l.promise in
      ((spoken x).one c a b z.0, z.1, k.outputs ∙ sym l.outputs)

  -- ---- a refusal

  pub call_refused : (n : ℕ) (s : Rooms) (o : Outputs x) → Answers x c r (refuses n) s o → (s ≡ r) × (o ≡ (form x).lent)
  unfolding answer_of rooms_of outputs_of
  call_refused n s o h =
      let k = has_form x c r (refuses n) s o h in
      go (guarded c r ((form x).exactly c r)) k.promise.exact.answers k.promise.exact.leaves k.outputs
    where
      go : (z : Answer (Done (form x).Given)) → refuses n ≡ answer_of (form x).shows z → s ≡ rooms_of z r → o ≡ outputs_of (form x).lent (form x).written z → (s ≡ r) × (o ≡ (form x).lent)
      go (gives d) q l p = absurd (let z : ◌≡◌ {A = ℕ} 0 1 = cc in omega arith)
      go (refuses m) q l p = (l, p)
