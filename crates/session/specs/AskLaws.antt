-- The promise of each public call has the one form; so what a promise comes to is said once for all of them. Assumes nothing.
use Rattle.std.specs.Prelude.{Bool, true, false, not, List, ◌≡◌, refl, ℕ, length}
use Rattle.std.proofs.Common.{sym, ap, ◌∙◌, arith}
use Rattle.std.proofs.Math.Path.{subst}
use Rattle.octets.specs.Put.{put}
use Rattle.refusal.specs.Answer.{Answer, gives, refuses, refuse, gives_same}
use Rattle.model.specs.Model.{prepare_check}
use Rattle.model.specs.Promise.{Done, Exact, answer_of, rooms_of, output_of, model_of, guarded, guarded_model, Promise, same}
use Rattle.model.specs.Reading.{Rooms, reads}
use Rattle.model.specs.Sound.{Sound, soundb}
use Rattle.model.specs.declared.Connection.{Connection}
use Rattle.sending.specs.Theorems as Sending
use Rattle.intake.specs.Theorems as Intake
use Rattle.discarding.specs.Theorems.{discard_model, discard_leaves}
use Rattle.polling.specs.Theorems as Polling
use Rattle.batch.specs.Theorems as Batch
use Rattle.batch.specs.FeedLaws.{feed_model, feed_sound}
use Rattle.connection.specs.Calls.{Prepares}
use Rattle.connection.specs.Theorems.{refusal_leaves, state_sound}
use Rattle.honest.specs.Public.{state_of}
use Rattle.session.specs.Ask.{Ask, send_request_ask, enqueue_fds_ask, enqueue_packet_ask, discard_reply_ask, poll_for_reply_or_error_ask, poll_check_for_reply_or_error, poll_for_reply_ask, poll_for_event_with_sequence, take_closed_fds, prepare_check_for_reply_or_error, send_requests_ask, enqueue_packets_ask, poll_for_events_ask, Form, form, Value, Outputs, told, Answers, OfBytes}

-- ---- One form

-- the outputs that an exact outcome leaves: with what is given, as w says; a refusal leaves them as they were lent
unfoldable pub outputs_of : {A O : Type 0} → O → (A → O) → Answer (Done A) → O
outputs_of o w (gives d) = w d.value
outputs_of o w (refuses n) = o

-- The promise of a call of this form, with its outputs.
pub record HasForm (f : Form) (c : Connection) (r : Rooms) (a : Answer (f.Value × Connection)) (r' : Rooms) (o : f.Outputs) : Type 0 where
  pub promise : Promise f.shows (f.exactly c r) f.modelled c r a r'
  pub outputs : o ≡ outputs_of f.lent f.written (guarded c r (f.exactly c r))

outputs_one : {A : Type 0} (g : A → List ℕ) (out : List ℕ) (z : Answer (Done A)) → output_of g z out ≡ outputs_of out (λ v. put out 0 (g v)) z
unfolding output_of outputs_of
outputs_one g out (gives d) = refl
outputs_one g out (refuses n) = refl

outputs_two : {A : Type 0} (g h : A → List ℕ) (out more : List ℕ) (z : Answer (Done A)) → ◌≡◌ {A = List ℕ × List ℕ} (output_of g z out, output_of h z more) (outputs_of (out, more) (λ v. (put out 0 (g v), put more 0 (h v))) z)
unfolding output_of outputs_of
outputs_two g h out more (gives d) = refl
outputs_two g h out more (refuses n) = refl

-- a check answers with the state and the rooms that it found
checks : (c : Connection) (r : Rooms) (n : ℕ) (a : Answer (Bool × Connection)) (r' : Rooms) → Prepares c r n (told a) → state_of a c ≡ c → r' ≡ r
    → Promise same ((form (prepare_check_for_reply_or_error n)).exactly c r) (form (prepare_check_for_reply_or_error n)).modelled c r a r'
unfolding answer_of rooms_of model_of guarded refuse told state_of
checks c r n a r' h i j = record { exact = go a (soundb c r) h i; model = guarded_model _ (form (prepare_check_for_reply_or_error n)).modelled c r (λ S. refl) }
  where
    go : (a : Answer (Bool × Connection)) (s : Bool) → told a ≡ refuse (not s) 9 (gives (prepare_check (reads c r) n)) → state_of a c ≡ c → Exact same (refuse (not s) 9 ((form (prepare_check_for_reply_or_error n)).exactly c r)) r a r'
    go (gives x) true p q = record { answers = (λ k. gives (gives_same p k, q k)); leaves = j }
    go (gives x) false p q = absurd (let z : ◌≡◌ {A = ℕ} 0 1 = cc in omega arith)
    go (refuses k) true p q = absurd (let z : ◌≡◌ {A = ℕ} 0 1 = cc in omega arith)
    go (refuses k) false p q = record { answers = (let z : k ≡ 9 = cc in ap refuses z); leaves = j }

-- EVERY PUBLIC CALL keeps such a promise,
pub has_form : (x : Ask) (c : Connection) (r : Rooms) (a : Answer (Value x × Connection)) (r' : Rooms) (o : Outputs x) → Answers x c r a r' o → HasForm (form x) c r a r' o
has_form (send_request_ask kind) c r a r' o h = record { promise = h; outputs = refl }
has_form (enqueue_fds_ask list) c r a r' o h = record { promise = h; outputs = refl }
has_form (enqueue_packet_ask p) c r a r' o h = record { promise = h; outputs = refl }
has_form (discard_reply_ask n mode) c r a r' o h = record { promise = h; outputs = refl }
has_form (poll_for_reply_or_error_ask n out fds) c r a r' o h = record { promise = h.packet.promise; outputs = (λ i. (h.packet.output i, h.descriptors i)) ∙ outputs_two _ _ out fds _ }
has_form (poll_check_for_reply_or_error n out) c r a r' o h = record { promise = h.promise; outputs = h.output ∙ outputs_one _ out _ }
has_form (poll_for_reply_ask n out) c r a r' o h = record { promise = h.promise; outputs = h.output ∙ outputs_one _ out _ }
has_form (poll_for_event_with_sequence out) c r a r' o h = record { promise = h.promise; outputs = h.output ∙ outputs_one _ out _ }
has_form (take_closed_fds out) c r a r' o h = record { promise = h.promise; outputs = h.output ∙ outputs_one _ out _ }
has_form (prepare_check_for_reply_or_error n) c r a r' o h = record { promise = checks c r n a r' h.0 h.1 h.2; outputs = refl }
has_form (send_requests_ask bytes) c r a r' o h = record { promise = h; outputs = refl }
has_form (enqueue_packets_ask bytes) c r a r' o h = record { promise = h; outputs = refl }
has_form (poll_for_events_ask out marks) c r a r' o h = record { promise = h.packets.promise; outputs = (λ i. (h.packets.output i, h.marked i)) ∙ outputs_two _ _ out marks _ }

-- and what keeps it is an answer.
unchecked : (c : Connection) (r : Rooms) (n : ℕ) (a : Answer (Bool × Connection)) (r' : Rooms) → Exact same (guarded c r ((form (prepare_check_for_reply_or_error n)).exactly c r)) r a r'
    → Prepares c r n (told a) × (state_of a c ≡ c) × (r' ≡ r)
unfolding answer_of rooms_of guarded refuse told state_of
unchecked c r n a r' x = rw (x.answers, x.leaves) (go (soundb c r))
  where
    go : (s : Bool) → (told (answer_of same (refuse (not s) 9 ((form (prepare_check_for_reply_or_error n)).exactly c r))) ≡ refuse (not s) 9 (gives (prepare_check (reads c r) n)))
        × (state_of (answer_of same (refuse (not s) 9 ((form (prepare_check_for_reply_or_error n)).exactly c r))) c ≡ c) × (rooms_of (refuse (not s) 9 ((form (prepare_check_for_reply_or_error n)).exactly c r)) r ≡ r)
    go true = (refl, refl, refl)
    go false = (refl, refl, refl)

of_form : (x : Ask) (c : Connection) (r : Rooms) (a : Answer (Value x × Connection)) (r' : Rooms) (o : Outputs x) → HasForm (form x) c r a r' o → Answers x c r a r' o
of_form (send_request_ask kind) c r a r' o k = k.promise
of_form (enqueue_fds_ask list) c r a r' o k = k.promise
of_form (enqueue_packet_ask p) c r a r' o k = k.promise
of_form (discard_reply_ask n mode) c r a r' o k = k.promise
of_form (poll_for_reply_or_error_ask n out fds) c r a r' o k =
    let z = k.outputs ∙ sym (outputs_two _ _ out fds _) in
    record { packet = record { promise = k.promise; output = ap (λ y. y.0) z }; descriptors = ap (λ y. y.1) z }
of_form (poll_check_for_reply_or_error n out) c r a r' o k = record { promise = k.promise; output = k.outputs ∙ sym (outputs_one _ out _) }
of_form (poll_for_reply_ask n out) c r a r' o k = record { promise = k.promise; output = k.outputs ∙ sym (outputs_one _ out _) }
of_form (poll_for_event_with_sequence out) c r a r' o k = record { promise = k.promise; output = k.outputs ∙ sym (outputs_one _ out _) }
of_form (take_closed_fds out) c r a r' o k = record { promise = k.promise; output = k.outputs ∙ sym (outputs_one _ out _) }
of_form (prepare_check_for_reply_or_error n) c r a r' o k = unchecked c r n a r' k.promise.exact
of_form (send_requests_ask bytes) c r a r' o k = k.promise
of_form (enqueue_packets_ask bytes) c r a r' o k = k.promise
of_form (poll_for_events_ask out marks) c r a r' o k =
    let z = k.outputs ∙ sym (outputs_two _ _ out marks _) in
    record { packets = record { promise = k.promise; output = ap (λ y. y.0) z }; marked = ap (λ y. y.1) z }

-- ---- There is an outcome

-- each exact outcome is the model's
exactly_model : (x : Ask) → OfBytes x → (c : Connection) (r : Rooms) → Sound c r → model_of ((form x).exactly c r) ≡ (form x).modelled (reads c r)
unfolding model_of
exactly_model (send_request_ask kind) b c r S = Sending.send_model c r S kind
exactly_model (enqueue_fds_ask list) b c r S = Sending.enqueue_model c r S list
exactly_model (enqueue_packet_ask p) b c r S = Intake.enqueue_model c r S p b
exactly_model (discard_reply_ask n mode) b c r S = discard_model c r S n mode
exactly_model (poll_for_reply_or_error_ask n out fds) b c r S = Polling.taken_model c r S n (length out) (length fds)
exactly_model (poll_check_for_reply_or_error n out) b c r S = Polling.checked_model c r S n (length out)
exactly_model (poll_for_reply_ask n out) b c r S = Polling.replied_model c r S n (length out)
exactly_model (poll_for_event_with_sequence out) b c r S = Polling.event_model c r S (length out)
exactly_model (take_closed_fds out) b c r S = Sending.close_model c r S (length out)
exactly_model (prepare_check_for_reply_or_error n) b c r S = refl
exactly_model (send_requests_ask bytes) b c r S = Batch.sends_model c r S bytes
exactly_model (enqueue_packets_ask bytes) b c r S = feed_model c r S bytes b
exactly_model (poll_for_events_ask out marks) b c r S = Batch.events_model c r S (length out) (length marks)

pub some_answer : (x : Ask) → OfBytes x → (c : Connection) (r : Rooms) → (a : Answer (Value x × Connection)) × (r' : Rooms) × (o : Outputs x) × Answers x c r a r' o
some_answer x b c r =
    let g : Answer (Done (form x).Given) = guarded c r ((form x).exactly c r) in (
      answer_of (form x).shows g,
      rooms_of g r,
      outputs_of (form x).lent (form x).written g,
      of_form x c r _ _ _ (record { promise = record { exact = record { answers = refl; leaves = refl }; model = guarded_model _ (form x).modelled c r (exactly_model x b c r) }; outputs = refl }),
    )

-- ---- Soundness

-- each exact outcome leaves a sound state sound
exactly_sound : (x : Ask) → OfBytes x → (c : Connection) (r : Rooms) → Sound c r → (d : Done (form x).Given) → gives d ≡ (form x).exactly c r → Sound d.state d.left
exactly_sound (send_request_ask kind) b c r S = Sending.send_sound c r S kind
exactly_sound (enqueue_fds_ask list) b c r S = Sending.enqueue_sound c r S list
exactly_sound (enqueue_packet_ask p) b c r S = Intake.enqueue_sound c r S p b
exactly_sound (discard_reply_ask n mode) b c r S = λ d e. subst (λ (y : Done Unit). Sound y.state y.left) (gives_same (sym e)) (discard_leaves c r S n mode)
exactly_sound (poll_for_reply_or_error_ask n out fds) b c r S = Polling.taken_leaves c r S n (length out) (length fds)
exactly_sound (poll_check_for_reply_or_error n out) b c r S = Polling.checked_leaves c r S n (length out)
exactly_sound (poll_for_reply_ask n out) b c r S = Polling.replied_leaves c r S n (length out)
exactly_sound (poll_for_event_with_sequence out) b c r S = Polling.event_leaves c r S (length out)
exactly_sound (take_closed_fds out) b c r S = Sending.close_sound c r S (length out)
exactly_sound (prepare_check_for_reply_or_error n) b c r S = λ d e. subst (λ (y : Done Bool). Sound y.state y.left) (gives_same (sym e)) S
exactly_sound (send_requests_ask bytes) b c r S = Batch.sends_sound c r S bytes
exactly_sound (enqueue_packets_ask bytes) b c r S = feed_sound c r S bytes b
exactly_sound (poll_for_events_ask out marks) b c r S = Batch.events_sound c r S (length out) (length marks)

module _ (x : Ask) (b : OfBytes x) (c : Connection) (r : Rooms) where
  -- What a call hands back is sound with the rooms that it leaves,
  pub handed_sound : (v : Value x) (c' : Connection) (r' : Rooms) (o : Outputs x) → Answers x c r (gives (v, c')) r' o → Sound c' r'
  handed_sound v c' r' o h = state_sound (form x).shows _ _ c r (exactly_sound x b c r) v c' r' (has_form x c r (gives (v, c')) r' o h).promise

  -- and so, from a sound state, is what the caller goes on with, refused or not.
  pub goes_sound : Sound c r → (a : Answer (Value x × Connection)) (r' : Rooms) (o : Outputs x) → Answers x c r a r' o → Sound (state_of a c) r'
  unfolding state_of
  goes_sound S (gives y) r' o h = handed_sound y.0 y.1 r' o h
  goes_sound S (refuses n) r' o h = subst (λ (y : Rooms). Sound c y) (sym (refusal_leaves (form x).shows _ _ c r n r' (has_form x c r (refuses n) r' o h).promise)) S
