-- How a call that hands something out comes out. Assumes nothing.
use Rattle.std.specs.Prelude.{◌≡◌, true, false, List, ℕ, length}
use Rattle.std.proofs.Common.{sym, ap, ◌∙◌}
use Rattle.refusal.specs.Answer.{Answer, refuses}
use Rattle.model.specs.Client.{Client}
use Rattle.model.specs.Model.{poll_for_reply_or_error}
use Rattle.model.specs.Reading.{Rooms, reads}
use Rattle.model.specs.Promise.{Done, Exact, output_of, model_of, guarded, guarded_on, guarded_off, promise_unsound, promise_sound}
use Rattle.model.specs.Says.{Shown, shown_taken, bytes_of_taken, descriptors_of_taken}
use Rattle.model.specs.Sound.{Sound, soundb}
use Rattle.model.specs.declared.Connection.{Connection}
use Rattle.model.specs.PollForEvents.{ShownHandings, shown_handings, packets_of_handings, marks_of_handings, poll_for_events}
use Rattle.polling.specs.Exact.{taken_exact}
use Rattle.batch.specs.Events.{events_exact}
use Rattle.connection.specs.Calls.{Hands, Polls, PollsEvents}

-- an output after 9, and after a step
output_unsound : {A : Type 0} (g : A → List ℕ) (e : Answer (Done A)) (c : Connection) (r : Rooms) (out : List ℕ) → soundb c r ≡ false → out ≡ output_of g (guarded c r e) out
unfolding output_of
output_unsound g e c r out h = sym (ap (λ k. output_of g k out) (guarded_off c r e h))

output_sound : {A : Type 0} (g : A → List ℕ) (e : Answer (Done A)) (c : Connection) (r : Rooms) (out out' : List ℕ) → soundb c r ≡ true → out' ≡ output_of g e out → out' ≡ output_of g (guarded c r e) out
output_sound g e c r out out' h o = o ∙ ap (λ k. output_of g k out) (sym (guarded_on c r e h))

module _ {A B : Type 0} (f : A → B) (g : A → List ℕ) (e : Answer (Done A)) (m : Client → Answer (A × Client)) (c : Connection) (r : Rooms) (out : List ℕ) (law : Sound c r → model_of e ≡ m (reads c r)) where
  pub hands_unsound : soundb c r ≡ false → Hands f g e m c r out (refuses 9) r out
  hands_unsound h = record { promise = promise_unsound f e m c r law h; output = output_unsound g e c r out h }

  pub hands_sound : (a : Answer (B × Connection)) (r' : Rooms) (out' : List ℕ) → soundb c r ≡ true → Exact f e r a r' → out' ≡ output_of g e out → Hands f g e m c r out a r' out'
  hands_sound a r' out' h x o = record { promise = promise_sound f e m c r law a r' h x; output = output_sound g e c r out out' h o }

module _ (c : Connection) (r : Rooms) (n : ℕ) (out fds : List ℕ) (law : Sound c r → model_of (taken_exact c r n (length out) (length fds)) ≡ poll_for_reply_or_error (reads c r) n (length out) (length fds)) where
  pub polls_unsound : soundb c r ≡ false → Polls c r n out fds (refuses 9) r out fds
  polls_unsound h = record { packet = hands_unsound shown_taken bytes_of_taken _ _ c r out law h; descriptors = output_unsound descriptors_of_taken _ c r fds h }

  pub polls_sound : (a : Answer (Shown × Connection)) (r' : Rooms) (out' fds' : List ℕ) → soundb c r ≡ true → Exact shown_taken (taken_exact c r n (length out) (length fds)) r a r'
      → out' ≡ output_of bytes_of_taken (taken_exact c r n (length out) (length fds)) out → fds' ≡ output_of descriptors_of_taken (taken_exact c r n (length out) (length fds)) fds
      → Polls c r n out fds a r' out' fds'
  polls_sound a r' out' fds' h x o p =
      record { packet = hands_sound shown_taken bytes_of_taken _ _ c r out law a r' out' h x o; descriptors = output_sound descriptors_of_taken _ c r fds fds' h p }

module _ (c : Connection) (r : Rooms) (out marks : List ℕ) (law : Sound c r → model_of (events_exact c r (length out) (length marks)) ≡ poll_for_events (reads c r) (length out) (length marks)) where
  pub events_unsound : soundb c r ≡ false → PollsEvents c r out marks (refuses 9) r out marks
  events_unsound h = record { packets = hands_unsound shown_handings packets_of_handings _ _ c r out law h; marked = output_unsound marks_of_handings _ c r marks h }

  pub events_sound : (a : Answer (ShownHandings × Connection)) (r' : Rooms) (out' marks' : List ℕ) → soundb c r ≡ true → Exact shown_handings (events_exact c r (length out) (length marks)) r a r'
      → out' ≡ output_of packets_of_handings (events_exact c r (length out) (length marks)) out → marks' ≡ output_of marks_of_handings (events_exact c r (length out) (length marks)) marks
      → PollsEvents c r out marks a r' out' marks'
  events_sound a r' out' marks' h x o p =
      record { packets = hands_sound shown_handings packets_of_handings _ _ c r out law a r' out' h x o; marked = output_sound marks_of_handings _ c r marks marks' h p }
