-- The form of a promise of a connection's call. Assumes nothing.
use Rattle.std.specs.Prelude.{◌≡◌, refl, Bool, true, false, not, List, ℕ}
use Rattle.std.proofs.Common.{sym, ap, ◌∙◌}
use Rattle.octets.specs.Put.{put}
use Rattle.refusal.specs.Answer.{Answer, gives, refuses, refuse, pass}
use Rattle.model.specs.Client.{Client}
use Rattle.model.specs.Reading.{Rooms, reads}
use Rattle.model.specs.Sound.{Sound, soundb, sound_is}
use Rattle.model.specs.declared.Connection.{Connection}

-- what a call gives, with the state that it hands back and the rooms that it leaves
pub record Done (A : Type 0) : Type 0 where
  pub value : A
  pub state : Connection
  pub left : Rooms

-- An exact outcome, `Answer (Done A)`, decides everything. Of it:

-- the answer, in which a value is shown by f (of a packet its length, say),
unfoldable pub answer_of : {A B : Type 0} → (A → B) → Answer (Done A) → Answer (B × Connection)
answer_of f (gives d) = gives (f d.value, d.state)
answer_of f (refuses n) = refuses n

-- the rooms at exit: a refusal leaves them as found,
unfoldable pub rooms_of : {A : Type 0} → Answer (Done A) → Rooms → Rooms
rooms_of (gives d) r = d.left
rooms_of (refuses n) r = r

-- a lent output at exit: what f takes of the value stands at its start, and a refusal leaves it as found,
unfoldable pub output_of : {A : Type 0} → (A → List ℕ) → Answer (Done A) → List ℕ → List ℕ
output_of f (gives d) out = put out 0 (f d.value)
output_of f (refuses n) out = out

-- and what it is in the model's terms.
unfoldable pub model_of : {A : Type 0} → Answer (Done A) → Answer (A × Client)
model_of (gives d) = gives (d.value, reads d.state d.left)
model_of (refuses n) = refuses n

-- 9 before all else, for a state that is not sound
unfoldable pub guarded : {A : Type 0} → Connection → Rooms → Answer A → Answer A
guarded c r e = refuse (not (soundb c r)) 9 e

-- what is given, shown as it is
abbrev pub same : {A : Type 0} → A → A
same x = x

-- EXACT: answer and rooms at exit are those of an outcome.
pub record Exact {A B : Type 0} (shows : A → B) (outcome : Answer (Done A)) (lent : Rooms) (answer : Answer (B × Connection)) (left : Rooms) : Type 0 where
  pub answers : answer ≡ answer_of shows outcome
  pub leaves : left ≡ rooms_of outcome lent

-- THE PROMISE of a public call, about
--
--      shows      what an answer shows of a value: of a packet, say, its number and its length
--      outcome    what the call does with a sound state, exactly: value, state and rooms, or a refusal
--      modelled   the model's function of the call
--      state      of the connection, as the call is given it
--      lent       the rooms, as they are lent
--      answer     what the call answers, with the state that it hands back
--      left       the rooms at exit
--
-- The call is exactly the outcome, or 9 where the state is not sound; and that outcome, as it is read, is what the model says of the state
-- as it is read. `connection/specs/Worked.antt` has both equations with numbers.
pub record Promise {A B : Type 0} (shows : A → B) (outcome : Answer (Done A)) (modelled : Client → Answer (A × Client)) (state : Connection) (lent : Rooms)
    (answer : Answer (B × Connection)) (left : Rooms) : Type 0 where
  pub exact : Exact shows (guarded state lent outcome) lent answer left
  pub model : model_of (guarded state lent outcome) ≡ guarded state lent (modelled (reads state lent))

-- ---- laws

-- the model of a way on
pub model_pass : {A B : Type 0} (a : Answer A) (f : A → Answer (Done B)) → model_of (pass a f) ≡ pass a (λ x. model_of (f x))
unfolding pass model_of
model_pass (gives x) f = refl
model_pass (refuses n) f = refl

pub model_refuse : {B : Type 0} (b : Bool) (n : ℕ) (e : Answer (Done B)) → model_of (refuse b n e) ≡ refuse b n (model_of e)
unfolding refuse model_of
model_refuse true n e = refl
model_refuse false n e = refl

-- An outcome that is known makes a step exact.
pub exact_refused : {A B : Type 0} (f : A → B) (e : Answer (Done A)) (r : Rooms) (n : ℕ) → refuses n ≡ e → Exact f e r (refuses n) r
unfolding answer_of rooms_of
exact_refused f e r n h = record { answers = ap (answer_of f) h; leaves = ap (λ k. rooms_of k r) h }

pub exact_given : {A B : Type 0} (f : A → B) (e : Answer (Done A)) (r : Rooms) (d : Done A) → gives d ≡ e → Exact f e r (gives (f d.value, d.state)) d.left
unfolding answer_of rooms_of
exact_given f e r d h = record { answers = ap (answer_of f) h; leaves = ap (λ k. rooms_of k r) h }

-- A promise is kept where the step is exact and, for a sound state, does as the model.
pub guarded_model : {A : Type 0} (e : Answer (Done A)) (m : Client → Answer (A × Client)) (c : Connection) (r : Rooms) → (Sound c r → model_of e ≡ m (reads c r))
    → model_of (guarded c r e) ≡ guarded c r (m (reads c r))
unfolding guarded refuse model_of
guarded_model e m c r h = go (soundb c r) refl
  where
    go : (b : Bool) → soundb c r ≡ b → model_of (refuse (not b) 9 e) ≡ refuse (not b) 9 (m (reads c r))
    go true q = h (sound_is c r q)
    go false q = refl

-- the test passed, or did not
pub guarded_on : {A : Type 0} (c : Connection) (r : Rooms) (e : Answer A) → soundb c r ≡ true → guarded c r e ≡ e
unfolding guarded refuse
guarded_on c r e h = simp h

pub guarded_off : {A : Type 0} (c : Connection) (r : Rooms) (e : Answer A) → soundb c r ≡ false → guarded c r e ≡ refuses 9
unfolding guarded refuse
guarded_off c r e h = simp h

-- THE PROMISE of a call is kept: it refuses by 9 what is not sound, and otherwise makes its step.
module _ {A B : Type 0} (f : A → B) (e : Answer (Done A)) (m : Client → Answer (A × Client)) (c : Connection) (r : Rooms) (law : Sound c r → model_of e ≡ m (reads c r)) where
  pub promise_unsound : soundb c r ≡ false → Promise f e m c r (refuses 9) r
  promise_unsound h = record { exact = exact_refused f (guarded c r e) r 9 (sym (guarded_off c r e h)); model = guarded_model e m c r law }

  pub promise_sound : (a : Answer (B × Connection)) (r' : Rooms) → soundb c r ≡ true → Exact f e r a r' → Promise f e m c r a r'
  promise_sound a r' h x =
      record {
        exact = record { answers = x.answers ∙ ap (answer_of f) (sym (guarded_on c r e h)); leaves = x.leaves ∙ ap (λ k. rooms_of k r) (sym (guarded_on c r e h)) };
        model = guarded_model e m c r law;
      }
