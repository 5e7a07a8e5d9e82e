-- What a promise comes to: its refusals are the model's, or 9, and what it gives is what the model gives. Assumes nothing.
use Rattle.std.specs.Prelude.{Bool, ◌↔◌, refl, ℕ}
use Rattle.std.proofs.Math.Bool.{true, false}
use Rattle.std.proofs.Math.Path.{◌≡◌, sym, ap}
use Rattle.std.proofs.Common.{◌∙◌, arith}
use Rattle.std.proofs.lemmas.Bool.{not-false}
use Rattle.refusal.specs.Answer.{Answer, gives, refuses, refuse, gives_past, gives_rest, gives_same}
use Rattle.model.specs.Client.{Client}
use Rattle.model.specs.Promise.{Done, answer_of, rooms_of, model_of, guarded, guarded_on, Promise}
use Rattle.model.specs.Reading.{Rooms, reads}
use Rattle.model.specs.Sound.{Sound, sound_is, is_sound}
use Rattle.model.specs.declared.Connection.{Connection}

-- ---- refusals in a row

module _ {A : Type 0} (b : Bool) (n k : ℕ) (a : Answer A) where
  -- it is refused by k at this test, or passes it and is refused so later
  pub refused_on : (n ≡ k → ⊥) → refuse b n a ≡ refuses k → (b ≡ false) × (a ≡ refuses k)
  unfolding refuse
  refused_on d e = go b e
    where
      go : (x : Bool) → refuse x n a ≡ refuses k → (x ≡ false) × (a ≡ refuses k)
      go true q = absurd (d (cc))
      go false q = (refl, q)

  pub refused_past : b ≡ false → a ≡ refuses k → refuse b n a ≡ refuses k
  unfolding refuse
  refused_past e q = rw e q

pub refused_here : {A : Type 0} (b : Bool) (n : ℕ) (x : A) → refuse b n (gives x) ≡ refuses n → b ≡ true
unfolding refuse
refused_here true n x e = refl
refused_here false n x e = absurd (let z : ◌≡◌ {A = ℕ} 0 1 = cc in omega arith)

-- by this number alone
pub refused_alone : {A : Type 0} (b : Bool) (n : ℕ) (x : A) (k : ℕ) → refuse b n (gives x) ≡ refuses k → k ≡ n
unfolding refuse
refused_alone true n x k e = cc
refused_alone false n x k e = absurd (let z : ◌≡◌ {A = ℕ} 0 1 = cc in omega arith)

pub here_refused : {A : Type 0} (b : Bool) (n : ℕ) (x : Answer A) → b ≡ true → refuse b n x ≡ refuses n
unfolding refuse
here_refused b n x e = rw e refl

-- ---- promises

module _ {A B : Type 0} (f : A → B) (e : Answer (Done A)) (m : Client → Answer (A × Client)) (c : Connection) (r : Rooms) (a : Answer (B × Connection)) (r' : Rooms) (p : Promise f e m c r a r') where
  -- a refusal is the model's, or 9
  pub promise_refuses : (k : ℕ) → (a ≡ refuses k) ↔ (guarded c r (m (reads c r)) ≡ refuses k)
  unfolding answer_of model_of
  promise_refuses k = go (guarded c r e) p.exact.answers p.model
    where
      go : (x : Answer (Done A)) → a ≡ answer_of f x → model_of x ≡ guarded c r (m (reads c r)) → (a ≡ refuses k) ↔ (guarded c r (m (reads c r)) ≡ refuses k)
      go (gives d) s q = (λ i. absurd (let z : ◌≡◌ {A = ℕ} 0 1 = cc in omega arith), λ i. absurd (let z : ◌≡◌ {A = ℕ} 0 1 = cc in omega arith))
      go (refuses n) s q = (λ i. (let z : n ≡ k = cc in sym q ∙ ap refuses z), λ i. (let z : n ≡ k = cc in s ∙ ap refuses z))

  -- and but for 9 the model's, of a sound state
  pub promise_by : (k : ℕ) → (9 ≡ k → ⊥) → (a ≡ refuses k) ↔ (Sound c r × (m (reads c r) ≡ refuses k))
  unfolding guarded
  promise_by k d = (there, back)
    where
      there : a ≡ refuses k → Sound c r × (m (reads c r) ≡ refuses k)
      there i =
          let z = refused_on _ 9 k _ d ((promise_refuses k).0 i) in
          (sound_is c r (not-false _ z.0), z.1)

      back : Sound c r × (m (reads c r) ≡ refuses k) → a ≡ refuses k
      back s = (promise_refuses k).1 (guarded_on c r (m (reads c r)) (is_sound c r s.0) ∙ s.1)

-- What a promise that gives something says: the state was sound, and the model gives the same and comes to the state as it is read.
pub record Gave {A B : Type 0} (f : A → B) (m : Client → Answer (A × Client)) (c : Connection) (r : Rooms) (y : B) (c' : Connection) (r' : Rooms) : Type 0 where
  pub was_sound : Sound c r
  pub value : A
  pub shown : y ≡ f value
  pub model : m (reads c r) ≡ gives (value, reads c' r')

pub promise_gave : {A B : Type 0} (f : A → B) (e : Answer (Done A)) (m : Client → Answer (A × Client)) (c : Connection) (r : Rooms) (y : B) (c' : Connection) (r' : Rooms) → Promise f e m c r (gives (y, c')) r' → Gave f m c r y c' r'
unfolding answer_of rooms_of model_of guarded
promise_gave {A = A} {B = B} f e m c r y c' r' p = go (guarded c r e) p.exact.answers p.exact.leaves p.model
  where
    go : (x : Answer (Done A)) → gives (y, c') ≡ answer_of f x → r' ≡ rooms_of x r → model_of x ≡ guarded c r (m (reads c r)) → Gave f m c r y c' r'
    go (gives d) s l q =
        let w : ◌≡◌ {A = B × Connection} (y, c') (f d.value, d.state) = gives_same s in
        record {
          was_sound = sound_is c r (not-false _ (gives_past _ 9 _ q));
          value = d.value;
          shown = ap (λ v. v.0) w;
          model = sym (gives_rest _ 9 _ q) ∙ (λ i. gives (d.value, reads (sym (ap (λ (v : B × Connection). v.1) w) i) (sym l i)));
        }
    go (refuses n) s l q = absurd (let z : ◌≡◌ {A = ℕ} 0 1 = cc in omega arith)
