-- What a call answers, in the rules' own terms. Assumes nothing.
use Rattle.std.specs.Prelude.{◌≡◌, refl, Bool, true, false, ℕ, Result, Ok, Err}
use Rattle.std.specs.Result.{IsErrAnd}
use Rattle.std.proofs.Common.{sym, ap, ◌∙◌, arith}
use Rattle.std.proofs.lemmas.Result.{err_from_is_err_and}
use Rattle.refusal.specs.declared.Refusal.{Refusal}
use Rattle.refusal.specs.Numbers.{number_of, refusal_of, listed}

-- what a call gives, or the number of its refusal
pub data Answer (A : Type 0) : Type 0 where
  gives : A → Answer A
  refuses : ℕ → Answer A

-- Refusals in their order: where the test holds the call refuses by the number, otherwise it goes on.
unfoldable pub refuse : {A : Type 0} → Bool → ℕ → Answer A → Answer A
refuse true n a = refuses n
refuse false n a = a

-- A call that begins with a check: its refusal, or what comes after it.
unfoldable pub after : {A B : Type 0} → Answer A → Answer B → Answer B
after (gives x) b = b
after (refuses n) b = refuses n

-- What is given is passed on.
unfoldable pub pass : {A B : Type 0} → Answer A → (A → Answer B) → Answer B
pass (gives x) f = f x
pass (refuses n) f = refuses n

pub after_given : {A B : Type 0} {x : A} {c : Answer A} (b : Answer B) → gives x ≡ c → b ≡ after c b
unfolding after
after_given b e = ap (λ k. after k b) e

pub after_refused : {A B : Type 0} {n : ℕ} {c : Answer A} (b : Answer B) → refuses n ≡ c → refuses n ≡ after c b
unfolding after
after_refused b e = ap (λ k. after k b) e

-- What comes after a refusal may use that its test failed.
pub refuse_under : {A : Type 0} (b : Bool) (n : ℕ) {x y : Answer A} → (b ≡ false → x ≡ y) → refuse b n x ≡ refuse b n y
unfolding refuse
refuse_under true n h = refl
refuse_under false n h = h refl

-- A call that gives something has passed each of its refusals.
pub gives_past : {A : Type 0} {x : A} (b : Bool) (n : ℕ) (a : Answer A) → gives x ≡ refuse b n a → b ≡ false
unfolding refuse
gives_past true n a e = absurd (let z : ◌≡◌ {A = ℕ} 0 1 = cc in omega arith)
gives_past false n a e = refl

pub gives_rest : {A : Type 0} {x : A} (b : Bool) (n : ℕ) (a : Answer A) → gives x ≡ refuse b n a → gives x ≡ a
unfolding refuse
gives_rest true n a e = absurd (let z : ◌≡◌ {A = ℕ} 0 1 = cc in omega arith)
gives_rest false n a e = e

-- and so has the check that it begins with
pub after_check : {B : Type 0} {x : B} (c : Answer Unit) (b : Answer B) → gives x ≡ after c b → gives tt ≡ c
unfolding after
after_check (gives y) b e = refl
after_check (refuses n) b e = absurd (let z : ◌≡◌ {A = ℕ} 0 1 = cc in omega arith)

pub after_rest : {B : Type 0} {x : B} (c : Answer Unit) (b : Answer B) → gives x ≡ after c b → gives x ≡ b
unfolding after
after_rest (gives y) b e = e
after_rest (refuses n) b e = absurd (let z : ◌≡◌ {A = ℕ} 0 1 = cc in omega arith)

-- What comes of a refusal that is given, and of one that is passed.
pub given_refusal : {A : Type 0} (b : Bool) (n : ℕ) (a : Answer A) → b ≡ true → refuses n ≡ refuse b n a
unfolding refuse
given_refusal b n a h = ap (λ (t : Bool). refuse t n a) (sym h)

pub past_refusal : {A : Type 0} (b : Bool) (n : ℕ) (a : Answer A) → b ≡ false → a ≡ refuse b n a
unfolding refuse
past_refusal b n a h = ap (λ (t : Bool). refuse t n a) (sym h)

-- What is given decides the answer.
pub gives_same : {A : Type 0} {x y : A} → gives x ≡ gives y → x ≡ y
gives_same e = cc

-- What came of something that was given.
pub pass_given : {A B : Type 0} {y : B} (a : Answer A) (f : A → Answer B) → gives y ≡ pass a f → (x : A) × (gives x ≡ a) × (gives y ≡ f x)
unfolding pass
pass_given (gives x) f e = (x, refl, e)
pass_given (refuses n) f e = absurd (let z : ◌≡◌ {A = ℕ} 0 1 = cc in omega arith)

-- Two ways on that agree wherever something is given.
pub pass_agree : {A B : Type 0} (a : Answer A) (f g : A → Answer B) → ((x : A) → gives x ≡ a → f x ≡ g x) → pass a f ≡ pass a g
unfolding pass
pass_agree (gives x) f g h = h x refl
pass_agree (refuses n) f g h = refl

-- A refusal is passed on,
pub pass_refuse : {A B : Type 0} (b : Bool) (n : ℕ) (a : Answer A) (f : A → Answer B) → pass (refuse b n a) f ≡ refuse b n (pass a f)
unfolding pass refuse
pass_refuse true n a f = refl
pass_refuse false n a f = refl

-- and what was passed on is passed on.
pub pass_pass : {A B C : Type 0} (a : Answer A) (f : A → Answer B) (g : B → Answer C) → pass (pass a f) g ≡ pass a (λ x. pass (f x) g)
unfolding pass
pass_pass (gives x) f g = refl
pass_pass (refuses n) f g = refl

-- What an answer says decides it, where it can be read back from what it says: so two answers that a promise allows are equal.
pub decides : {E A : Type 0} (says : E → Answer A) (back : Answer A → E) → ((e : E) → back (says e) ≡ e) → (a b : E) → says a ≡ says b → a ≡ b
decides says back h a b e = sym (h a) ∙ ap back e ∙ h b

-- ---- what a result says

-- What is given, read in the rules' own terms, or the number of the refusal.
abbrev pub says : {T A : Type 0} → (T → A) → Result T Refusal → Answer A
says f (Ok x) = gives (f x)
says f (Err r) = refuses (number_of r)

-- Two results that say the same are equal, where what is given can be read back.
pub says_one : {T A : Type 0} (f : T → A) (back : A → T) → ((x : T) → back (f x) ≡ x) → (a b : Result T Refusal) → says f a ≡ says f b → a ≡ b
says_one {T} {A} f back h = decides (says f) unsay at_once
  where
    unsay : Answer A → Result T Refusal
    unsay (gives x) = Ok (back x)
    unsay (refuses n) = Err (refusal_of n)

    at_once : (e : Result T Refusal) → unsay (says f e) ≡ e
    at_once (Ok x) = ap Ok (h x)
    at_once (Err r) = ap Err (listed r)

-- What a `?` answers of a refusal is that refusal, or what is made of it.
pub passed_on : {T E : Type 0} {r : Result T E} {e : E} → IsErrAnd r (λ y. y ≡ e) → r ≡ Err e
passed_on {r = r} p = let q = err_from_is_err_and r p in q.1 ∙ ap Err q.2

-- and where the refusal is known, that one.
pub refused : {T E : Type 0} {r : Result T E} {e f : E} → IsErrAnd r (λ y. y ≡ e) → e ≡ f → r ≡ Err f
refused p h = passed_on p ∙ ap Err h
