-- What an export does: what the promise of the call below it says, answered by a number. Assumes nothing.
use Rattle.std.specs.Prelude.{◌≡◌, refl, Bool, true, false, List, ℕ, get_or, Result}
use Rattle.std.specs.Result.{IsErrAnd}
use Rattle.std.proofs.Common.{subst, sym, ap, ◌∙◌}
use Rattle.octets.specs.Logic.{apart}
use Rattle.refusal.specs.declared.Refusal.{Refusal}
use Rattle.refusal.specs.Numbers.{number_of}
use Rattle.refusal.specs.Answer.{Answer, gives, refuses, says, passed_on}

-- the number that an export answers: 0, or that of the refusal
abbrev pub returned : {A : Type 0} → Answer A → ℕ
returned (gives x) = 0
returned (refuses n) = n

-- the same of a result that gives nothing more: 0, or the number of its refusal
abbrev pub returned_of : Result Unit Refusal → ℕ
returned_of r = returned (says (λ (x : Unit). x) r)

-- what is behind the lent numbers at exit: what is shown of the values given, and after a refusal what was there
abbrev pub shown_of : {A : Type 0} → (A → List ℕ) → Answer A → List ℕ → List ℕ
shown_of show (gives x) v = show x
shown_of show (refuses n) v = v

-- AN EXPORT of a call with the promise P: it has an answer that P allows, returns its number, and shows its values, where
--
--      P          says of an answer that the call below may give it
--      show       gives the numbers that are shown of a value
--      v, v'      the numbers behind the pointers, as they are lent and at exit
--      code       the number returned
pub record Exported {A : Type 0} (P : Answer A → Type 0) (show : A → List ℕ) (v v' : List ℕ) (code : ℕ) : Type 0 where
  pub answer : Answer A
  pub promise : P answer
  pub number : code ≡ returned answer
  pub values : v' ≡ shown_of show answer v

-- One that keeps a state in a row of numbers: a refusal leaves the row, otherwise the state handed back is put there. Here
--
--      put        gives the row with the state of what was given
--      s, s'      the row, as it is lent and at exit
pub record Kept {A : Type 0} (P : Answer A → Type 0) (show : A → List ℕ) (put : A → List ℕ) (v v' s s' : List ℕ) (code : ℕ) : Type 0 where
  pub exported : Exported P show v v' code
  pub state : s' ≡ shown_of put exported.answer s

-- The promise P where a test holds, and otherwise a refusal by 9 that leaves all as found.
pub data When {A : Type 0} (b : Bool) (same : Type 0) (P : Answer A → Type 0) : Answer A → Type 0 where
  on : {a : Answer A} → b ≡ true → P a → When b same P a
  off : b ≡ false → same → When b same P (refuses 9)

-- An export that tests a number or a row before its call. Where the test holds, it is one of a call with the promise P that keeps its state; where not, it
-- returns 9, numbers and row are as found, and so are the rooms, which `same` says of them. (`xiengmado/specs/Worked.antt` has both cases.)
abbrev pub KeptWhen : {A : Type 0} (test : Bool) (same : Type 0) (P : Answer A → Type 0) (show put : A → List ℕ) (v v' s s' : List ℕ) (code : ℕ) → Type 0
KeptWhen test same P show put v v' s s' code = Kept (λ a. When test same P a) show put v v' s s' code

-- An export that goes by the case of an answer.
pub exported_at : {E A : Type 0} {P : Answer A → Type 0} {show : A → List ℕ} {v v' : List ℕ} {code : ℕ} (says : E → Answer A) {e k : E} → e ≡ k → P (says e) → code ≡ returned (says k)
    → v' ≡ shown_of show (says k) v → Exported P show v v' code
exported_at {P = P} says {k = k} q p c s = record { answer = says k; promise = subst (λ (x : _). P (says x)) q p; number = c; values = s }

pub kept_at : {E A : Type 0} {P : Answer A → Type 0} {show put : A → List ℕ} {v v' s s' : List ℕ} {code : ℕ} (says : E → Answer A) {e k : E} → e ≡ k → P (says e) → code ≡ returned (says k)
    → v' ≡ shown_of show (says k) v → s' ≡ shown_of put (says k) s → Kept P show put v v' s s' code
unfolding exported_at
kept_at {P = P} says {k = k} q p c w t = record { exported = exported_at {P = P} says {k = k} q p c w; state = t }

-- An export whose answer is known has the promise of that answer.
pub kept_on : {A : Type 0} {P : Answer A → Type 0} {show put : A → List ℕ} {v v' s s' : List ℕ} {code : ℕ} {k : Answer A} → Kept (λ a. a ≡ k) show put v v' s s' code → P k
    → Kept P show put v v' s s' code
kept_on {P = P} x p =
    record { exported = record { answer = x.exported.answer; promise = subst P (sym x.exported.promise) p; number = x.exported.number; values = x.exported.values }; state = x.state }

pub exported_on : {A : Type 0} {P : Answer A → Type 0} {show : A → List ℕ} {v v' : List ℕ} {code : ℕ} {k : Answer A} → Exported (λ a. a ≡ k) show v v' code → P k → Exported P show v v' code
exported_on {P = P} x p = record { answer = x.answer; promise = subst P (sym x.promise) p; number = x.number; values = x.values }

-- A refusal that is passed on has its number.
pub returned_passed : (r : Result Unit Refusal) (e : Refusal) → IsErrAnd r (λ y. y ≡ e) → returned_of r ≡ number_of e
returned_passed r e p = ap returned_of (passed_on p)

-- An export that refuses by 9 before its call.
pub kept_off : {A : Type 0} {P : Answer A → Type 0} {show put : A → List ℕ} {v s : List ℕ} → P (refuses 9) → Kept P show put v v s s 9
kept_off p = record { exported = record { answer = refuses 9; promise = p; number = refl; values = refl }; state = refl }

-- An export whose answer is given.
pub kept_by : {A : Type 0} {P : Answer A → Type 0} {show put : A → List ℕ} {v v' s s' : List ℕ} {code : ℕ} (a : Answer A) → P a → code ≡ returned a → v' ≡ shown_of show a v → s' ≡ shown_of put a s
    → Kept P show put v v' s s' code
kept_by a p c w t = record { exported = record { answer = a; promise = p; number = c; values = w }; state = t }

pub exported_by : {A : Type 0} {P : Answer A → Type 0} {show : A → List ℕ} {v v' : List ℕ} {code : ℕ} (a : Answer A) → P a → code ≡ returned a → v' ≡ shown_of show a v → Exported P show v v' code
exported_by a p c w = record { answer = a; promise = p; number = c; values = w }

-- Two outcomes of an export, where what the one and the other promise allow one answer: equal are the number returned and the numbers shown,
pub exported_one : {A : Type 0} {P Q : Answer A → Type 0} {show : A → List ℕ} {v u w : List ℕ} {i j : ℕ} → Exported P show v u i → Exported Q show v w j → ((a b : Answer A) → P a → Q b → a ≡ b) → (i ≡ j) × (u ≡ w)
exported_one {A} {show = show} {v = v} x y one =
    let e : x.answer ≡ y.answer = one x.answer y.answer x.promise y.promise in
    (x.number ∙ ap (λ (a : Answer A). returned a) e ∙ sym y.number, x.values ∙ ap (λ (a : Answer A). shown_of show a v) e ∙ sym y.values)

-- and the row.
pub kept_one : {A : Type 0} {P Q : Answer A → Type 0} {show put : A → List ℕ} {v u w s t z : List ℕ} {i j : ℕ} → Kept P show put v u s t i → Kept Q show put v w s z j → ((a b : Answer A) → P a → Q b → a ≡ b)
    → (i ≡ j) × (u ≡ w) × (t ≡ z)
kept_one {A} {put = put} {s = s} x y one =
    let e : x.exported.answer ≡ y.exported.answer = one x.exported.answer y.exported.answer x.exported.promise y.exported.promise in
    let k = exported_one x.exported y.exported one in
    (k.0, k.1, x.state ∙ ap (λ (a : Answer A). shown_of put a s) e ∙ sym y.state)

-- The same where they speak of rooms and outputs at exit too: with the answers come the equations L of what is left there.
pub exported_left : {A L : Type 0} {P Q : Answer A → Type 0} {show : A → List ℕ} {v u w : List ℕ} {i j : ℕ} → Exported P show v u i → Exported Q show v w j → ((a b : Answer A) → P a → Q b → (a ≡ b) × L)
    → (i ≡ j) × (u ≡ w) × L
exported_left x y one =
    let k = exported_one x y (λ a b p q. (one a b p q).0) in
    (k.0, k.1, (one x.answer y.answer x.promise y.promise).1)

pub kept_left : {A L : Type 0} {P Q : Answer A → Type 0} {show put : A → List ℕ} {v u w s t z : List ℕ} {i j : ℕ} → Kept P show put v u s t i → Kept Q show put v w s z j → ((a b : Answer A) → P a → Q b → (a ≡ b) × L)
    → (i ≡ j) × (u ≡ w) × (t ≡ z) × L
kept_left x y one =
    let k = kept_one x y (λ a b p q. (one a b p q).0) in
    (k.0, k.1, k.2, (one x.exported.answer y.exported.answer x.exported.promise y.exported.promise).1)

-- Behind a test two promises allow one answer, and leave the same, where they do themselves and all is left as found otherwise;
pub when_left : {A L : Type 0} {b : Bool} {same same' : Type 0} {P Q : Answer A → Type 0} → (same → same' → L) → ((x y : Answer A) → P x → Q y → (x ≡ y) × L) → (x y : Answer A)
    → When b same P x → When b same' Q y → (x ≡ y) × L
when_left found one x y (on h p) (on k q) = one x y p q
when_left found one x y (on h p) (off k s) = apart h k
when_left found one x y (off h s) (on k q) = apart k h
when_left found one x y (off h s) (off k t) = (refl, found s t)

-- so where they leave nothing, one answer.
pub when_one : {A : Type 0} {b : Bool} {same same' : Type 0} {P Q : Answer A → Type 0} → ((x y : Answer A) → P x → Q y → x ≡ y) → (x y : Answer A) → When b same P x → When b same' Q y → x ≡ y
when_one one x y h k = (when_left {L = Unit {0}} (λ s t. tt) (λ v w p q. (one v w p q, tt)) x y h k).0

-- Where the test fails, the refusal is by 9 and all is as found.
pub when_off : {A : Type 0} {b : Bool} {same : Type 0} {P : Answer A → Type 0} {x : Answer A} → b ≡ false → When b same P x → (x ≡ refuses 9) × same
when_off e (on h p) = apart h e
when_off e (off h s) = (refl, s)

-- one of the numbers shown
pub shown_at : {u w : List ℕ} (i : ℕ) → u ≡ w → get_or u i 0 ≡ get_or w i 0
shown_at i e = ap (λ (l : List ℕ). get_or l i 0) e
