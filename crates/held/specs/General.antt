-- Laws of tests, of lists and of bytes that know nothing of a record. Assumes nothing.
use Rattle.std.specs.Prelude.{◌≡◌, refl, Bool, true, false, List, [], ◌∷◌, ◌++◌, ℕ, ◌+◌, ◌-◌, ◌≤◌, ◌<◌, eqb, length, take, drop, get_or}
use Rattle.std.proofs.Common.{sym, ap, ◌∙◌, arith, take_at, drop_at, eq-eqb, eqb-true}
use Rattle.octets.specs.Logic.{choose, both, both_left, both_right, both_yes, apart}
use Rattle.octets.specs.Bytes.{number_in}
use Rattle.octets.specs.Put.{put, cut, cut_add, cut_cut, take_cut, drop_cut, cut_put, cut_put_before}
use Rattle.octets.specs.Field.{field, field_one, field_drop}

-- ---- tests

pub choose_yes : {A : Type 0} (b : Bool) (x y : A) → b ≡ true → choose b x y ≡ x
unfolding choose
choose_yes b x y e = ap (λ (t : Bool). choose t x y) e

pub choose_no : {A : Type 0} (b : Bool) (x y : A) → b ≡ false → choose b x y ≡ y
unfolding choose
choose_no b x y e = ap (λ (t : Bool). choose t x y) e

-- what holds of either holds of the one that is chosen
pub choose_either : {A : Type 0} (P : A → Type 0) (b : Bool) (x y : A) → (b ≡ true → P x) → (b ≡ false → P y) → P (choose b x y)
unfolding choose
choose_either P true x y p q = p refl
choose_either P false x y p q = q refl

-- a test that can't hold fails
pub not_so : (b : Bool) → (b ≡ true → ⊥) → b ≡ false
not_so true h = absurd (h refl)
not_so false h = refl

-- ---- two lists are the same

unfoldable pub same : List ℕ → List ℕ → Bool
same [] [] = true
same [] (y ∷ ys) = false
same (x ∷ xs) [] = false
same (x ∷ xs) (y ∷ ys) = both (eqb x y) (same xs ys)

pub same_is : (a b : List ℕ) → same a b ≡ true → a ≡ b
unfolding same
same_is [] [] h = refl
same_is [] (y ∷ b) h = apart refl (sym h)
same_is (x ∷ a) [] h = apart refl (sym h)
same_is (x ∷ a) (y ∷ b) h =
    let e : x ≡ y = eqb-true x y (both_left _ _ h) in
    λ k. e k ∷ same_is a b (both_right _ _ h) k

pub same_append : (a x y : List ℕ) → same (a ++ x) (a ++ y) ≡ same x y
unfolding same both
same_append [] x y = refl
same_append (b ∷ a) x y = ap (λ (t : Bool). both t (same (a ++ x) (a ++ y))) (eq-eqb b b refl) ∙ same_append a x y

same_self : (a : List ℕ) → same a a ≡ true
unfolding same
same_self [] = refl
same_self (x ∷ a) = both_yes _ _ (eq-eqb x x refl) (same_self a)

pub same_yes : (a b : List ℕ) → a ≡ b → same a b ≡ true
same_yes a b e = ap (λ (l : List ℕ). same a l) (sym e) ∙ same_self a

-- ---- cuts of two lists side by side

-- a cut that is two lists side by side holds each of them
pub cut_left : (s : List ℕ) (at m : ℕ) (a b : List ℕ) → cut at m s ≡ a ++ b → length a ≤ m → cut at (length a) s ≡ a
cut_left s at m a b e h = sym (take_cut s at m (length a) h) ∙ ap (λ (l : List ℕ). take (length a) l) e ∙ take_at a b (length a) refl

pub cut_right : (s : List ℕ) (at m : ℕ) (a b : List ℕ) → cut at m s ≡ a ++ b → length a ≤ m → cut (at + length a) (m - length a) s ≡ b
cut_right s at m a b e h = sym (drop_cut s at m (length a) h) ∙ ap (λ (l : List ℕ). drop (length a) l) e ∙ drop_at a b (length a) refl

-- a cut that ends with what was put at an index holds what stood before it, and that
pub cut_put_last : (s : List ℕ) (a at e : ℕ) (v : List ℕ) → a ≤ at → at ≤ e → e ≤ length s → length v ≡ e - at → cut a (e - a) (put s at v) ≡ cut a (at - a) s ++ v
cut_put_last s a at e v h k r l =
    let p : e - a ≡ at - a + (e - at) = omega arith in
    let q : a + (at - a) ≡ at = omega arith in
    ap (λ (n : ℕ). cut a n (put s at v)) p
    ∙ cut_add a (at - a) (e - at) (put s at v)
    ∙ (λ i. cut_put_before s at v a (at - a) (omega arith) (omega arith) i ++ cut (q i) (e - at) (put s at v))
    ∙ ap (λ (x : List ℕ). cut a (at - a) s ++ x) (cut_put s at v (e - at) l (omega arith))

-- ---- fields

-- a field of a cut
pub field_cut : (o : ℕ) (s : List ℕ) (at m k n : ℕ) → k + n ≤ m → field o k n (cut at m s) ≡ field o (at + k) n s
unfolding field
field_cut o s at m k n h = ap (number_in o) (cut_cut s at m k n h)

pub byte_drop : (o : ℕ) (s : List ℕ) (at k : ℕ) → at + k < length s → get_or s (at + k) 0 ≡ field o k 1 (drop at s)
byte_drop o s at k h = field_one o s (at + k) h ∙ sym (field_drop o s at k 1)

-- a field near the front of a cut is one of all that follows
pub field_front : (o : ℕ) (s : List ℕ) (at m k n : ℕ) → k + n ≤ m → field o k n (cut at m s) ≡ field o k n (drop at s)
unfolding field cut
field_front o s at m k n h = field_cut o s at m k n h ∙ sym (field_drop o s at k n)
