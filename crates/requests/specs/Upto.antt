-- Laws of `upto`, the values of a function at numbers in a row. Assumes nothing.
use Rattle.std.specs.Prelude.{◌≡◌, length, drop, get_or}
use Rattle.std.proofs.Math.Path.{refl, ap}
use Rattle.std.proofs.Common.{sym, ◌∙◌, add-zero, zero-add, ext_get_or}
use Prim.Native.Nat.{ℕ, zero, suc, ◌+◌, ◌-◌, ◌<◌}
use Rattle.std.proofs.Math.Nat.{suc-add}
use native.Mathlib.Omega.{arith}
use mathlib.Core.List.{List, [], ◌∷◌, ◌++◌, map}
use Rattle.requests.specs.Room.{upto}

module _ {A : Type 0} where
  pub length_upto : (f : ℕ → A) (a n : ℕ) → length (upto f a n) ≡ n
  unfolding upto
  length_upto f a zero = refl
  length_upto f a (suc n) = ap suc (length_upto f (suc a) n)

  pub get_d_upto : (f : ℕ → A) (a n i : ℕ) (d : A) → i < n → get_or (upto f a n) i d ≡ f (a + i)
  unfolding upto
  get_d_upto f a zero i d h = absurd (omega arith)
  get_d_upto f a (suc n) zero d h = ap f (sym (add-zero a))
  get_d_upto f a (suc n) (suc i) d h =
      let e : suc a + i ≡ a + suc i = omega arith in
      get_d_upto f (suc a) n i d (omega arith) ∙ ap f e

  -- numbers in a row are those up to one of them and those from it on
  pub upto_add : (f : ℕ → A) (a m n : ℕ) → upto f a (m + n) ≡ upto f a m ++ upto f (a + m) n
  unfolding upto
  upto_add f a zero n = λ j. upto f (sym (add-zero a) j) (zero-add n j)
  upto_add f a (suc m) n =
      let e : suc a + m ≡ a + suc m = omega arith in
      rw suc-add (ap (λ (l : List A). f a ∷ l) (upto_add f (suc a) m n ∙ ap (λ (x : ℕ). upto f (suc a) m ++ upto f x n) e))

  pub upto_behind : (f : ℕ → A) (a n : ℕ) → upto f a (n + 1) ≡ upto f a n ++ (f (a + n) ∷ [])
  unfolding upto
  upto_behind f a n = upto_add f a n 1

  -- the first k go
  pub upto_drop : (f : ℕ → A) (a n k : ℕ) → drop k (upto f a n) ≡ upto f (a + k) (n - k)
  unfolding upto
  upto_drop f a n zero =
      let e : n ≡ n - 0 = omega arith in
      λ j. upto f (sym (add-zero a) j) (e j)
  upto_drop f a zero (suc k) =
      let e : 0 ≡ 0 - suc k = omega arith in
      ap (upto f (a + suc k)) e
  upto_drop f a (suc n) (suc k) =
      let e : suc a + k ≡ a + suc k = omega arith in
      let d : n - k ≡ suc n - suc k = omega arith in
      upto_drop f (suc a) n k ∙ (λ j. upto f (e j) (d j))

  -- functions that agree on the numbers
  pub upto_same : (f g : ℕ → A) (a n : ℕ) → ((i : ℕ) → i < n → f (a + i) ≡ g (a + i)) → upto f a n ≡ upto g a n
  unfolding upto
  upto_same f g a zero h = refl
  upto_same f g a (suc n) h =
      let z : f a ≡ g a = ap f (sym (add-zero a)) ∙ h 0 (omega arith) ∙ ap g (add-zero a) in
      λ j. z j ∷ upto_same f g (suc a) n (λ i p. let e : suc a + i ≡ a + suc i = omega arith in ap f e ∙ h (suc i) (omega arith) ∙ ap g (sym e)) j

  -- a list that has the function's values is theirs
  pub upto_is : (f : ℕ → A) (a n : ℕ) (l : List A) (d : A) → length l ≡ n → ((i : ℕ) → i < n → f (a + i) ≡ get_or l i d) → upto f a n ≡ l
  upto_is f a n l d e h =
      ext_get_or d (upto f a n) l (length_upto f a n ∙ sym e)
      (λ i p. let q : i < n = omega (arith, length_upto f a n) in get_d_upto f a n i d q ∙ h i q)

-- a function of the values
pub upto_map : {A B : Type 0} (g : A → B) (f : ℕ → A) (a n : ℕ) → map g (upto f a n) ≡ upto (λ x. g (f x)) a n
unfolding upto
upto_map g f a zero = refl
upto_map g f a (suc n) = ap (λ l. g (f a) ∷ l) (upto_map g f (suc a) n)
