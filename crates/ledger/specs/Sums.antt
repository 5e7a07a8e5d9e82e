-- Sums over lists of held packets, whatever is added up: said once of their costs and of their descriptors. Assumes nothing.
use Rattle.std.specs.Prelude.{Bool, ◌≡◌, refl, ℕ, ◌+◌, eqb}
use Rattle.std.proofs.Math.Bool.{true, false}
use mathlib.Core.List.{List, [], ◌∷◌, ◌++◌}
use native.Mathlib.Omega.{arith}
use Rattle.octets.specs.Logic.{choose}
use Rattle.model.specs.Client.{Held}
use Rattle.model.specs.Model.{of_number, not_of, Found, nothing, at, behind, find}

-- the one that is found and those that stay add up to m
abbrev pub Adds : (Held → ℕ) → (List Held → ℕ) → ℕ → Found → Type 0
Adds one all m nothing = Unit {0}
Adds one all m (at h l) = one h + all l ≡ m

module _ (one : Held → ℕ) (all : List Held → ℕ) (none : all [] ≡ 0) (more : (h : Held) (l : List Held) → all (h ∷ l) ≡ one h + all l) where
  pub sum_append : (a b : List Held) → all (a ++ b) ≡ all a + all b
  sum_append [] b = omega arith
  sum_append (h ∷ a) b = omega (arith, more h (a ++ b), more h a, sum_append a b)

  -- those of a number and the others
  pub sum_number : (n : ℕ) (l : List Held) → all (of_number n l) + all (not_of n l) ≡ all l
  unfolding of_number not_of choose
  sum_number n [] = omega arith
  sum_number n (h ∷ l) = go (eqb h.number n) (sum_number n l)
    where
      go : (b : Bool) → all (of_number n l) + all (not_of n l) ≡ all l → all (choose b (h ∷ of_number n l) (of_number n l)) + all (choose b (not_of n l) (h ∷ not_of n l)) ≡ all (h ∷ l)
      go true k = omega (arith, more h l, more h (of_number n l))
      go false k = omega (arith, more h l, more h (not_of n l))

  -- the one that is found and the others
  pub sum_find : (n : ℕ) (l : List Held) → Adds one all (all l) (find n l)
  unfolding find choose
  sum_find n [] = tt
  sum_find n (h ∷ l) = rw (more h l) (go (eqb h.number n) (sum_find n l))
    where
      put_behind : (f : Found) → Adds one all (all l) f → Adds one all (one h + all l) (behind h f)
      put_behind nothing k = tt
      put_behind (at x y) k = omega (arith, more h y)

      go : (b : Bool) → Adds one all (all l) (find n l) → Adds one all (one h + all l) (choose b (at h l) (behind h (find n l)))
      go true k = refl
      go false k = put_behind (find n l) k
