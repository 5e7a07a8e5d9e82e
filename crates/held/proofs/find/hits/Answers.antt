use Rattle.std.specs.Prelude.{◌≡◌, Option, Some, None, ℕ, eqb, true}
use Rattle.std.specs.Option.{is_none, unwrap_or}
use Rattle.std.proofs.Common.{refl, sym, ◌∙◌}
use Rattle.held.specs.Find.{suits, suits_not, suits_any, suits_one}
use Rattle.held.proofs.find.hits.Goals as goal

one : (kind k n m w : ℕ) (o : Option ℕ) → o ≡ Some w → k ≡ kind → m ≡ n → eqb m w ≡ suits kind (is_none o) (unwrap_or o 0) k n
one kind k n m w o e h q = rw e (suits_one _ _ _ _ _ _ h refl q)

any : (kind k n : ℕ) (o : Option ℕ) → o ≡ None → k ≡ kind → true ≡ suits kind (is_none o) (unwrap_or o 0) k n
any kind k n o e h = rw e (suits_any _ _ _ _ _ h refl)

pub returns-then-kind_at-kind : goal.returns-then-kind_at-kind
returns-then-kind_at-kind c = suits_not _ _ _ _ _ (λ e. c.if-kind_at-kind.true (c.kind_at.ensures ∙ e))

pub returns-in-Some : goal.returns-in-Some
returns-in-Some c = one _ _ _ _ _ _ c.in-Some.is (sym c.kind_at.ensures ∙ c.if-kind_at-kind.false) c.number_at.ensures

pub returns-in-None : goal.returns-in-None
returns-in-None c = any _ _ _ _ c.in-None.is (sym c.kind_at.ensures ∙ c.if-kind_at-kind.false)
