-- The connectives that definitions above use. They stay shut until a proof opens them, so that a law about one finds its arguments.
-- Assumes nothing.
use Rattle.std.specs.Prelude.{◌≡◌, refl, Bool, true, false, ℕ}
use Rattle.std.proofs.Common.{sym, ap, arith}

-- the first where the test holds, otherwise the second
unfoldable pub choose : {A : Type 0} → Bool → A → A → A
choose true x y = x
choose false x y = y

-- both tests hold; either does
unfoldable pub both : Bool → Bool → Bool
both true b = b
both false b = false

unfoldable pub either : Bool → Bool → Bool
either true b = true
either false b = b

-- no test both holds and fails
pub apart : {A : Type 0} {b : Bool} → b ≡ true → b ≡ false → A
apart p q =
    absurd (let z : ◌≡◌ {A = Bool} true false = cc in let y : ◌≡◌ {A = ℕ} 0 1 = cc in omega arith)

pub both_left : (a b : Bool) → both a b ≡ true → a ≡ true
unfolding both
both_left true b h = refl
both_left false b h = h

pub both_right : (a b : Bool) → both a b ≡ true → b ≡ true
unfolding both
both_right true b h = h
both_right false b h = apart h refl

pub both_yes : (a b : Bool) → a ≡ true → b ≡ true → both a b ≡ true
unfolding both
both_yes true b p q = q
both_yes false b p q = p

-- Where the first holds, the second decides.
pub both_on : {a b : Bool} → a ≡ true → b ≡ both a b
unfolding both
both_on {b = b} e = ap (λ (k : Bool). both k b) (sym e)

pub either_left : (a b : Bool) → either a b ≡ false → a ≡ false
unfolding either
either_left true b h = h
either_left false b h = refl

pub either_right : (a b : Bool) → either a b ≡ false → b ≡ false
unfolding either
either_right true b h = apart refl h
either_right false b h = h
