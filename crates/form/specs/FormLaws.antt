-- What is written is read back, and nothing else is read. Assumes nothing.
use Rattle.std.specs.Prelude.{◌≡◌, true}
use mathlib.Core.List.{List, ◌++◌}
use Rattle.std.proofs.Math.Option.{some}
use Prim.Native.Nat.{ℕ}
use Rattle.octets.specs.Bytes.{Octets}
use Rattle.form.specs.Form.{Form}

-- EXACT: what fits is read back from its bytes, whatever stands behind them; and what is read fits and stands there as it is written.
pub record Exact {A : Type 0} (f : Form A) : Type 0 where
  pub back : (a : A) (rest : List ℕ) → f.fits a ≡ true → some (a, rest) ≡ f.read (f.write a ++ rest)
  pub only : (s : List ℕ) → Octets s → (a : A) (rest : List ℕ) → some (a, rest) ≡ f.read s → (f.fits a ≡ true) × (f.write a ++ rest ≡ s)
