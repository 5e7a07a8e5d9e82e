-- A form at an index of bytes, tested where it stands: what code promises of such a test, and the laws for its early returns. Assumes nothing.
use Rattle.std.specs.Prelude.{◌≡◌, Bool, true, eqb, Option, None, Some}
use mathlib.Core.List.{List, []}
use Rattle.std.proofs.Math.Option.{some}
use Prim.Native.Nat.{ℕ, ◌+◌, ◌-◌, ◌≤◌}
use Rattle.std.proofs.Math.ListN.{length, drop}
use Rattle.octets.specs.Logic.{both}
use Rattle.octets.specs.Bytes.{little_order}
use Rattle.octets.specs.Put.{cut}
use Rattle.octets.specs.Field.{field}
use Rattle.form.specs.Form.{Form, counted, writes}

-- THE CODE'S ANSWER for a form at an index, with a test of what stands there: the index behind it, or 0 where nothing that passes stands there.
pub record At {A : Type 0} (f : Form A) (ok : A → Bool) (s : List ℕ) (at r : ℕ) : Type 0 where
  pub there : (r ≡ 0 → ⊥) → (a : A) × (some (a, drop r s) ≡ f.read (drop at s)) × (ok a ≡ true) × (r ≤ length s)
  pub missing : r ≡ 0 → (a : A) (y : List ℕ) → some (a, y) ≡ f.read (drop at s) → ok a ≡ true → ⊥

-- The same of an optional index: none where nothing that passes stands there.
abbrev pub Behind : (ℕ → Type 0) → Option ℕ → Type 0
Behind P None = P 0
Behind P (Some r) = P r × (r ≡ 0 → ⊥)

abbrev pub long : ℕ → List ℕ → Bool
long k l = eqb (length l) k

abbrev pub any : List ℕ → Bool
any l = true

abbrev pub fit2 : {A B : Type 0} → (A → Bool) → (B → Bool) → A × B → Bool
fit2 p q x = both (p x.0) (q x.1)

-- ---- a section that stands there, with its place and its bytes

pub record Here {A : Type 0} (f : Form A) (s : List ℕ) (at end : ℕ) : Type 0 where
  pub items : List A
  pub reads : some (items, drop end s) ≡ (counted 4 f).read (drop at s)
  pub fit : (counted 4 f).fits items ≡ true
  pub count : field little_order at 4 s ≡ length items
  pub bytes : cut (at + 4) (end - (at + 4)) s ≡ writes f items
  pub order : at + 4 ≤ end
  pub within : end ≤ length s

-- ---- that nothing stands from an index to the end

abbrev pub Not : {A : Type 0} → Form A → (A → Bool) → List ℕ → ℕ → Type 0
Not {A} f ok s at = (a : A) → some (a, []) ≡ f.read (drop at s) → ok a ≡ true → ⊥
