-- HOW THINGS ARE WRITTEN: numbers, bytes, pairs, and a count with that many items. Assumes nothing.
use Rattle.std.specs.Prelude.{Bool, true, false, List, [], ◌∷◌, ◌++◌, ℕ, zero, suc, ◌*◌, ◌^◌, leb, ltb, length, take, drop}
use Rattle.std.proofs.Math.Option.{Option, none, some}
use Rattle.octets.specs.Logic.{both}
use Rattle.octets.specs.Bytes.{little_order, word, number_in}

-- A FORM: what can be written, how it is written, and what is read from the front of bytes, with the bytes behind it, or that nothing is.
pub record Form (A : Type 0) : Type 0 where
  pub fits : A → Bool
  pub write : A → List ℕ
  pub read : List ℕ → Option (A × List ℕ)

-- something is read only where a test holds, and what is read is passed on
unfoldable pub when : {A : Type 0} → Bool → Option A → Option A
when true a = a
when false a = none

unfoldable pub and_then : {A B : Type 0} → Option A → (A → Option B) → Option B
and_then none f = none
and_then (some x) f = f x

-- a number in n bytes, least significant first
abbrev pub number : ℕ → Form ℕ
number n = record {
  fits = λ x. ltb x (2 ^ (8 * n));
  write = word n;
  read = λ s. when (leb n (length s)) (some (number_in little_order (take n s), drop n s));
}

-- a byte as it is
unfoldable pub read_byte : List ℕ → Option (ℕ × List ℕ)
read_byte [] = none
read_byte (b ∷ s) = some (b, s)

abbrev pub byte : Form ℕ
byte = record { fits = λ b. true; write = λ b. b ∷ []; read = read_byte }

-- one thing, then another
abbrev pub pair : {A B : Type 0} → Form A → Form B → Form (A × B)
pair f g = record {
  fits = λ x. both (f.fits x.0) (g.fits x.1);
  write = λ x. f.write x.0 ++ g.write x.1;
  read = λ s. and_then (f.read s) (λ p. and_then (g.read p.1) (λ q. some ((p.0, q.0), q.1)));
}

-- items side by side
unfoldable pub each : {A : Type 0} → (A → Bool) → List A → Bool
each t [] = true
each t (x ∷ l) = both (t x) (each t l)

unfoldable pub writes : {A : Type 0} → Form A → List A → List ℕ
writes f [] = []
writes f (x ∷ l) = f.write x ++ writes f l

unfoldable pub read_some : {A : Type 0} → Form A → ℕ → List ℕ → Option (List A × List ℕ)
read_some f zero s = some ([], s)
read_some f (suc n) s = and_then (f.read s) (λ p. and_then (read_some f n p.1) (λ q. some (p.0 ∷ q.0, q.1)))

-- A SECTION: a count of w bytes, then that many items.
abbrev pub counted : {A : Type 0} → ℕ → Form A → Form (List A)
counted w f = record {
  fits = λ l. both ((number w).fits (length l)) (each f.fits l);
  write = λ l. (number w).write (length l) ++ writes f l;
  read = λ s. and_then ((number w).read s) (λ p. read_some f p.0 p.1);
}
