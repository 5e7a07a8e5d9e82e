-- How the number of a packet comes out, and its bounds. Assumes nothing.
use Rattle.std.proofs.Math.Path.{◌≡◌, ap}
use Rattle.std.specs.Prelude.{refl, Bool, List, ℕ, ◌+◌, ◌%◌, ◌≤◌, ◌<◌, ltb}
use Rattle.std.proofs.Common.{sym, ◌∙◌, ltb-false, le-ltb}
use Rattle.std.proofs.Math.Bool.{true, false}
use native.Mathlib.Omega.{arith}
use Rattle.octets.specs.Logic.{choose}
use Rattle.refusal.specs.Answer.{Answer, gives, refuses, refuse, gives_past, gives_rest, gives_same}
use Rattle.sequence.specs.Numbering.{last_number, wire_values, FullNumber, full, in_range}
use Rattle.sequence.proofs.NumberingLaws.{number_is, full_near}
use Rattle.packet.specs.Packet.{code_of, unnumbered, wire_of, number_after}

is_in_range : (n m : ℕ) → gives n ≡ in_range m → (n ≡ m) × (m ≤ last_number)
unfolding in_range
is_in_range n m e = (gives_same (gives_rest _ _ _ e), ltb-false last_number m (gives_past _ _ _ e))

full_from : (read wire : ℕ) → read ≤ full read wire
unfolding full
full_from read wire = omega arith

module _ (o read : ℕ) (p : List ℕ) where
  -- A packet that carries no number has the last read's,
  pub number_last : unnumbered (code_of p) ≡ true → number_after o read p ≡ gives read
  unfolding number_after choose
  number_last e = simp e

  -- any other its full number;
  pub number_full : unnumbered (code_of p) ≡ false → number_after o read p ≡ in_range (full read (wire_of o p))
  unfolding number_after choose
  number_full e = simp e

  -- which an answer for its wire number is;
  pub number_found : (wire : ℕ) (a : Answer ℕ) → unnumbered (code_of p) ≡ false → wire < wire_values → wire ≡ wire_of o p → FullNumber read wire a → a ≡ number_after o read p
  number_found wire a e h w f = number_is read wire a h f ∙ ap (λ (x : ℕ). in_range (full read x)) w ∙ sym (number_full e)

  -- and that is its true number, where this is in range, at most 65,535 past the last read, and has the wire's bits.
  pub number_near : (t : ℕ) → unnumbered (code_of p) ≡ false → wire_of o p ≡ t % wire_values → read ≤ t → t ≤ read + 65535 → t ≤ last_number → number_after o read p ≡ gives t
  unfolding in_range refuse
  number_near t e w from near most =
      number_full e ∙ ap (λ (x : ℕ). in_range (full read x)) w ∙ ap in_range (full_near read t from near) ∙ simp (le-ltb last_number t most)

  -- It is at or above the last read, and not past the last one;
  pub number_bounds : (n : ℕ) → read ≤ last_number → gives n ≡ number_after o read p → (read ≤ n) × (n ≤ last_number)
  number_bounds n h e = go (unnumbered (code_of p)) refl
    where
      go : (b : Bool) → unnumbered (code_of p) ≡ b → (read ≤ n) × (n ≤ last_number)
      go true f = let x : n ≡ read = gives_same (e ∙ number_last f) in (omega arith, omega arith)
      go false f = let x = is_in_range n _ (e ∙ number_full f) in (omega (arith, x.0, full_from read (wire_of o p)), omega (arith, x.0, x.1))

  -- the one refusal is 3.
  pub number_refused : (n : ℕ) → number_after o read p ≡ refuses n → n ≡ 3
  unfolding number_after in_range refuse choose
  number_refused n = go (unnumbered (code_of p)) (ltb last_number (full read (wire_of o p)))
    where
      go : (a b : Bool) → choose a (gives read) (refuse b 3 (gives (full read (wire_of o p)))) ≡ refuses n → n ≡ 3
      go true b e = let z : ◌≡◌ {A = ℕ} 0 1 = cc in omega arith
      go false true e = cc
      go false false e = let z : ◌≡◌ {A = ℕ} 0 1 = cc in omega arith
