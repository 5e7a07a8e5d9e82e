-- The digits of a number in the text: as the library writes them, and as the last ones of a number. Assumes nothing.
use Rattle.std.specs.Prelude.{◌≡◌, List, [], ◌∷◌, ◌++◌, ℕ, zero, suc, ◌+◌, ◌-◌, ◌*◌, ◌/◌, ◌%◌, ◌^◌, ◌≤◌, ◌<◌, ltb}
use Rattle.std.proofs.Common.{subst, ap, ◌∙◌, sym, arith, Fits, lt-ltb, le-ltb}
use Rattle.std.proofs.lemmas.Fmt.{decimal_by_steps}
use Rattle.std.specs.Fmt.{decimal as written}
use Rattle.std.proofs.Math.Nat.{pow-succ', one-le-pow, pow-le-pow_right}
use Rattle.std.proofs.Math.Decide.{dec_le}
use Rattle.std.specs.Int.{w64}
use Rattle.listing.specs.Number.{last_digits, IsDigitCount, hex_digit_ascii}
use Rattle.listing.specs.Text.{digits_in, decimal}

-- more turns than a number has digits change nothing
turns_enough : (k j n : ℕ) → n < k → n < j → digits_in k (ltb n 10) n ≡ digits_in j (ltb n 10) n
unfolding digits_in
turns_enough zero j n f g = absurd (let z : ⊥ = omega arith in z)
turns_enough (suc k) zero n f g = absurd (let z : ⊥ = omega arith in z)
turns_enough (suc k) (suc j) n f g =
    elim (dec_le 10 n) [
      | yes l ↦
          let r = turns_enough k j (n / 10) (omega arith) (omega arith) in
          simp (le-ltb n 10 l) (ap (λ (d : List ℕ). d ++ ((48 + n % 10) ∷ [])) r)
      | no q ↦ let l : n < 10 = omega arith in simp (lt-ltb n 10 l)
    ]

decimal_low : (n : ℕ) → n < 10 → decimal n ≡ (48 + n) ∷ []
unfolding decimal digits_in
decimal_low n h = simp (lt-ltb n 10 h)

decimal_step : (n : ℕ) → 10 ≤ n → decimal n ≡ decimal (n / 10) ++ ((48 + n % 10) ∷ [])
unfolding decimal digits_in
decimal_step n h =
    simp (le-ltb n 10 h) (ap (λ (d : List ℕ). d ++ ((48 + n % 10) ∷ [])) (turns_enough n (suc (n / 10)) (n / 10) (omega arith) (omega arith)))

-- WHAT THE LIBRARY WRITES of a number is its decimal.
pub written_is : (n : ℕ) → n < 2 ^ 64 → written n ≡ decimal n
written_is n h =
    decimal_by_steps (λ m ds. ds ≡ decimal m) (λ m l. sym (decimal_low m l)) (λ m ds l e. ap (λ (d : List ℕ). d ++ ((48 + m % 10) ∷ [])) e ∙ sym (decimal_step m l)) n h

-- a power more is ten times as much
ten : (k : ℕ) → 10 ^ suc k ≡ 10 * 10 ^ k
ten k = pow-succ' 10 k

glyph_low : (d : ℕ) → d < 10 → hex_digit_ascii d ≡ 48 + d
glyph_low d h = simp (lt-ltb d 10 h)

digits_in_lem : (k n m : ℕ) → n < m → n < 10 ^ suc k → (0 < k → 10 ^ k ≤ n) → last_digits 10 (suc k) n ≡ digits_in m (ltb n 10) n
unfolding digits_in
digits_in_lem k n zero f h g = let z : ⊥ = omega arith in absurd z
digits_in_lem zero n (suc m) f h g =
    let l : n < 10 = h in
    let e : n % 10 ≡ n = omega arith in
    simp (lt-ltb n 10 l, e, lt-ltb n 10 l)
digits_in_lem (suc k) n (suc m) f h g =
    let p : 10 ^ suc k ≡ 10 * 10 ^ k = ten k in
    let q : 10 ^ suc (suc k) ≡ 10 * 10 ^ suc k = ten (suc k) in
    let w : 10 ^ suc k ≤ n = g (omega arith) in
    let o : 1 ≤ 10 ^ k = one-le-pow k 10 (omega arith) in
    let l : 10 ≤ n = omega arith in
    let r : last_digits 10 (suc k) (n / 10) ≡ digits_in m (ltb (n / 10) 10) (n / 10) = digits_in_lem k (n / 10) m (omega arith) (omega arith) (λ z. omega arith) in
    let t : hex_digit_ascii (n % 10) ≡ 48 + n % 10 = glyph_low (n % 10) (omega arith) in
    simp (le-ltb n 10 l) (λ i. r i ++ (t i ∷ []))

-- The fewest digits that hold a number are its decimal.
pub decimal_is : (n k : ℕ) → IsDigitCount 10 1 n k → last_digits 10 k n ≡ decimal n
unfolding decimal
decimal_is n zero f = let z : ⊥ = omega (arith, f.0) in absurd z
decimal_is n (suc k) f = digits_in_lem k n (suc n) (omega arith) f.1 (λ h. let e : suc k - 1 ≡ k = omega arith in subst (λ (j : ℕ). 10 ^ j ≤ n) e (f.2 (omega arith)))

-- A number of 64 bits has at most 20 digits.
pub few_digits : (n k : ℕ) → Fits w64 n → IsDigitCount 10 1 n k → k ≤ 20
few_digits n k h f =
    elim (dec_le k 20) [
      | yes p ↦ p
      | no q ↦
          let m : 20 ≤ k - 1 = omega arith in
          let w : 10 ^ 20 ≤ 10 ^ (k - 1) = pow-le-pow_right {n = 10} (omega arith) {i = 20} m in
          let l : 10 ^ (k - 1) ≤ n = f.2 (omega arith) in
          absurd (let z : ⊥ = omega (arith, h) in z)
    ]
