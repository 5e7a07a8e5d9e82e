-- Laws of the lowest set bit and of powers of two, and the code's way to both. Assumes nothing.
use Rattle.std.specs.Prelude.{ℕ, zero, suc, ◌+◌, ◌-◌, ◌*◌, ◌/◌, ◌%◌, ◌^◌, ◌<◌, ◌≤◌, ◌≡◌, refl, Bool, true, false, eqb}
use Rattle.std.proofs.Common.{sym, ap, ◌∙◌, subst, arith, mul-pos, mul_assoc, pow-suc, pow_pos, pow_mono, eqb-true}
use Rattle.std.proofs.Math.Decide.{dec_le}
use Rattle.std.proofs.Math.Arith.{lt_of_le-ne}
use Rattle.std.specs.Int.Bits.{bit_and}
use Rattle.std.proofs.lemmas.Nat.{and_block}
use Rattle.std.proofs.lemmas.Bool.{eqb-false}
use Rattle.octets.specs.Logic.{choose, either, apart}
use Rattle.id_allocator.specs.Ids.{power_below, lowest_bit, Lowest}

-- What holds of twice a number and of one more holds of all.
by_halves : (P : ℕ → Type 0) → ((t : ℕ) → P (t * 2 + 0)) → ((t : ℕ) → P (t * 2 + 1)) → (m : ℕ) → P m
by_halves P even odd m = go (m % 2) refl
  where
    go : (b : ℕ) → m % 2 ≡ b → P m
    go zero q = let e : m / 2 * 2 + 0 ≡ m = omega arith in subst P e (even (m / 2))
    go (suc zero) q = let e : m / 2 * 2 + 1 ≡ m = omega arith in subst P e (odd (m / 2))
    go (suc (suc b)) q = absurd (omega arith)

-- One zero more at the end.
shift : (a k : ℕ) → a * 2 ^ suc k ≡ a * 2 ^ k * 2 + 0
shift a k =
    let e : a * 2 ^ suc k ≡ a * 2 ^ k * 2 = ap (λ (x : ℕ). a * x) (pow-suc 2 k) ∙ sym (mul_assoc a (2 ^ k) 2) in
    omega arith

-- ---- the lowest set bit

-- The lowest set bit of an even number is twice that of its half,
lowest_even : (n t : ℕ) → lowest_bit (suc n) (t * 2 + 0) ≡ 2 * lowest_bit n t
unfolding lowest_bit choose
lowest_even n t =
    let e : (t * 2 + 0) % 2 ≡ 0 = omega arith in let h : (t * 2 + 0) / 2 ≡ t = omega arith in
    simp (e, h)

-- that of an odd number is 1.
lowest_odd : (n t : ℕ) → lowest_bit (suc n) (t * 2 + 1) ≡ 1
unfolding lowest_bit choose
lowest_odd n t = let e : (t * 2 + 1) % 2 ≡ 1 = omega arith in simp e

-- Of digits, a 1 and place zeros the lowest set bit is 2^place,
pub lowest_of : (n above place : ℕ) → (2 * above + 1) * 2 ^ place < 2 ^ n → lowest_bit n ((2 * above + 1) * 2 ^ place) ≡ 2 ^ place
lowest_of zero above place h =
    let p : 0 < (2 * above + 1) * 2 ^ place = mul-pos (omega arith) (pow_pos place) in absurd (omega arith)
lowest_of (suc n) above zero h =
    let e : (2 * above + 1) * 2 ^ 0 ≡ above * 2 + 1 = omega arith in ap (lowest_bit (suc n)) e ∙ lowest_odd n above
lowest_of (suc n) above (suc place) h =
    let e = shift (2 * above + 1) place in let d = pow-suc 2 n in let ih = lowest_of n above place (omega arith) in
    ap (lowest_bit (suc n)) e ∙ lowest_even n ((2 * above + 1) * 2 ^ place) ∙ omega (arith, pow-suc 2 place)

-- and every number but 0 is made so.
pub lowest_is : (n m : ℕ) → 1 ≤ m → m < 2 ^ n → Lowest m (lowest_bit n m)
lowest_is zero m p q = absurd (omega arith)
lowest_is (suc n) m p q =
    by_halves (λ (m : ℕ). 1 ≤ m → m < 2 ^ suc n → Lowest m (lowest_bit (suc n) m))
    (λ t p q. even t (lowest_is n t (omega arith) (omega (arith, pow-suc 2 n)))) (λ t p q. odd t) m p q
  where
    even : (t : ℕ) → Lowest t (lowest_bit n t) → Lowest (t * 2 + 0) (lowest_bit (suc n) (t * 2 + 0))
    even t l =
        let e : 2 * 2 ^ l.place ≡ 2 ^ suc l.place = omega (arith, pow-suc 2 l.place) in
        record {
          place = suc l.place;
          above = l.above;
          bit = lowest_even n t ∙ ap (λ (x : ℕ). 2 * x) l.bit ∙ e;
          digits = omega (arith, l.digits, shift (2 * l.above + 1) l.place);
        }

    odd : (t : ℕ) → Lowest (t * 2 + 1) (lowest_bit (suc n) (t * 2 + 1))
    odd t = record { place = 0; above = t; bit = lowest_odd n t; digits = omega arith }

-- A power of two is its own lowest set bit.
pub lowest_power : (n place : ℕ) → 2 ^ place < 2 ^ n → lowest_bit n (2 ^ place) ≡ 2 ^ place
lowest_power n place h =
    let e : (2 * 0 + 1) * 2 ^ place ≡ 2 ^ place = omega arith in
    ap (lowest_bit n) (sym e) ∙ lowest_of n 0 place (omega arith)

-- ---- the test for a power of two

-- Of two powers the greater has the greater exponent.
exponent : (i j : ℕ) → 2 ^ i < 2 ^ j → i < j
exponent i j h = elim (dec_le j i) [ yes p ↦ absurd (omega (arith, pow_mono p)) | no q ↦ omega arith ]

-- The test holds of each power that it lists,
listed : (k n place : ℕ) → n ≡ 2 ^ place → place < k → power_below k n ≡ true
unfolding power_below either
listed zero n place e l = absurd (omega arith)
listed (suc k) n place e l = go (eqb n (2 ^ k)) refl (listed k n place e)
  where
    go : (b : Bool) → eqb n (2 ^ k) ≡ b → (place < k → power_below k n ≡ true) → either b (power_below k n) ≡ true
    go true t ih = refl
    go false t ih = ih (lt_of_le-ne (omega arith) (λ q. eqb-false n (2 ^ k) t (e ∙ ap (λ (x : ℕ). 2 ^ x) q)))

-- which are the powers of two below 2^k,
pub power_yes : (k n place : ℕ) → n ≡ 2 ^ place → n < 2 ^ k → power_below k n ≡ true
power_yes k n place e h = listed k n place e (exponent place k (omega arith))

-- and of nothing else.
pub power_of : (k n : ℕ) → power_below k n ≡ true → (place : ℕ) × (n ≡ 2 ^ place) × (n < 2 ^ k)
unfolding power_below either
power_of zero n h = apart h refl
power_of (suc k) n h = go (eqb n (2 ^ k)) refl h (power_of k n)
  where
    go : (b : Bool) → eqb n (2 ^ k) ≡ b → either b (power_below k n) ≡ true
        → (power_below k n ≡ true → (place : ℕ) × (n ≡ 2 ^ place) × (n < 2 ^ k)) → (place : ℕ) × (n ≡ 2 ^ place) × (n < 2 ^ suc k)
    go true e f ih = let q = eqb-true n (2 ^ k) e in (k, q, omega (arith, pow-suc 2 k, pow_pos k))
    go false e f ih = ((ih f).0, (ih f).1, omega (arith, (ih f).2, pow-suc 2 k))

-- ---- the code's way: m & (1 + !m)

-- A number and its complement share no bit.
and_complement : (n t : ℕ) → t < 2 ^ n → bit_and t (2 ^ n - 1 - t) ≡ 0
and_complement zero t h = let e : t ≡ 0 = omega arith in rw e
and_complement (suc n) t h =
    by_halves (λ (t : ℕ). t < 2 ^ suc n → bit_and t (2 ^ suc n - 1 - t) ≡ 0)
    (λ t h. let e : 2 ^ suc n - 1 - (t * 2 + 0) ≡ (2 ^ n - 1 - t) * 2 + 1 = omega (arith, pow-suc 2 n) in
    ap (bit_and (t * 2 + 0)) e ∙ and_block 1 t (2 ^ n - 1 - t) 0 1 (omega arith) (omega arith) ∙ double (and_complement n t (omega (arith, pow-suc 2 n))))
    (λ t h. let e : 2 ^ suc n - 1 - (t * 2 + 1) ≡ (2 ^ n - 1 - t) * 2 + 0 = omega (arith, pow-suc 2 n) in
    ap (bit_and (t * 2 + 1)) e ∙ and_block 1 t (2 ^ n - 1 - t) 1 0 (omega arith) (omega arith) ∙ double (and_complement n t (omega (arith, pow-suc 2 n))))
    t h
  where
    double : {x : ℕ} → x ≡ 0 → x * 2 + 0 ≡ 0
    double e = omega arith

-- m & (1 + !m), over n bits, is the lowest set bit of m.
pub and_negative : (n m : ℕ) → 1 ≤ m → m < 2 ^ n → bit_and m (1 + (2 ^ n - 1 - m)) ≡ lowest_bit n m
and_negative zero m p q = absurd (omega arith)
and_negative (suc n) m p q =
    by_halves (λ (m : ℕ). 1 ≤ m → m < 2 ^ suc n → bit_and m (1 + (2 ^ suc n - 1 - m)) ≡ lowest_bit (suc n) m)
    (λ t p q. let e : 1 + (2 ^ suc n - 1 - (t * 2 + 0)) ≡ (1 + (2 ^ n - 1 - t)) * 2 + 0 = omega (arith, pow-suc 2 n) in
    ap (bit_and (t * 2 + 0)) e ∙ and_block 1 t (1 + (2 ^ n - 1 - t)) 0 0 (omega arith) (omega arith)
    ∙ even (and_negative n t (omega arith) (omega (arith, pow-suc 2 n))) ∙ sym (lowest_even n t))
    (λ t p q. let e : 1 + (2 ^ suc n - 1 - (t * 2 + 1)) ≡ (2 ^ n - 1 - t) * 2 + 1 = omega (arith, pow-suc 2 n) in
    ap (bit_and (t * 2 + 1)) e ∙ and_block 1 t (2 ^ n - 1 - t) 1 1 (omega arith) (omega arith)
    ∙ odd (and_complement n t (omega (arith, pow-suc 2 n))) ∙ sym (lowest_odd n t))
    m p q
  where
    even : {x y : ℕ} → x ≡ y → x * 2 + 0 ≡ 2 * y
    even e = omega arith

    odd : {x : ℕ} → x ≡ 0 → x * 2 + 1 ≡ 1
    odd e = omega arith
