-- Laws of masks: which values have only bits of a contiguous mask, and how they join a base. Assumes nothing.
use Rattle.std.specs.Prelude.{ℕ, zero, suc, ◌+◌, ◌-◌, ◌*◌, ◌/◌, ◌%◌, ◌^◌, ◌<◌, ◌≤◌, ◌≡◌}
use Rattle.std.proofs.Common.{sym, ap, ap₂, ◌∙◌, arith, mod-lt, mod-eq_of_lt, mul-pos, add-mul, pow-suc, pow_pos}
use Rattle.std.proofs.Math.Nat.{eq_of_mul-eq-mul_right}
use Rattle.std.proofs.Math.Pow.{pow-lt, ones_lt, split}
use Rattle.std.proofs.lemmas.Nat.{shl-shr, and_block, and_mask, and_le_r, or_disjoint}
use Rattle.std.specs.Int.Bits.{bit_and, bit_or, and_zero_r, and_shifted, or_add_and}
use Rattle.refusal.specs.Answer.{gives}
use Rattle.id_allocator.specs.declared.IdAllocator.{IdAllocator}
use Rattle.id_allocator.specs.Ids.{lowest_bit, Lowest}
use Rattle.id_allocator.specs.Runs.{contiguous, Run, EveryId}
use Rattle.id_allocator.specs.LowestLaws.{lowest_of}
use Rattle.id_allocator.specs.RunLaws.{run_rising}

-- A number shifted by k meets only the bits from bit k on,
and_shift : (b i k : ℕ) → bit_and b (i * 2 ^ k) ≡ bit_and (b / 2 ^ k) i * 2 ^ k
and_shift b i k =
    let n : i * 2 ^ k ≡ i * 2 ^ k + 0 = omega arith in
    ap₂ bit_and (sym (split b k)) n ∙ and_block k (b / 2 ^ k) i (b % 2 ^ k) 0 (mod-lt b (pow_pos k)) (pow_pos k)
    ∙ ap (λ (x : ℕ). bit_and (b / 2 ^ k) i * 2 ^ k + x) (and_zero_r (b % 2 ^ k)) ∙ omega arith

-- so base | mask is some steps of the mask's lowest set bit from the base.
pub or_steps : (base mask s : ℕ) → Lowest mask s → (c : ℕ) × (bit_or base mask ≡ base + c * s)
or_steps base mask s l =
    let t : ℕ = 2 * l.above + 1 in let n : ℕ = bit_and (base / 2 ^ l.place) t in
    let e : bit_and base mask ≡ n * 2 ^ l.place = ap (bit_and base) l.digits ∙ and_shift base t l.place in
    let f : (t - n) * 2 ^ l.place + n * 2 ^ l.place ≡ t * 2 ^ l.place = sym (add-mul (t - n) n (2 ^ l.place)) ∙ ap (λ (x : ℕ). x * 2 ^ l.place) (omega (arith, and_le_r (base / 2 ^ l.place) t)) in
    let g : (t - n) * s ≡ (t - n) * 2 ^ l.place = ap (λ (x : ℕ). (t - n) * x) l.bit in
    (t - n, omega (arith, or_add_and base mask, l.digits))

-- A contiguous mask is not 0,
pub contiguous_some : (j k : ℕ) → 1 ≤ j → 1 ≤ contiguous j k
contiguous_some j k p = mul-pos (omega (arith, pow-lt p)) (pow_pos k)

-- its lowest set bit is 2^k,
pub contiguous_lowest : (n j k : ℕ) → 1 ≤ j → contiguous j k < 2 ^ n → lowest_bit n (contiguous j k) ≡ 2 ^ k
contiguous_lowest n zero k p h = absurd (omega arith)
contiguous_lowest n (suc j) k p h =
    let e : 2 ^ suc j - 1 ≡ 2 * (2 ^ j - 1) + 1 = omega (arith, pow-suc 2 j, pow_pos j) in
    let f : contiguous (suc j) k ≡ (2 * (2 ^ j - 1) + 1) * 2 ^ k = ap (λ (x : ℕ). x * 2 ^ k) e in
    ap (lowest_bit n) f ∙ lowest_of n (2 ^ j - 1) k (omega arith)

-- and it leaves the j bits of a number from bit k on.
contiguous_and : (v j k : ℕ) → bit_and v (contiguous j k) ≡ (v / 2 ^ k % 2 ^ j) * 2 ^ k
contiguous_and v j k = and_shift v (2 ^ j - 1) k ∙ ap (λ (x : ℕ). x * 2 ^ k) (and_mask (v / 2 ^ k) j)

-- The first 2^j multiples of 2^k have only bits of the mask,
choice_yes : (i j k : ℕ) → i < 2 ^ j → bit_and (i * 2 ^ k) (contiguous j k) ≡ i * 2 ^ k
choice_yes i j k h =
    contiguous_and (i * 2 ^ k) j k ∙ ap (λ (x : ℕ). x % 2 ^ j * 2 ^ k) (shl-shr i k) ∙ ap (λ (x : ℕ). x * 2 ^ k) (mod-eq_of_lt h)

-- and no other value has.
choice_of : (v j k : ℕ) → bit_and v (contiguous j k) ≡ v → (i : ℕ) × (i < 2 ^ j) × (v ≡ i * 2 ^ k)
choice_of v j k e = (v / 2 ^ k % 2 ^ j, mod-lt (v / 2 ^ k) (pow_pos j), sym e ∙ contiguous_and v j k)

-- A base that shares no bit with the mask and such a value add up under or.
choice_or : (base i j k : ℕ) → bit_and base (contiguous j k) ≡ 0 → i < 2 ^ j → bit_or base (i * 2 ^ k) ≡ base + i * 2 ^ k
choice_or base i j k e h =
    let q : ℕ = base / 2 ^ k in
    let z : q % 2 ^ j ≡ 0 = eq_of_mul-eq-mul_right (2 ^ k) (pow_pos k) (q % 2 ^ j) 0 (sym (contiguous_and base j k) ∙ e ∙ omega arith) in
    let m : q ≡ q / 2 ^ j * 2 ^ j = omega (arith, split q j) in
    or_disjoint base (i * 2 ^ k)
    (and_shift base i k ∙ ap (λ (x : ℕ). x * 2 ^ k) (ap (λ (x : ℕ). bit_and x i) m ∙ and_shifted (q / 2 ^ j) j i h) ∙ omega arith)

-- So base | mask is 2^j - 1 steps of 2^k from the base,
pub contiguous_or : (base j k : ℕ) → bit_and base (contiguous j k) ≡ 0 → bit_or base (contiguous j k) ≡ base + (2 ^ j - 1) * 2 ^ k
contiguous_or base j k e = choice_or base (2 ^ j - 1) j k e (ones_lt j)

-- and the run from the base to there gives every id of the mask.
pub contiguous_run : {a : IdAllocator} (base j k : ℕ) → bit_and base (contiguous j k) ≡ 0 → Run a base (2 ^ k) (2 ^ j) → EveryId a base (contiguous j k) (2 ^ j)
contiguous_run base j k e r =
    record {
      ids = λ i l. (i * 2 ^ k, choice_yes i j k l, r.ids i l ∙ ap gives (sym (choice_or base i j k e l)));
      rising = run_rising r (pow_pos k);
      every = λ v f.
          let c = choice_of v j k f in
          (c.0, c.1, r.ids c.0 c.1 ∙ ap gives (sym (ap (bit_or base) c.2 ∙ choice_or base c.0 j k e c.1)));
      end = r.end;
    }
