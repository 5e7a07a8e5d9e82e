-- 01, Ids, with the allocator's sentence of 01, Rooms, and its refusals: what each call answers, as definitions that compute. They
-- are written from the paper and say nothing of the code. Assumes nothing.
use Rattle.std.specs.Prelude.{ℕ, zero, suc, ◌+◌, ◌-◌, ◌*◌, ◌/◌, ◌%◌, ◌^◌, ◌<◌, ◌≤◌, ◌≡◌, Bool, false, not, leb, ltb, eqb, Result}
use Rattle.std.specs.Int.Bits.{bit_or}
use Rattle.octets.specs.Logic.{choose, both, either}
use Rattle.refusal.specs.Answer.{Answer, gives, refuse, says}
use Rattle.id_allocator.specs.declared.IdAllocator.{IdAllocator}
use Rattle.id_allocator.specs.declared.Generated.{Generated}
use Rattle.refusal.specs.declared.Refusal.{Refusal}

-- An id has 32 bits,
abbrev pub bits : ℕ
bits = 32

-- so ids are below 2^32.
abbrev pub limit : ℕ
limit = 2 ^ bits

-- ---- 01, Rooms: "An allocator is sound if its step is a power of two, step and last id are below 2^32 and its next is at most last + step."

-- The sentence, part by part; power is the step's exponent.
pub record Sound (a : IdAllocator) : Type 0 where
  pub power : ℕ
  pub step_power : a.step ≡ 2 ^ power
  pub step_below : a.step < limit
  pub last_below : a.last < limit
  pub next_most : a.next ≤ a.last + a.step

-- n is one of the powers of two below 2^k: 2^0, 2^1, .., 2^(k - 1).
unfoldable pub power_below : ℕ → ℕ → Bool
power_below zero n = false
power_below (suc k) n = either (eqb n (2 ^ k)) (power_below k n)

-- The sentence as a test: the step is a power of two below 2^32, the last id is below 2^32, next is at most last + step.
unfoldable pub sound : IdAllocator → Bool
sound a = both (power_below bits a.step) (both (ltb a.last limit) (leb a.next (a.last + a.step)))

-- ---- 01, Ids: "Step: the lowest set bit of the mask. Ids run from base to base | mask."

-- The lowest set bit of a mask of n bits: 1 where the mask is odd, otherwise twice that of half the mask.
unfoldable pub lowest_bit : ℕ → ℕ → ℕ
lowest_bit zero mask = 0
lowest_bit (suc n) mask = choose (eqb (mask % 2) 1) 1 (2 * lowest_bit n (mask / 2))

-- That s is the lowest set bit of m: in binary m is some digits above, then a 1, then place zeros, and s is the 1 with the zeros.
pub record Lowest (m s : ℕ) : Type 0 where
  pub place : ℕ
  pub above : ℕ
  pub bit : s ≡ 2 ^ place
  pub digits : m ≡ (2 * above + 1) * 2 ^ place

-- A fresh allocator's ids run from base to base | mask.
abbrev pub fresh : ℕ → ℕ → IdAllocator
fresh base mask = record { next = base; last = bit_or base mask; step = lowest_bit bits mask }

-- Once its next id is given, an allocator goes one step on.
abbrev pub onward : IdAllocator → IdAllocator
onward a = record { next = a.next + a.step; last = a.last; step = a.step }

-- 01, Ids: "A range gives start to start + (count - 1) × step."
abbrev pub ranged : IdAllocator → ℕ → ℕ → IdAllocator
ranged a start count = record { next = start; last = start + (count - 1) * a.step; step = a.step }

-- 01, Refusal numbers, 11: a range has no ids if it is (0, 1) or its count is 0.
unfoldable pub no_ids : ℕ → ℕ → Bool
no_ids start count = either (eqb count 0) (both (eqb start 0) (eqb count 1))

-- ---- 01, Refusal numbers: what each call answers, its refusals in the order of the paper

-- `new`: 10 for a mask of 0.
unfoldable pub new_ids : ℕ → ℕ → Answer IdAllocator
new_ids base mask = refuse (eqb mask 0) 10 (gives (fresh base mask))

-- `generate_id`: 9 for an unsound allocator, 11 once the next id is past the last.
unfoldable pub generated : IdAllocator → Answer (ℕ × IdAllocator)
generated a = refuse (not (sound a)) 9 (refuse (ltb a.last a.next) 11 (gives (a.next, onward a)))

-- `update_xid_range`: 9 for an unsound allocator, 11 for a range without ids, 12 if its last id is over 2^32 - 1.
unfoldable pub updated : IdAllocator → ℕ → ℕ → Answer IdAllocator
updated a start count = refuse (not (sound a)) 9 (refuse (no_ids start count) 11 (refuse (leb limit (ranged a start count).last) 12 (gives (ranged a start count))))

-- ---- what the results say in these terms

-- An allocator, or the number of the refusal.
abbrev pub says_ids : Result IdAllocator Refusal → Answer IdAllocator
says_ids = says (λ a. a)

-- An id with the allocator after it, or the number of the refusal.
abbrev pub says_generated : Result Generated Refusal → Answer (ℕ × IdAllocator)
says_generated = says (λ x. (x.id, x.next))
