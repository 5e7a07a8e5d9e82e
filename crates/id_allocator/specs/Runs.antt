-- 01, Ids: which ids calls of `generate_id` give in a row. Assumes nothing.
use Rattle.std.specs.Prelude.{ℕ, zero, suc, ◌+◌, ◌-◌, ◌*◌, ◌^◌, ◌<◌, ◌≤◌, ◌≡◌}
use Rattle.std.specs.Int.Bits.{bit_and, bit_or}
use Rattle.refusal.specs.Answer.{Answer, gives, refuses}
use Rattle.id_allocator.specs.declared.IdAllocator.{IdAllocator}
use Rattle.id_allocator.specs.Ids.{generated}

-- The allocator that a call leaves: 01, Refusal numbers, a refusal leaves everything as found.
abbrev pub next_of : IdAllocator → Answer (ℕ × IdAllocator) → IdAllocator
next_of a (gives p) = p.1
next_of a (refuses n) = a

-- The allocator after n calls.
unfoldable pub after_calls : ℕ → IdAllocator → IdAllocator
after_calls zero a = a
after_calls (suc n) a = let b = after_calls n a in next_of b (generated b)

-- The id that a call gives, or the number of its refusal.
abbrev pub id_of : Answer (ℕ × IdAllocator) → Answer ℕ
id_of (gives p) = gives p.0
id_of (refuses n) = refuses n

-- What call i answers: the one after i calls, so the first is call 0.
unfoldable pub call : ℕ → IdAllocator → Answer ℕ
call i a = id_of (generated (after_calls i a))

-- The calls give first, first + step, .., first + (count - 1) × step in this order, and from then on refuse by 11.
pub record Run (a : IdAllocator) (first step count : ℕ) : Type 0 where
  pub ids : (i : ℕ) → i < count → call i a ≡ gives (first + i * step)
  pub end : (i : ℕ) → count ≤ i → call i a ≡ refuses 11

-- A contiguous mask: j set bits, the lowest of them bit k.
abbrev pub contiguous : ℕ → ℕ → ℕ
contiguous j k = (2 ^ j - 1) * 2 ^ k

-- Core, Connection Setup: an id is made "by choosing a value with only some subset of these bits set and ORing it with resource-id-base".
-- The calls give count such ids, rising, so none comes twice; every such id is among them; from then on they refuse by 11.
pub record EveryId (a : IdAllocator) (base mask count : ℕ) : Type 0 where
  pub ids : (i : ℕ) → i < count → (v : ℕ) × (bit_and v mask ≡ v) × (call i a ≡ gives (bit_or base v))
  pub rising : (i l x y : ℕ) → i < l → call i a ≡ gives x → call l a ≡ gives y → x < y
  pub every : (v : ℕ) → bit_and v mask ≡ v → (i : ℕ) × (i < count) × (call i a ≡ gives (bit_or base v))
  pub end : (i : ℕ) → count ≤ i → call i a ≡ refuses 11
