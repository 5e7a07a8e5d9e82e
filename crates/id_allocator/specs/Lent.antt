-- 01, Ids: "First as a value handed back; then the allocator is lent and its three numbers are updated there." What the lent calls promise,
-- by what the calls by value answer. Assumes nothing.
use Rattle.std.specs.Prelude.{ℕ, ◌≡◌, Result}
use Rattle.refusal.specs.Answer.{Answer, gives, refuses, says}
use Rattle.id_allocator.specs.declared.IdAllocator.{IdAllocator}
use Rattle.id_allocator.specs.Ids.{generated, updated}
use Rattle.id_allocator.specs.Runs.{id_of, next_of}
use Rattle.refusal.specs.declared.Refusal.{Refusal}

-- ---- what the results say

-- An id, or the number of the refusal.
abbrev pub says_next : Result ℕ Refusal → Answer ℕ
says_next = says (λ id. id)

-- That it is done, or the number of the refusal.
abbrev pub says_updated : Result Unit Refusal → Answer (Unit {0})
says_updated = says (λ x. x)

-- ---- what the answer of a range update says to who lent the allocator (of `generate_id` see `id_of` and `leaves`)

-- That it is done, or the number of the refusal,
abbrev pub done_of : Answer IdAllocator → Answer (Unit {0})
done_of (gives b) = gives tt
done_of (refuses n) = refuses n

-- and the allocator from there on: 01, Refusal numbers, a refusal leaves everything as found.
abbrev pub taken_up : IdAllocator → Answer IdAllocator → IdAllocator
taken_up a (gives b) = b
taken_up a (refuses n) = a

-- ---- the promises, a the allocator at entry and b at exit

-- `generate_id`: the id or the refusal that the call by value answers for a, and b is the allocator that it leaves.
pub record Generates (a : IdAllocator) (r : Result ℕ Refusal) (b : IdAllocator) : Type 0 where
  pub answer : says_next r ≡ id_of (generated a)
  pub exit : b ≡ next_of a (generated a)

-- `update_xid_range`: done or the refusal that the call by value answers for a, and b is the allocator from there on.
pub record Updates (a : IdAllocator) (start count : ℕ) (r : Result Unit Refusal) (b : IdAllocator) : Type 0 where
  pub answer : says_updated r ≡ done_of (updated a start count)
  pub exit : b ≡ taken_up a (updated a start count)
