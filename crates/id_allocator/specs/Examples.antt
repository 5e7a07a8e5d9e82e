-- Ids, computed: rows that the nearest other readings fail. Assumes nothing.
use Rattle.std.specs.Prelude.{◌≡◌, refl, true, false, ℕ}
use Rattle.octets.specs.Logic.{choose, both, either}
use Rattle.refusal.specs.Answer.{gives, refuses, refuse}
use Rattle.id_allocator.specs.declared.IdAllocator.{IdAllocator}
use Rattle.id_allocator.specs.Ids.{power_below, sound, lowest_bit, no_ids, new_ids, generated, updated}
use Rattle.id_allocator.specs.Runs.{next_of, id_of, after_calls, call}
use Rattle.id_allocator.specs.Lent.{done_of, taken_up}

-- an allocator by its three numbers
abbrev ids : ℕ → ℕ → ℕ → IdAllocator
ids next last step = record { next = next; last = last; step = step }

-- the lowest set bit, and no other
pub lowest : (lowest_bit 32 6 ≡ 2) × (lowest_bit 32 2097151 ≡ 1) × (lowest_bit 32 2147483648 ≡ 2147483648) × (lowest_bit 32 40 ≡ 8)
unfolding lowest_bit choose
lowest = (refl, refl, refl, refl)

-- base to base | mask, which is not their sum where they share a bit; 10 for a mask of 0
pub makes : (new_ids 256 6 ≡ gives (ids 256 262 2)) × (new_ids 5 12 ≡ gives (ids 5 13 4)) × (new_ids 256 0 ≡ refuses 10)
unfolding new_ids lowest_bit choose refuse
makes = (refl, refl, refl)

-- sound: the step a power of two below 2^32, the last id below 2^32, the next at most one step past the last
pub sounds : (sound (ids 264 262 2) ≡ true) × (sound (ids 265 262 2) ≡ false) × (sound (ids 0 0 1) ≡ true) × (sound (ids 0 262 0) ≡ false) × (sound (ids 0 262 3) ≡ false) × (sound (ids 0 262 2147483648) ≡ true)
    × (sound (ids 0 262 4294967296) ≡ false) × (sound (ids 0 4294967295 4) ≡ true) × (sound (ids 0 4294967296 4) ≡ false)
unfolding sound power_below both either
sounds = (refl, refl, refl, refl, refl, refl, refl, refl, refl)

-- the next id and the allocator one step on, the last id too; 11 past it, 9 where it is not sound
pub generates : (generated (ids 256 262 2) ≡ gives (256, ids 258 262 2)) × (generated (ids 262 262 2) ≡ gives (262, ids 264 262 2)) × (generated (ids 263 262 2) ≡ refuses 11) × (generated (ids 265 262 2) ≡ refuses 9)
unfolding generated sound power_below both either refuse
generates = (refl, refl, refl, refl)

-- (0, 1) and a count of 0 are no ids; (0, 2), (1, 1) and (1, 2) are
pub none : (no_ids 0 1 ≡ true) × (no_ids 7 0 ≡ true) × (no_ids 0 0 ≡ true) × (no_ids 0 2 ≡ false) × (no_ids 1 1 ≡ false) × (no_ids 1 2 ≡ false)
unfolding no_ids both either
none = (refl, refl, refl, refl, refl, refl)

-- a range by the allocator's own step; one that ends with the last id of 32 bits, and one past it; 9 before 11 and 12
pub ranges : (updated (ids 264 262 2) 10 3 ≡ gives (ids 10 14 2)) × (updated (ids 264 262 2) 3 10 ≡ gives (ids 3 21 2)) × (updated (ids 0 0 4) 4294967291 2 ≡ gives (ids 4294967291 4294967295 4)) × (updated (ids 0 0 4) 4294967292 2 ≡ refuses 12)
    × (updated (ids 0 0 4) 0 1 ≡ refuses 11) × (updated (ids 0 0 3) 0 1 ≡ refuses 9) × (updated (ids 0 0 3) 4294967292 2 ≡ refuses 9)
unfolding updated sound power_below no_ids both either refuse
ranges = (refl, refl, refl, refl, refl, refl, refl)

-- calls in a row, and what a refusal leaves
pub calls : (call 0 (ids 256 262 2) ≡ gives 256) × (call 3 (ids 256 262 2) ≡ gives 262) × (call 4 (ids 256 262 2) ≡ refuses 11) × (after_calls 2 (ids 256 262 2) ≡ ids 260 262 2) × (after_calls 9 (ids 256 262 2) ≡ ids 264 262 2)
unfolding call after_calls generated sound power_below both either refuse
calls = (refl, refl, refl, refl, refl)

-- what the lent calls answer and leave
pub lent : (id_of (gives (7, ids 1 2 1)) ≡ gives 7) × (next_of (ids 5 6 1) (gives (7, ids 1 2 1)) ≡ ids 1 2 1) × (id_of (refuses 11) ≡ refuses 11) × (next_of (ids 5 6 1) (refuses 11) ≡ ids 5 6 1)
    × (done_of (gives (ids 1 2 1)) ≡ gives tt) × (done_of (refuses 12) ≡ refuses 12) × (taken_up (ids 5 6 1) (gives (ids 1 2 1)) ≡ ids 1 2 1) × (taken_up (ids 5 6 1) (refuses 12) ≡ ids 5 6 1)
lent = (refl, refl, refl, refl, refl, refl, refl, refl)
