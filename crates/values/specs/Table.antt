-- 01, Values to meet: the starred ones, as one table under one claim. Assumes nothing.
use Rattle.std.specs.Prelude.{◌≡◌, refl, List, [], ◌∷◌, ℕ, zero, suc, ◌^◌, ◌-◌, ◌<◌}
use Rattle.std.proofs.Common.{arith}
use Rattle.refusal.specs.Answer.{Answer, gives, refuses, refuse}
use Rattle.octets.specs.Logic.{choose, both, either}
use Rattle.sequence.specs.Numbering.{wire_values, FullNumber, full, in_range}
use Rattle.sequence.proofs.NumberingLaws.{full_least}
use Rattle.packet.specs.Packet.{was_sent, class_of}
use Rattle.packet_reader.specs.Frame.{length_as, total}
use Rattle.id_allocator.specs.Ids.{power_below, sound, no_ids, generated, updated}
use Rattle.id_allocator.specs.Runs.{after_calls, call}
use Rattle.id_allocator.specs.declared.IdAllocator.{IdAllocator}

-- an allocator of step 1, as a range finds it
abbrev one : IdAllocator
one = record { next = 0; last = 0; step = 1 }

-- what a range comes to: its ids, the answers of so many calls and one more, or its refusal
abbrev calls : ℕ → ℕ → IdAllocator → List (Answer ℕ)
calls i zero a = call i a ∷ []
calls i (suc n) a = call i a ∷ calls (suc i) n a

abbrev answers : ℕ → Answer IdAllocator → List (Answer ℕ)
answers count (gives a) = calls 0 count a
answers count (refuses n) = refuses n ∷ []

-- A row of the table: last read, wire and full number; a packet's code, length field and total; a range's start and count, and what comes of it.
pub data Row : Type 0 where
  numbers : ℕ → ℕ → Answer ℕ → Row
  lengths : ℕ → ℕ → ℕ → Row
  ranges : ℕ → ℕ → List (Answer ℕ) → Row

-- what a row claims
abbrev pub Holds : Row → Type 0
Holds (numbers read wire answer) = FullNumber read wire answer
Holds (lengths code field whole) = total code field ≡ whole
Holds (ranges start count answer) = answers count (updated one start count) ≡ answer

-- all rows hold
abbrev pub All : List Row → Type 0
All [] = Unit {0}
All (r ∷ rs) = Holds r × All rs

abbrev pub table : List Row
table =
    numbers 0 0 (gives 0)
    ∷ numbers 65535 0 (gives 65536)
    ∷ numbers 65536 65535 (gives 131071)
    ∷ numbers 70000 4464 (gives 70000)
    ∷ numbers 70000 4463 (gives 135535)
    ∷ numbers (2 ^ 63 - 1) 0 (refuses 3)
    ∷ lengths 1 0 32
    ∷ lengths 1 1 36
    ∷ lengths 35 2 40
    ∷ lengths 163 2 40
    ∷ lengths 129 5 32
    ∷ ranges 0 1 (refuses 11 ∷ [])
    ∷ ranges 5 0 (refuses 11 ∷ [])
    ∷ ranges 0 2 (gives 0 ∷ gives 1 ∷ refuses 11 ∷ [])
    ∷ ranges (2 ^ 32 - 1) 1 (gives (2 ^ 32 - 1) ∷ refuses 11 ∷ [])
    ∷ ranges (2 ^ 32 - 1) 2 (refuses 12 ∷ [])
    ∷ []

-- a row of numbers by the sum
by_sum : (read wire : ℕ) (a : Answer ℕ) → wire < wire_values → a ≡ in_range (full read wire) → FullNumber read wire a
by_sum read wire a h e = record { number = full read wire; is_least = full_least read wire h; answers = e }

-- THE VALUES: every row of the table holds.
pub values : All table
unfolding in_range full refuse length_as class_of was_sent choose both either power_below sound no_ids generated updated after_calls call
values = (
  by_sum 0 0 _ (omega arith) refl,
  (
    by_sum 65535 0 _ (omega arith) refl,
    (
      by_sum 65536 65535 _ (omega arith) refl,
      (
        by_sum 70000 4464 _ (omega arith) refl,
        (
          by_sum 70000 4463 _ (omega arith) refl,
          (by_sum (2 ^ 63 - 1) 0 _ (omega arith) refl, (refl, (refl, (refl, (refl, (refl, (refl, (refl, (refl, (refl, (refl, tt))))))))))),
        ),
      ),
    ),
  ),
)
