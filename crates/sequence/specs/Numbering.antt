-- 01, Numbering and filing: the full number of a packet. Assumes nothing.
use Rattle.std.specs.Prelude.{◌≡◌, ℕ, ◌+◌, ◌-◌, ◌%◌, ◌≤◌, nat_lt, Result}
use Rattle.refusal.specs.Answer.{Answer, gives, refuse, says}
use Rattle.refusal.specs.declared.Refusal.{Refusal}
use Rattle.sequence.specs.declared.SequenceNumber.{SequenceNumber}

-- 01, Rooms: full numbers run from 0 to 2^63 - 1
abbrev pub last_number : ℕ
last_number = 9223372036854775807

-- a wire number has 16 bits
abbrev pub wire_values : ℕ
wire_values = 65536

-- The least number at or above the last read whose low 16 bits are the wire number.
pub record Least (read wire n : ℕ) : Type 0 where
  pub from : read ≤ n
  pub low : n % wire_values ≡ wire
  pub least : (m : ℕ) → read ≤ m → m % wire_values ≡ wire → n ≤ m

-- a number that is not past the last one; otherwise refusal 3
unfoldable pub in_range : ℕ → Answer ℕ
in_range n = refuse (nat_lt last_number n) 3 (gives n)

-- The answer for a wire number: the least such number, or 3.
pub record FullNumber (read wire : ℕ) (a : Answer ℕ) : Type 0 where
  pub number : ℕ
  pub is_least : Least read wire number
  pub answers : a ≡ in_range number

-- what a number or its refusal says
abbrev pub says_full : Result SequenceNumber Refusal → Answer ℕ
says_full = says (λ n. n.0)

-- ---- laws

-- The same by a sum: the last read and the way from its low 16 bits round to the wire number.
unfoldable pub full : ℕ → ℕ → ℕ
full read wire = read + (wire + wire_values - read % wire_values) % wire_values
