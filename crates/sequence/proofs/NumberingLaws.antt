-- Laws of `specs/Numbering.antt`. Assumes nothing.
use Rattle.std.specs.Prelude.{◌≡◌, ℕ, ◌+◌, ◌%◌, ◌<◌, ◌≤◌, refl, Result}
use Rattle.std.proofs.Common.{sym, ap, ◌∙◌, arith, lt-ltb, le-ltb}
use Rattle.refusal.specs.Answer.{Answer, gives, refuses, refuse, says_one}
use Rattle.refusal.specs.declared.Refusal.{Refusal}
use Rattle.sequence.specs.declared.SequenceNumber.{SequenceNumber}
use Rattle.sequence.specs.Numbering.{last_number, wire_values, Least, in_range, FullNumber, says_full, full}

-- There is one least number, and it is that sum.
pub full_least : (read wire : ℕ) → wire < wire_values → Least read wire (full read wire)
unfolding full
full_least read wire h = record { from = omega arith; low = omega arith; least = λ m p q. omega arith }

pub least_one : (read wire m n : ℕ) → Least read wire m → Least read wire n → m ≡ n
least_one read wire m n p q =
    let a : m ≤ n = p.least n q.from q.low in
    let b : n ≤ m = q.least m p.from p.low in
    omega arith

-- Each answer is what the sum gives.
pub number_is : (read wire : ℕ) (a : Answer ℕ) → wire < wire_values → FullNumber read wire a → a ≡ in_range (full read wire)
number_is read wire a h f = f.answers ∙ ap in_range (least_one read wire f.number (full read wire) f.is_least (full_least read wire h))

-- How the least number is answered on either side of the last number.
pub least_past : (read wire n : ℕ) → Least read wire n → last_number < n → FullNumber read wire (refuses 3)
unfolding in_range refuse
least_past read wire n l p = record { number = n; is_least = l; answers = simp (lt-ltb last_number n p) }

pub least_within : (read wire n : ℕ) → Least read wire n → n ≤ last_number → FullNumber read wire (gives n)
unfolding in_range refuse
least_within read wire n l p = record { number = n; is_least = l; answers = simp (le-ltb last_number n p) }

-- A true number at or above the last read and at most 65,535 past it is found again from its low 16 bits.
pub full_near : (read true_number : ℕ) → read ≤ true_number → true_number ≤ read + 65535 → full read (true_number % wire_values) ≡ true_number
unfolding full
full_near read t p q = omega arith

-- Two answers that say the same are equal.
pub full_one : (a b : Result SequenceNumber Refusal) → says_full a ≡ says_full b → a ≡ b
full_one = says_one _ (λ n. record { 0 = n }) (λ n. refl)

-- So any two answers of `full_number` are equal.
pub full_number_one : {read wire : ℕ} (a b : Result SequenceNumber Refusal) → FullNumber read wire (says_full a) → FullNumber read wire (says_full b) → a ≡ b
full_number_one {read} {wire} a b p q =
    full_one a b (p.answers ∙ ap in_range (least_one read wire p.number q.number p.is_least q.is_least) ∙ sym q.answers)
