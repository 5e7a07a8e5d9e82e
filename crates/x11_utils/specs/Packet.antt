-- What is asked of every packet before its fields are read. Assumes nothing.
use Rattle.std.specs.Prelude.{◌≡◌, refl, not, List, ℕ, ◌≤◌, ltb, eqb, length, Result}
use Rattle.std.proofs.Common.{ltb-false}
use Rattle.octets.specs.Bytes.{legal}
use Rattle.refusal.specs.Answer.{Answer, gives, refuse, gives_past, says, says_one}
use Rattle.packet.specs.Packet.{least_packet, most_packet, code_of}
use Rattle.refusal.specs.declared.Refusal.{Refusal}

-- 01, Refusal numbers, "elsewhere 9, then by number": 1, 2, 13, 14, or the packet's fields can be read.
unfoldable pub checked : ℕ → List ℕ → ℕ → Answer Unit
checked o p first =
    refuse (ltb (length p) least_packet) 1
    (refuse (ltb most_packet (length p)) 2
    (refuse (not (legal o)) 13
    (refuse (not (eqb (code_of p) first)) 14
    (gives tt))))

-- what the result says
abbrev pub says_checked : Result Unit Refusal → Answer Unit
says_checked = says (λ x. x)

-- ---- laws

-- what is known of a packet that passed
pub ready_long : (o : ℕ) (p : List ℕ) (first : ℕ) → gives tt ≡ checked o p first → least_packet ≤ length p
unfolding checked
ready_long o p first e = ltb-false _ _ (gives_past _ _ _ e)

-- Two answers that say the same are equal.

pub checked_one : (a b : Result Unit Refusal) → says_checked a ≡ says_checked b → a ≡ b
checked_one = says_one _ (λ x. x) (λ x. refl)
