-- Core, Encoding, Errors: the layout of an error packet. Assumes nothing.
--
--      1     0           Error
--      1                 code
--      2     CARD16      sequence number
--      4                 bad value
--      2     CARD16      minor opcode
--      1     CARD8       major opcode
--      21                unused
use Rattle.std.specs.Prelude.{◌≡◌, refl, List, ℕ, get_or, Result}
use Rattle.octets.specs.Field.{field}
use Rattle.refusal.specs.Answer.{Answer, gives, after, says, says_one}
use Rattle.packet.specs.Packet.{error_code, wire_number}
use Rattle.x11_utils.specs.Packet.{checked}
use Rattle.x11_utils.specs.declared.X11Error.{X11Error}
use Rattle.refusal.specs.declared.Refusal.{Refusal}

-- the fields, at their places in the layout
unfoldable pub error_of : ℕ → List ℕ → X11Error
error_of o p = record {
  code = get_or p 1 0;
  sequence = wire_number o p;
  value = field o 4 4 p;
  minor = field o 8 2 p;
  major = get_or p 10 0;
}

-- The answer for a packet: the refusals of every packet, or its fields.
unfoldable pub parsed : ℕ → List ℕ → Answer X11Error
parsed o p = after (checked o p error_code) (gives (error_of o p))

-- what the result says
abbrev pub says_parsed : Result X11Error Refusal → Answer X11Error
says_parsed = says (λ e. e)

-- Two answers that say the same are equal.

pub parsed_one : (a b : Result X11Error Refusal) → says_parsed a ≡ says_parsed b → a ≡ b
parsed_one = says_one _ (λ e. e) (λ x. refl)
