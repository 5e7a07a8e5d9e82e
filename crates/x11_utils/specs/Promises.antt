-- THE PROMISES of the public calls: what a contract says of the answer r, and that any two answers that it allows are equal. Assumes nothing.
use Rattle.std.specs.Prelude.{◌≡◌, List, ℕ, Result}
use Rattle.std.proofs.Common.{sym, ◌∙◌}
use Rattle.x11_utils.specs.Packet.{checked, says_checked, checked_one}
use Rattle.x11_utils.specs.Error.{parsed, says_parsed, parsed_one}
use Rattle.refusal.specs.declared.Refusal.{Refusal}
use Rattle.x11_utils.specs.declared.X11Error.{X11Error}

-- `check_packet`
module _ (order : ℕ) (packet : List ℕ) (first : ℕ) where
  abbrev pub ChecksPacket : Result Unit Refusal → Type 0
  ChecksPacket r = says_checked r ≡ checked order packet first

  pub checks_packet_one : (a b : Result Unit Refusal) → ChecksPacket a → ChecksPacket b → a ≡ b
  checks_packet_one a b x y = checked_one a b (x ∙ sym y)

-- `X11Error::try_parse`
module _ (order : ℕ) (packet : List ℕ) where
  abbrev pub ParsesError : Result X11Error Refusal → Type 0
  ParsesError r = says_parsed r ≡ parsed order packet

  pub parses_error_one : (a b : Result X11Error Refusal) → ParsesError a → ParsesError b → a ≡ b
  parses_error_one a b x y = parsed_one a b (x ∙ sym y)
