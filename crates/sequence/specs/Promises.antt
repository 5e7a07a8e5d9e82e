-- THE PROMISES of the public calls: what a contract says of the answer r, and that any two answers that it allows are equal. Of `full_number` that is `FullNumber` (`Numbering.antt`). Assumes nothing.
use Rattle.std.specs.Prelude.{◌≡◌, ℕ, Bool, Result}
use Rattle.std.proofs.Common.{sym, ◌∙◌}
use Rattle.sequence.specs.Sending.{sending, says_sent, sent_one_lem}
use Rattle.refusal.specs.declared.Refusal.{Refusal}
use Rattle.sequence.specs.declared.Sent.{Sent}

-- `send`
module _ (written expected : ℕ) (has-reply : Bool) where
  abbrev pub SendsNumber : Result Sent Refusal → Type 0
  SendsNumber r = says_sent r ≡ sending written expected has-reply

  pub sends_number_one : (a b : Result Sent Refusal) → SendsNumber a → SendsNumber b → a ≡ b
  sends_number_one a b x y = sent_one_lem a b (x ∙ sym y)
