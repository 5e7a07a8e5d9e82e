use Rattle.std.proofs.Common.{ap, ◌∙◌}
use Rattle.refusal.specs.Answer.{passed_on}
use Rattle.listing.specs.Call.{says_next}
use Rattle.listing.specs.Laws.{numbered_gives, numbered_refuses}
use Rattle.listing.proofs.lines.numbered.Goals as goal

pub returns : goal.returns
returns c = numbered_gives _ _ _ c.number_after.ensures _ c.in_ok-number.was

pub returns-in_err-number : goal.returns-in_err-number
returns-in_err-number c = ap says_next (passed_on c.from_residual.ensures.1) ∙ numbered_refuses _ _ _ c.number_after.ensures _ c.in_err-number.was
