use Rattle.std.proofs.Common.{sym, ◌∙◌, arith}
use Rattle.filing.specs.Plan.{raised_to}
use Rattle.octets.specs.Logic.{choose}
use Rattle.filing.proofs.raised.Goals as goal

pub returns-then-is_unnumbered : goal.returns-then-is_unnumbered
unfolding raised_to choose
returns-then-is_unnumbered c = simp (sym c.is_unnumbered.ensures ∙ c.if-is_unnumbered.true)

pub returns-then-expected-number : goal.returns-then-expected-number
unfolding raised_to choose
returns-then-expected-number c = simp (sym c.is_unnumbered.ensures ∙ c.if-is_unnumbered.false) (omega arith)

pub returns : goal.returns
unfolding raised_to choose
returns c = simp (sym c.is_unnumbered.ensures ∙ c.if-is_unnumbered.false) (omega arith)
