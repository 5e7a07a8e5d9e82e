use Rattle.filing.specs.Plan.{asked_in}
use Rattle.octets.specs.Logic.{choose}
use Rattle.std.proofs.Common.{lt-ltb, le-ltb}
use Rattle.filing.proofs.request_of.Goals as goal

pub returns-then-number-c : goal.returns-then-number-c
unfolding asked_in choose
returns-then-number-c c = simp (lt-ltb _ _ c.if-number-c.true)

pub returns : goal.returns
unfolding asked_in choose
returns c = simp (le-ltb _ _ c.if-number-c.false, c.get.ensures)
