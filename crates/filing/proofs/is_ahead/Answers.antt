use Rattle.model.specs.Model.{ahead}
use Rattle.octets.specs.Logic.{both}
use Rattle.std.proofs.Common.{lt-ltb, le-ltb}
use Rattle.filing.proofs.is_ahead.Goals as goal

pub returns-then-number-written : goal.returns-then-number-written
unfolding ahead both
returns-then-number-written c = simp (le-ltb _ _ c.if-number-written.true)

pub returns : goal.returns
unfolding ahead both
returns c = simp (lt-ltb _ _ c.if-number-written.false, c.is_unnumbered.ensures)
