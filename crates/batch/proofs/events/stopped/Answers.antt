use Rattle.std.proofs.Common.{eq-eqb, ne_eqb}
use Rattle.octets.specs.Logic.{choose}
use Rattle.batch.specs.Events.{stopped_by}
use Rattle.batch.proofs.events.stopped.Goals as goal

pub returns-then-count-eq0 : goal.returns-then-count-eq0
unfolding stopped_by choose
returns-then-count-eq0 c = simp (eq-eqb _ _ c.if-count-eq0.true)

pub returns : goal.returns
unfolding stopped_by choose
returns c = simp (ne_eqb _ _ c.if-count-eq0.false)
