use Rattle.std.proofs.Common.{eq-eqb, ne_eqb}
use Rattle.octets.specs.Logic.{choose}
use Rattle.held.proofs.soundness.pick.Goals as goal

pub returns-then-kind-eq-IN_REPLIES : goal.returns-then-kind-eq-IN_REPLIES
unfolding choose
returns-then-kind-eq-IN_REPLIES c = simp (eq-eqb _ _ c.if-kind-eq-IN_REPLIES.true)

pub returns-else-kind-eq-IN_REPLIES : goal.returns-else-kind-eq-IN_REPLIES
unfolding choose
returns-else-kind-eq-IN_REPLIES c = simp (ne_eqb _ _ c.if-kind-eq-IN_REPLIES.false)
