use Rattle.octets.specs.Logic.{choose}
use Rattle.saving.proofs.finding.pick.Goals as goal

pub returns-then-rising : goal.returns-then-rising
unfolding choose
returns-then-rising c = simp c.if-rising.true

pub returns-else-rising : goal.returns-else-rising
unfolding choose
returns-else-rising c = simp c.if-rising.false
