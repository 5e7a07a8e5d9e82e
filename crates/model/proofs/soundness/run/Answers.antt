use Rattle.octets.specs.Logic.{both}
use borrow.Author.Tests.{lt-leb}
use Rattle.std.proofs.Common.{le-leb}
use Rattle.model.specs.Sound.{runb}
use Rattle.model.proofs.soundness.run.Goals as goal

pub returns-then-first-lt1 : goal.returns-then-first-lt1
unfolding runb both
returns-then-first-lt1 c = simp (lt-leb _ _ c.if-first-lt1.true)

pub returns-then-written-first : goal.returns-then-written-first
unfolding runb both
returns-then-written-first c = simp (le-leb _ _ c.if-first-lt1.false, lt-leb _ _ c.if-written-first.true)

pub returns : goal.returns
unfolding runb both
returns c = simp (le-leb _ _ c.if-first-lt1.false, le-leb _ _ c.if-written-first.false)
