use Rattle.filing.specs.Plan.{first_after}
use Rattle.octets.specs.Logic.{choose}
use Rattle.std.proofs.Common.{lt-ltb, le-ltb, le-leb}
use borrow.Author.Tests.{lt-leb}
use Rattle.filing.proofs.first_after.Goals as goal

pub returns-then-number-first : goal.returns-then-number-first
unfolding first_after choose
returns-then-number-first c = simp (le-leb _ _ c.if-number-first.true)

pub returns-then-written-number : goal.returns-then-written-number
unfolding first_after choose
returns-then-written-number c = simp (lt-leb _ _ c.if-number-first.false, lt-ltb _ _ c.if-written-number.true)

pub returns : goal.returns
unfolding first_after choose
returns c = simp (lt-leb _ _ c.if-number-first.false, le-ltb _ _ c.if-written-number.false)
