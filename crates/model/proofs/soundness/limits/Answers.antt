use Rattle.octets.specs.Logic.{both}
use borrow.Author.Tests.{lt-leb}
use Rattle.std.proofs.Common.{le-leb}
use Rattle.model.specs.Sound.{limitsb, limits_last}
use Rattle.model.proofs.soundness.limits.Goals as goal

pub returns-then-c-lt-LEAST_STORE : goal.returns-then-c-lt-LEAST_STORE
unfolding limitsb both
returns-then-c-lt-LEAST_STORE c = simp (lt-leb _ _ c.if-c-lt-LEAST_STORE.true)

pub returns-then-c-gt-MOST_STORE : goal.returns-then-c-gt-MOST_STORE
unfolding limitsb both
returns-then-c-gt-MOST_STORE c = simp (le-leb _ _ c.if-c-lt-LEAST_STORE.false, lt-leb _ _ c.if-c-gt-MOST_STORE.true)

pub returns-then-c-gt-LAST_NUMBER : goal.returns-then-c-gt-LAST_NUMBER
unfolding limitsb both
returns-then-c-gt-LAST_NUMBER c = simp (le-leb _ _ c.if-c-lt-LEAST_STORE.false, le-leb _ _ c.if-c-gt-MOST_STORE.false, lt-leb _ _ c.if-c-gt-LAST_NUMBER.true)

pub returns-then-c-gt-LAST_NUMBER-2 : goal.returns-then-c-gt-LAST_NUMBER-2
unfolding limitsb both
returns-then-c-gt-LAST_NUMBER-2 c = simp (le-leb _ _ c.if-c-lt-LEAST_STORE.false, le-leb _ _ c.if-c-gt-MOST_STORE.false, le-leb _ _ c.if-c-gt-LAST_NUMBER.false, lt-leb _ _ c.if-c-gt-LAST_NUMBER-2.true)

pub returns : goal.returns
returns c = limits_last _ c.if-c-lt-LEAST_STORE.false c.if-c-gt-MOST_STORE.false c.if-c-gt-LAST_NUMBER.false c.if-c-gt-LAST_NUMBER-2.false
