use Rattle.std.proofs.Common.{le-leb}
use borrow.Author.Tests.{lt-leb}
use Rattle.requests.specs.Room.{sized}
use Rattle.octets.specs.Logic.{both}
use Rattle.requests.proofs.sized.Goals as goal

pub returns-then-k-lt1 : goal.returns-then-k-lt1
unfolding sized both
returns-then-k-lt1 c = simp (lt-leb _ _ c.if-k-lt1.true)

pub returns-then-k-gt-MOST_REQUESTS : goal.returns-then-k-gt-MOST_REQUESTS
unfolding sized both
returns-then-k-gt-MOST_REQUESTS c = simp (le-leb _ _ c.if-k-lt1.false, lt-leb _ _ c.if-k-gt-MOST_REQUESTS.true)

pub returns : goal.returns
unfolding sized both
returns c = simp (le-leb _ _ c.if-k-lt1.false, le-leb _ _ c.if-k-gt-MOST_REQUESTS.false)
