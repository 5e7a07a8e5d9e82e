use Rattle.std.proofs.Common.{le-leb}
use borrow.Author.Tests.{lt-leb}
use Rattle.octets.specs.Logic.{both}
use Rattle.model.specs.Model.{roomy}
use Rattle.connection.proofs.in_range.Goals as goal

pub returns-then-capacity-lt1 : goal.returns-then-capacity-lt1
unfolding roomy both
returns-then-capacity-lt1 c = simp (lt-leb _ _ c.if-capacity-lt1.true)

pub returns-then-capacity-gt-MOST_REQUESTS : goal.returns-then-capacity-gt-MOST_REQUESTS
unfolding roomy both
returns-then-capacity-gt-MOST_REQUESTS c = simp (le-leb _ _ c.if-capacity-lt1.false, lt-leb _ _ c.if-capacity-gt-MOST_REQUESTS.true)

pub returns-then-room-lt-LEAST_STORE : goal.returns-then-room-lt-LEAST_STORE
unfolding roomy both
returns-then-room-lt-LEAST_STORE c = simp (le-leb _ _ c.if-capacity-lt1.false, le-leb _ _ c.if-capacity-gt-MOST_REQUESTS.false, lt-leb _ _ c.if-room-lt-LEAST_STORE.true)

pub returns : goal.returns
unfolding roomy both
returns c = simp (le-leb _ _ c.if-capacity-lt1.false, le-leb _ _ c.if-capacity-gt-MOST_REQUESTS.false, le-leb _ _ c.if-room-lt-LEAST_STORE.false)
