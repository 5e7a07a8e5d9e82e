use Rattle.sending.specs.FdsLaws.{close_short, close_done}
use Rattle.sending.proofs.take_closed_fds.Goals as goal

pub returns-then-out-n : goal.returns-then-out-n
returns-then-out-n c = close_short _ _ _ c.if-out-n.true

pub returns : goal.returns
returns c = close_done _ _ _ _ _ _ _ c.requires c.if-out-n.false c.moved.ensures c.take_closed-next.ensures
