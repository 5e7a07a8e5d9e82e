use Rattle.sending.specs.FdsLaws.{enqueue_full, enqueue_done}
use Rattle.std.proofs.Common.{arith}
use Rattle.sending.proofs.enqueue_fds.Goals as goal

pub returns-then-inside-list : goal.returns-then-inside-list
returns-then-inside-list c = enqueue_full _ _ _ (omega (arith, c.requires.most))

pub returns : goal.returns
returns c = enqueue_done _ _ _ _ _ _ (omega (arith, c.requires.most)) c.moved.ensures c.enqueue-next.ensures
