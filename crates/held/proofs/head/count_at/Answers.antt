use Rattle.held.specs.General.{byte_drop}
use Rattle.held.specs.Head.{fds_of}
use Rattle.std.proofs.Common.{arith}
use Rattle.held.proofs.head.count_at.Goals as goal

pub returns : goal.returns
unfolding fds_of
returns c = byte_drop _ c.args.s.now _ _ (omega arith)
