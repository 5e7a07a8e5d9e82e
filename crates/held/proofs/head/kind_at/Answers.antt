use Rattle.held.specs.General.{byte_drop}
use Rattle.held.specs.Head.{kind_of}
use Rattle.std.proofs.Common.{arith}
use Rattle.held.proofs.head.kind_at.Goals as goal

pub returns : goal.returns
unfolding kind_of
returns c = byte_drop _ c.args.s.now _ _ (omega arith)
