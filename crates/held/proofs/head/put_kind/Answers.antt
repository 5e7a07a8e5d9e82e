use Rattle.held.specs.Head.{put_two}
use Rattle.std.proofs.Common.{arith}
use Rattle.held.proofs.head.put_kind.Goals as goal

pub returns : goal.returns
returns c = put_two _ _ _ _ (omega arith)
