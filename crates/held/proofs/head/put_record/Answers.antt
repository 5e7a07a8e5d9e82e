use Rattle.held.specs.Head.{put_encoded}
use Rattle.std.proofs.Common.{arith, refl}
use Rattle.held.proofs.head.put_record.Goals as goal

pub returns : goal.returns
returns c = put_encoded _ _ _ _ _ _ _ _ _ _ _ _ c.put_u64.ensures c.put_u32.ensures c.put_kind.ensures c.put_u16.ensures c.copy_in.ensures refl (omega arith) (omega arith) (omega arith)
