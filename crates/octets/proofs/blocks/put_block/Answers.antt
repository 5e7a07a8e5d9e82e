use Rattle.std.proofs.Common.{arith}
use Rattle.octets.specs.Field.{four_put}
use Rattle.octets.proofs.blocks.put_block.Goals as goal

pub returns : goal.returns
returns c = four_put _ _ _ _ _ _ _ _ _ _ (omega arith) c.put_u64.ensures c.put_u64-2.ensures c.put_u64-3.ensures c.put_u64-4.ensures
