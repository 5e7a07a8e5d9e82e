use Rattle.std.proofs.Common.{arith}
use Rattle.octets.specs.Field.{four_read}
use Rattle.octets.proofs.blocks.get_block.Goals as goal

pub returns : goal.returns
returns c = four_read _ _ (λ i. (c.type_inv.s i).fits) (omega arith) c.get_u64-a.ensures c.get_u64-b.ensures c.get_u64-c.ensures c.get_u64-d.ensures
