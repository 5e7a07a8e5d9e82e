use Rattle.std.proofs.Common.{arith}
use Rattle.octets.specs.Moves.{both_ends}
use Rattle.octets.proofs.moves.copy_ends.Goals as goal

pub returns : goal.returns
returns c = both_ends _ _ _ _ _ _ _ 32 _ (omega arith) (omega arith) (omega arith) (omega arith) c.get_block-first.ensures c.get_block-last.ensures c.put_block.ensures c.put_block-2.ensures
