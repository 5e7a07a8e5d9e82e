use Rattle.std.proofs.Common.{arith}
use Rattle.saving.specs.Writing.{numbers_start, numbers_again}
use Rattle.saving.proofs.writing.put_numbers.Goals as goal

pub loop-i-init : goal.loop-i-init
loop-i-init c = numbers_start _ _ _ c.requires.1 _ c.put_u32.ensures

pub loop-i-preserved : goal.loop-i-preserved
loop-i-preserved c = numbers_again _ _ _ c.requires.1 _ _ c.loop-i.invariant (omega arith) (omega arith) _ c.put_u64.ensures
