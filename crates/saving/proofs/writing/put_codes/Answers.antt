use Rattle.saving.specs.Writing.{codes_none, codes_again}
use Rattle.std.proofs.Common.{arith}
use Rattle.saving.proofs.writing.put_codes.Goals as goal

pub loop-i-init : goal.loop-i-init
loop-i-init c = record { most = omega arith; now = codes_none _ _ _ _ }

pub loop-i-preserved : goal.loop-i-preserved
loop-i-preserved c = codes_again _ _ _ _ _ _ _ c.loop-i.invariant c.requires.2 c.loop-i-test.true _ _ c.get.ensures c.code_of.ensures
