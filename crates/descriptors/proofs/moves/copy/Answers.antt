use Rattle.std.proofs.Common.{refl, arith}
use Rattle.octets.specs.Moves.{copy_none, copy_turn, copy_done}
use Rattle.descriptors.proofs.moves.copy.Goals as goal

pub loop-i-init : goal.loop-i-init
loop-i-init c = copy_none _ _ _ _

pub loop-i-preserved : goal.loop-i-preserved
loop-i-preserved c = copy_turn _ _ _ _ _ _ (omega arith) (omega arith) refl c.loop-i.invariant

pub returns : goal.returns
returns c = copy_done _ _ _ _ _ _ _ (omega arith) (omega arith) c.loop-i.invariant
