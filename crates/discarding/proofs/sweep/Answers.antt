use Rattle.std.proofs.Common.{arith}
use Rattle.discarding.specs.Steps.{sweeping_start, sweeping_ready, sweeping_ends, sweeping_sum, sweeping_next}
use Rattle.discarding.proofs.sweep.Goals as goal

pub loop-i-init : goal.loop-i-init
loop-i-init c = sweeping_start _ _ _ _ _ c.requires

pub sweep_one-one-requires : goal.sweep_one-one-requires
sweep_one-one-requires c = sweeping_ready _ _ _ _ _ _ _ _ _ c.loop-i.invariant

pub overflow_add-fds : goal.overflow_add-fds
overflow_add-fds c = let h = sweeping_sum _ _ _ _ _ _ _ _ _ c.loop-i.invariant _ _ _ c.sweep_one-one.ensures in omega arith

pub loop-i-preserved : goal.loop-i-preserved
loop-i-preserved c = sweeping_next _ _ _ _ _ _ _ _ _ c.loop-i.invariant _ _ _ c.sweep_one-one.ensures (omega arith)

pub returns : goal.returns
returns c = sweeping_ends _ _ _ _ _ _ _ _ _ c.loop-i.invariant (omega arith)
