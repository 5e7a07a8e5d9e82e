use Rattle.refusal.specs.Answer.{passed_on}
use Rattle.intake.specs.Steps.{step_stop, step_some, step_may, step_file}
use Rattle.std.proofs.Common.{arith}
use Rattle.intake.proofs.enqueue_packet.Goals as goal

pub bounds-packet-0 : goal.bounds-packet-0
bounds-packet-0 c = omega (arith, step_some _ _ c.args.store.now c.args.slots.now _ _ c.plan_of.ensures _ c.in_ok-plan.was)

pub file-connection-requires : goal.file-connection-requires
file-connection-requires c = step_may _ _ _ _ _ _ c.plan_of.ensures _ c.in_ok-plan.was _ c.numbered-next.ensures c.requires

pub returns : goal.returns
returns c = step_file _ _ _ _ _ _ c.plan_of.ensures _ c.in_ok-plan.was _ c.numbered-next.ensures _ _ _ c.file-connection.ensures

pub returns-in_err-plan : goal.returns-in_err-plan
returns-in_err-plan c = rw (passed_on c.from_residual.ensures.1) (step_stop _ _ _ _ _ _ c.plan_of.ensures _ c.in_err-plan.was)
