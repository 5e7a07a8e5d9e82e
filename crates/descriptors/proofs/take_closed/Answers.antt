use Rattle.std.proofs.Common.{◌∙◌, arith, ◌+◌}
use Rattle.octets.proofs.Parts.{within_put}
use Rattle.descriptors.specs.Steps.{take_closed_step}
use Rattle.descriptors.proofs.take_closed.Goals as goal

pub returns : goal.returns
returns c =
    take_closed_step c.args.slots.now _ c.args.counts c.args.out.now _ c.copy.ensures
    (c.copy_within.ensures.after ∙ within_put c.args.slots.now c.args.counts.closed 0 (c.args.counts.held + c.args.counts.waiting) _ (omega arith) (omega arith))
