use Rattle.std.proofs.Common.{◌∙◌, arith, ◌+◌, ◌-◌}
use Rattle.octets.proofs.Parts.{within_put}
use Rattle.descriptors.specs.Room.{total}
use Rattle.descriptors.specs.Steps.{hand_out_step}
use Rattle.descriptors.proofs.hand_out.Goals as goal

pub returns : goal.returns
returns c =
    hand_out_step c.args.slots.now _ c.args.counts c.args.at c.args.n c.args.out.now _ c.requires.1 c.copy.ensures
    (c.copy_within.ensures.after ∙ within_put c.args.slots.now (c.args.counts.closed + c.args.at + c.args.n) (c.args.counts.closed + c.args.at) (total c.args.counts - (c.args.counts.closed + c.args.at + c.args.n)) _ (omega arith) (omega arith))
