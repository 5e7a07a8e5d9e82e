use Rattle.held.specs.Moves.{handed}
use Rattle.held.proofs.moves.take.Goals as goal

pub returns : goal.returns
unfolding handed
returns c = record { takes = record { left = c.remove-rest.ensures; output = c.copy_out.ensures }; class_value = c.class_at-class.ensures }
