use Rattle.descriptors.specs.Steps.{close_held_step}
use Rattle.descriptors.proofs.close_held.Goals as goal

pub returns : goal.returns
returns c = close_held_step _ _ _ _ _ c.rotate.ensures
