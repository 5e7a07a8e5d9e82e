use Rattle.descriptors.specs.Steps.{close_waiting_step}
use Rattle.descriptors.proofs.close_waiting.Goals as goal

pub returns : goal.returns
returns c = close_waiting_step _ _ _ _ c.rotate.ensures
