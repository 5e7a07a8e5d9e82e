use Rattle.descriptors.specs.Steps.{enqueue_step}
use Rattle.descriptors.proofs.enqueue.Goals as goal

pub returns : goal.returns
returns c = enqueue_step _ _ _ _ c.copy.ensures
