use Rattle.saving.specs.Laying.{request_same}
use Rattle.saving.proofs.laying.request_of.Goals as goal

pub returns : goal.returns
returns c = request_same _ _ c.mode_of.ensures
