use Rattle.setup_request.specs.Pad.{pad}
use Rattle.std.proofs.Common.{refl}
use Rattle.setup_request.proofs.pad.Goals as goal

pub returns : goal.returns
unfolding pad
returns c = refl
