use Rattle.std.proofs.Common.{ap}
use Rattle.answers.specs.Exported.{kept_on}
use Rattle.answers.specs.Shown.{setup_roomed}
use Rattle.xiengmado.proofs.handshake.xm_connect_setup.Goals as goal

pub returns : goal.returns
returns c = kept_on c.give_setup.ensures (ap (setup_roomed _) (rw c.handshake.ensures at c.setup.ensures))
