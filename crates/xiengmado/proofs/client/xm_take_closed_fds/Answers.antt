use Rattle.answers.specs.Exported.{kept_on}
use Rattle.xiengmado.proofs.client.xm_take_closed_fds.Goals as goal

pub returns : goal.returns
returns c = kept_on c.give_closed.ensures (rw c.connection-now.ensures at c.take_closed_fds-answer.ensures)
