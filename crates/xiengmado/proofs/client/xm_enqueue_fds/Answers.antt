use Rattle.answers.specs.Exported.{kept_on}
use Rattle.xiengmado.proofs.client.xm_enqueue_fds.Goals as goal

pub returns : goal.returns
returns c = kept_on c.give_next.ensures (rw c.connection-now.ensures at c.enqueue_fds-answer.ensures)
