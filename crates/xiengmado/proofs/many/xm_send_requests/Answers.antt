use Rattle.answers.specs.Exported.{kept_on}
use Rattle.xiengmado.proofs.many.xm_send_requests.Goals as goal

pub returns : goal.returns
returns c = kept_on c.give_sent_many.ensures (rw c.connection-now.ensures at c.send_requests-answer.ensures)
