use Rattle.answers.specs.Exported.{kept_on}
use Rattle.xiengmado.proofs.many.xm_enqueue_packets.Goals as goal

pub returns : goal.returns
returns c = kept_on c.give_fed.ensures (rw c.connection-now.ensures at c.enqueue_packets-answer.ensures)
