use Rattle.answers.specs.Exported.{kept_on}
use Rattle.xiengmado.proofs.many.xm_poll_for_events.Goals as goal

pub returns : goal.returns
returns c = kept_on c.give_events.ensures (rw c.connection-now.ensures at c.poll_for_events-answer.ensures)
