use Rattle.xiengmado.specs.Keeping.{kept_back}
use Rattle.xiengmado.proofs.client.xm_poll_for_event_with_sequence.Goals as goal

pub returns : goal.returns
returns c = let p = rw c.connection-now.ensures at c.poll_for_event_with_sequence-answer.ensures in kept_back _ _ _ c.give_event.ensures p.promise.exact.answers p
