use Rattle.xiengmado.specs.Keeping.{kept_back}
use Rattle.xiengmado.proofs.client.xm_enqueue_packet.Goals as goal

pub returns : goal.returns
returns c = let p = rw c.connection-now.ensures at c.enqueue_packet-answer.ensures in kept_back _ _ _ c.give_enqueued.ensures p.exact.answers p
