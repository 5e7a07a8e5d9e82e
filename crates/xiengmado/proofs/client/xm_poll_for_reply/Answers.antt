use Rattle.xiengmado.specs.Keeping.{kept_back}
use Rattle.xiengmado.proofs.client.xm_poll_for_reply.Goals as goal

pub returns : goal.returns
returns c = let p = rw c.connection-now.ensures at c.poll_for_reply-answer.ensures in kept_back _ _ _ c.give_poll.ensures p.promise.exact.answers p
