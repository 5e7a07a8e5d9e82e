use Rattle.xiengmado.specs.Keeping.{kept_back}
use Rattle.xiengmado.proofs.client.xm_poll_check_for_reply_or_error.Goals as goal

pub returns : goal.returns
returns c = let p = rw c.connection-now.ensures at c.poll_check_for_reply_or_error-answer.ensures in kept_back _ _ _ c.give_poll.ensures p.promise.exact.answers p
