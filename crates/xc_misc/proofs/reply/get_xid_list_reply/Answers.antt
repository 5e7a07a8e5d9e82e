use Rattle.refusal.specs.Answer.{passed_on}
use Rattle.xc_misc.specs.Replies.{lists_refused}
use Rattle.xc_misc.proofs.reply.get_xid_list_reply.Goals as goal

pub returns-in_err-check_list : goal.returns-in_err-check_list
returns-in_err-check_list c = rw (passed_on c.from_residual.ensures.1) (lists_refused _ _ _ _ c.in_err-check_list.ensures)
