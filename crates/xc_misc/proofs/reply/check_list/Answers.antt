use Rattle.refusal.specs.Answer.{after_given, after_refused, passed_on}
use Rattle.std.proofs.Common.{◌∙◌, arith}
use Rattle.xc_misc.specs.Replies.{list_checked, reply_long}
use Rattle.xc_misc.proofs.reply.check_list.Goals as goal

pub check_units-requires : goal.check_units-requires
check_units-requires c = let l = reply_long _ _ c.in_ok-check_reply.ensures in omega arith

pub returns : goal.returns
unfolding list_checked
returns c = c.check_units.ensures ∙ after_given _ c.in_ok-check_reply.ensures

pub returns-in_err-check_reply : goal.returns-in_err-check_reply
unfolding list_checked
returns-in_err-check_reply c = rw (passed_on c.from_residual.ensures.1) (after_refused _ c.in_err-check_reply.ensures)
