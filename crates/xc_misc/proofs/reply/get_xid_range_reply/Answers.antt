use Rattle.refusal.specs.Answer.{gives, after_given, after_refused, passed_on}
use Rattle.std.proofs.Common.{ap, ◌∙◌}
use Rattle.xc_misc.specs.Replies.{range, reply_long}
use Rattle.xc_misc.proofs.reply.get_xid_range_reply.Goals as goal

pub range_fields-requires : goal.range_fields-requires
range_fields-requires c = reply_long _ _ c.in_ok-check_reply.ensures

pub returns : goal.returns
unfolding range
returns c = ap gives c.range_fields.ensures ∙ after_given _ c.in_ok-check_reply.ensures

pub returns-in_err-check_reply : goal.returns-in_err-check_reply
unfolding range
returns-in_err-check_reply c = rw (passed_on c.from_residual.ensures.1) (after_refused _ c.in_err-check_reply.ensures)
