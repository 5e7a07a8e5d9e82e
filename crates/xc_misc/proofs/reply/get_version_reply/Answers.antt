use Rattle.refusal.specs.Answer.{gives, after_given, after_refused, passed_on}
use Rattle.std.proofs.Common.{ap, ◌∙◌}
use Rattle.xc_misc.specs.Replies.{version, reply_long}
use Rattle.xc_misc.proofs.reply.get_version_reply.Goals as goal

pub version_fields-requires : goal.version_fields-requires
version_fields-requires c = reply_long _ _ c.in_ok-check_reply.ensures

pub returns : goal.returns
unfolding version
returns c = ap gives c.version_fields.ensures ∙ after_given _ c.in_ok-check_reply.ensures

pub returns-in_err-check_reply : goal.returns-in_err-check_reply
unfolding version
returns-in_err-check_reply c = rw (passed_on c.from_residual.ensures.1) (after_refused _ c.in_err-check_reply.ensures)
