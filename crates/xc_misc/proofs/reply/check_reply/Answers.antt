use Rattle.x11_utils.specs.Packet.{ready_long}
use Rattle.refusal.specs.Answer.{after_given, after_refused, passed_on}
use Rattle.std.proofs.Common.{◌∙◌, arith}
use Rattle.xc_misc.specs.Replies.{reply_checked}
use Rattle.xc_misc.proofs.reply.check_reply.Goals as goal

pub check_units-requires : goal.check_units-requires
check_units-requires c = let l = ready_long _ _ _ c.in_ok-check_packet.ensures in omega arith

pub returns : goal.returns
unfolding reply_checked
returns c = c.check_units.ensures ∙ after_given _ c.in_ok-check_packet.ensures

pub returns-in_err-check_packet : goal.returns-in_err-check_packet
unfolding reply_checked
returns-in_err-check_packet c = rw (passed_on c.from_residual.ensures.1) (after_refused _ c.in_err-check_packet.ensures)
