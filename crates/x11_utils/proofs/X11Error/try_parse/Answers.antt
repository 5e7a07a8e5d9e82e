use Rattle.refusal.specs.Answer.{gives, after_given, after_refused, passed_on}
use Rattle.std.proofs.Common.{ap, ◌∙◌}
use Rattle.x11_utils.specs.Error.{parsed}
use Rattle.x11_utils.specs.Packet.{ready_long}
use Rattle.x11_utils.proofs.X11Error.try_parse.Goals as goal

pub fields-requires : goal.fields-requires
fields-requires c = ready_long _ _ _ c.in_ok-check_packet.ensures

pub returns : goal.returns
unfolding parsed
returns c = ap gives c.fields.ensures ∙ after_given _ c.in_ok-check_packet.ensures

pub returns-in_err-check_packet : goal.returns-in_err-check_packet
unfolding parsed
returns-in_err-check_packet c = rw (passed_on c.from_residual.ensures.1) (after_refused _ c.in_err-check_packet.ensures)
