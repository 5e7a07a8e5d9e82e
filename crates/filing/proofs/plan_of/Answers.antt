use Rattle.refusal.specs.Answer.{passed_on}
use Rattle.filing.specs.Planned.{plan_short, plan_long, plan_numbered, plan_end}
use Rattle.filing.proofs.plan_of.Goals as goal

pub returns-then-packet-lt-LEAST_PACKET : goal.returns-then-packet-lt-LEAST_PACKET
returns-then-packet-lt-LEAST_PACKET c = plan_short _ _ _ c.if-packet-lt-LEAST_PACKET.true

pub returns-then-packet-gt-MOST_PACKET : goal.returns-then-packet-gt-MOST_PACKET
returns-then-packet-gt-MOST_PACKET c = plan_long _ _ _ c.if-packet-lt-LEAST_PACKET.false c.if-packet-gt-MOST_PACKET.true

pub returns : goal.returns
returns c = plan_numbered _ _ _ c.if-packet-lt-LEAST_PACKET.false c.if-packet-gt-MOST_PACKET.false _ c.number_after.ensures _ _ c.in_ok-number.was c.plan_by.ensures

pub returns-in_err-number : goal.returns-in_err-number
returns-in_err-number c = rw (passed_on c.from_residual.ensures.1) (plan_end _ _ _ c.if-packet-lt-LEAST_PACKET.false c.if-packet-gt-MOST_PACKET.false _ c.number_after.ensures _ c.in_err-number.was)
