use Rattle.std.proofs.Common.{lt-ltb, le-ltb, eq-eqb, ne_eqb, sym, ◌∙◌}
use Rattle.refusal.specs.Answer.{refuse}
use Rattle.x11_utils.specs.Packet.{checked}
use Rattle.x11_utils.proofs.check_packet.Goals as goal

pub returns-then-packet-lt-LEAST_PACKET : goal.returns-then-packet-lt-LEAST_PACKET
unfolding checked refuse
returns-then-packet-lt-LEAST_PACKET c = simp (lt-ltb _ _ c.if-packet-lt-LEAST_PACKET.true)

pub returns-then-packet-gt-MOST_PACKET : goal.returns-then-packet-gt-MOST_PACKET
unfolding checked refuse
returns-then-packet-gt-MOST_PACKET c = simp (le-ltb _ _ c.if-packet-lt-LEAST_PACKET.false, lt-ltb _ _ c.if-packet-gt-MOST_PACKET.true)

pub returns-then-not-is_legal : goal.returns-then-not-is_legal
unfolding checked refuse
returns-then-not-is_legal c = simp (le-ltb _ _ c.if-packet-lt-LEAST_PACKET.false, le-ltb _ _ c.if-packet-gt-MOST_PACKET.false, sym c.is_legal.ensures ∙ c.if-not-is_legal.true)

pub returns-then-packet-first : goal.returns-then-packet-first
unfolding checked refuse
returns-then-packet-first c = simp (le-ltb _ _ c.if-packet-lt-LEAST_PACKET.false, le-ltb _ _ c.if-packet-gt-MOST_PACKET.false, sym c.is_legal.ensures ∙ c.if-not-is_legal.false, ne_eqb _ _ c.if-packet-first.true)

pub returns : goal.returns
unfolding checked refuse
returns c = simp (le-ltb _ _ c.if-packet-lt-LEAST_PACKET.false, le-ltb _ _ c.if-packet-gt-MOST_PACKET.false, sym c.is_legal.ensures ∙ c.if-not-is_legal.false, eq-eqb _ _ c.if-packet-first.false)
