use Rattle.std.proofs.Common.{sym, ap, ◌∙◌, arith, length-take-le}
use Rattle.packet.specs.Packet.{least_packet, packet_class, is_plain, is_event}
use Rattle.packet.specs.Class.{class_taken, plain_event}
use Rattle.batch.proofs.feed.plain_ahead.Goals as goal

pub plain_of-requires : goal.plain_of-requires
plain_of-requires c = (let l = length-take-le least_packet c.args.bytes.now (omega arith) in (c.requires, omega (arith, l), omega (arith, l), ap is_event (class_taken least_packet c.args.bytes.now (omega arith)) ∙ (plain_event (packet_class c.args.bytes.now) (ap is_plain (sym c.class_of-class.ensures) ∙ sym c.is_plain.ensures ∙ c.if-not-is_plain.false)).0))
