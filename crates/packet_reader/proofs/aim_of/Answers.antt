use Rattle.octets.specs.Logic.{choose}
use Rattle.std.proofs.Common.{sym, ap, ◌∙◌, lt-ltb, le-ltb}
use Rattle.packet.specs.Packet.{has_length}
use Rattle.packet_reader.specs.Frame.{aim, length_as, total_of}
use Rattle.packet_reader.proofs.aim_of.Goals as goal

pub returns-then-filled-lt-LEAST_PACKET : goal.returns-then-filled-lt-LEAST_PACKET
unfolding aim choose
returns-then-filled-lt-LEAST_PACKET c = simp (lt-ltb _ _ c.if-filled-lt-LEAST_PACKET.true)

pub returns-then-not-has_length : goal.returns-then-not-has_length
unfolding aim total_of length_as choose
returns-then-not-has_length c = simp (le-ltb _ _ c.if-filled-lt-LEAST_PACKET.false, ap has_length (sym c.class_of-class.ensures) ∙ sym c.has_length.ensures ∙ c.if-not-has_length.true)

pub returns : goal.returns
unfolding aim total_of choose
returns c = simp (le-ltb _ _ c.if-filled-lt-LEAST_PACKET.false, sym c.get_u32.ensures, c.length_as.ensures, c.class_of-class.ensures)
