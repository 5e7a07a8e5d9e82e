use Rattle.std.proofs.Common.{sym}
use Rattle.packet_reader.specs.CutLaws.{aim_head}
use Rattle.packet_reader.proofs.wanted.Goals as goal

pub returns-then-bytes-lt-LEAST_PACKET : goal.returns-then-bytes-lt-LEAST_PACKET
returns-then-bytes-lt-LEAST_PACKET c = sym (aim_head _ _ _ c.if-bytes-lt-LEAST_PACKET.true)
