use Rattle.packet_reader.specs.Front.{front_nothing, front_short, front_long, front_part, front_whole}
use Rattle.packet_reader.proofs.front.Goals as goal

pub returns-then-bytes-eq0 : goal.returns-then-bytes-eq0
returns-then-bytes-eq0 c = front_nothing _ _ c.if-bytes-eq0.true

pub returns-then-bytes-lt-LEAST_PACKET : goal.returns-then-bytes-lt-LEAST_PACKET
returns-then-bytes-lt-LEAST_PACKET c = front_short _ _ c.if-bytes-eq0.false c.if-bytes-lt-LEAST_PACKET.true

pub returns-then-target-gt-MOST_BUFFER : goal.returns-then-target-gt-MOST_BUFFER
returns-then-target-gt-MOST_BUFFER c = front_long _ _ _ c.aim_of-target.ensures c.if-bytes-eq0.false c.if-target-gt-MOST_BUFFER.true

pub returns-then-bytes-target : goal.returns-then-bytes-target
returns-then-bytes-target c = front_part _ _ _ c.aim_of-target.ensures c.if-bytes-eq0.false c.if-target-gt-MOST_BUFFER.false c.if-bytes-target.true

pub returns : goal.returns
returns c = front_whole _ _ _ c.aim_of-target.ensures c.if-bytes-eq0.false c.if-target-gt-MOST_BUFFER.false c.if-bytes-target.false _ c.class_of.ensures
