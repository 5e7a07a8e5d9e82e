use Rattle.refusal.specs.Answer.{refuse}
use Rattle.octets.specs.Logic.{both}
use Rattle.std.proofs.Common.{sym, ◌∙◌, le-leb}
use borrow.Author.Tests.{lt-leb}
use Rattle.packet_reader.specs.Reader.{made, room}
use Rattle.packet_reader.proofs.PacketReader.new.Goals as goal

pub returns-then-buf-lt-LEAST_PACKET : goal.returns-then-buf-lt-LEAST_PACKET
unfolding made room both refuse
returns-then-buf-lt-LEAST_PACKET c = simp (lt-leb _ _ c.if-buf-lt-LEAST_PACKET.true)

pub returns-then-buf-gt-MOST_BUFFER : goal.returns-then-buf-gt-MOST_BUFFER
unfolding made room both refuse
returns-then-buf-gt-MOST_BUFFER c = simp (le-leb _ _ c.if-buf-lt-LEAST_PACKET.false, lt-leb _ _ c.if-buf-gt-MOST_BUFFER.true)

pub returns-then-not-is_legal : goal.returns-then-not-is_legal
unfolding made room both refuse
returns-then-not-is_legal c = simp (le-leb _ _ c.if-buf-lt-LEAST_PACKET.false, le-leb _ _ c.if-buf-gt-MOST_BUFFER.false, sym c.is_legal.ensures ∙ c.if-not-is_legal.true)

pub returns : goal.returns
unfolding made room both refuse
returns c = simp (le-leb _ _ c.if-buf-lt-LEAST_PACKET.false, le-leb _ _ c.if-buf-gt-MOST_BUFFER.false, sym c.is_legal.ensures ∙ c.if-not-is_legal.false, c.fresh.ensures)
