use Rattle.octets.specs.Logic.{both}
use Rattle.std.proofs.Common.{sym, ◌∙◌, le-leb, eq-eqb, ne_eqb}
use borrow.Author.Tests.{lt-leb}
use Rattle.packet_reader.specs.Reader.{soundb, room}
use Rattle.packet_reader.proofs.is_sound.Goals as goal

pub returns-then-buf-lt-LEAST_PACKET : goal.returns-then-buf-lt-LEAST_PACKET
unfolding soundb room both
returns-then-buf-lt-LEAST_PACKET c = simp (lt-leb _ _ c.if-buf-lt-LEAST_PACKET.true)

pub returns-then-buf-gt-MOST_BUFFER : goal.returns-then-buf-gt-MOST_BUFFER
unfolding soundb room both
returns-then-buf-gt-MOST_BUFFER c = simp (le-leb _ _ c.if-buf-lt-LEAST_PACKET.false, lt-leb _ _ c.if-buf-gt-MOST_BUFFER.true)

pub returns-then-not-is_legal : goal.returns-then-not-is_legal
unfolding soundb room both
returns-then-not-is_legal c = simp (le-leb _ _ c.if-buf-lt-LEAST_PACKET.false, le-leb _ _ c.if-buf-gt-MOST_BUFFER.false, sym c.is_legal.ensures ∙ c.if-not-is_legal.true)

pub returns-then-reader-aim_of : goal.returns-then-reader-aim_of
unfolding soundb room both
returns-then-reader-aim_of c = simp (le-leb _ _ c.if-buf-lt-LEAST_PACKET.false, le-leb _ _ c.if-buf-gt-MOST_BUFFER.false, sym c.is_legal.ensures ∙ c.if-not-is_legal.false, sym c.aim_of.ensures, ne_eqb _ _ c.if-reader-aim_of.true)

pub returns-then-buf-reader : goal.returns-then-buf-reader
unfolding soundb room both
returns-then-buf-reader c = simp (le-leb _ _ c.if-buf-lt-LEAST_PACKET.false, le-leb _ _ c.if-buf-gt-MOST_BUFFER.false, sym c.is_legal.ensures ∙ c.if-not-is_legal.false, sym c.aim_of.ensures, eq-eqb _ _ c.if-reader-aim_of.false, lt-leb _ _ c.if-buf-reader.true)

pub returns : goal.returns
unfolding soundb room both
returns c = simp (le-leb _ _ c.if-buf-lt-LEAST_PACKET.false, le-leb _ _ c.if-buf-gt-MOST_BUFFER.false, sym c.is_legal.ensures ∙ c.if-not-is_legal.false, sym c.aim_of.ensures, eq-eqb _ _ c.if-reader-aim_of.false, le-leb _ _ c.if-buf-reader.false)
