use Rattle.connect.specs.Sound.{sound_rest}
use Rattle.octets.specs.Logic.{both}
use Rattle.std.proofs.Common.{sym, ◌∙◌, le-leb, eq-eqb, ne_eqb}
use borrow.Author.Tests.{lt-leb}
use Rattle.connect.specs.Handshake.{soundb, room}
use Rattle.connect.proofs.handshake.is_sound.Goals as goal

pub returns-then-buf-lt-HEAD : goal.returns-then-buf-lt-HEAD
unfolding soundb room both
returns-then-buf-lt-HEAD c = simp (lt-leb _ _ c.if-buf-lt-HEAD.true)

pub returns-then-buf-gt-MOST_BUFFER : goal.returns-then-buf-gt-MOST_BUFFER
unfolding soundb room both
returns-then-buf-gt-MOST_BUFFER c = simp (le-leb _ _ c.if-buf-lt-HEAD.false, lt-leb _ _ c.if-buf-gt-MOST_BUFFER.true)

pub returns-then-not-is_legal : goal.returns-then-not-is_legal
unfolding soundb room both
returns-then-not-is_legal c = simp (le-leb _ _ c.if-buf-lt-HEAD.false, le-leb _ _ c.if-buf-gt-MOST_BUFFER.false, sym c.is_legal.ensures ∙ c.if-not-is_legal.true)

pub returns-then-connect-aim_of : goal.returns-then-connect-aim_of
unfolding soundb room both
returns-then-connect-aim_of c = simp (le-leb _ _ c.if-buf-lt-HEAD.false, le-leb _ _ c.if-buf-gt-MOST_BUFFER.false, sym c.is_legal.ensures ∙ c.if-not-is_legal.false, sym c.aim_of.ensures, ne_eqb _ _ c.if-connect-aim_of.true)

pub returns-then-buf-connect : goal.returns-then-buf-connect
unfolding soundb room both
returns-then-buf-connect c = simp (le-leb _ _ c.if-buf-lt-HEAD.false, le-leb _ _ c.if-buf-gt-MOST_BUFFER.false, sym c.is_legal.ensures ∙ c.if-not-is_legal.false, sym c.aim_of.ensures, eq-eqb _ _ c.if-connect-aim_of.false, lt-leb _ _ c.if-buf-connect.true)

pub returns : goal.returns
returns c = sound_rest _ _ c.if-buf-lt-HEAD.false c.if-buf-gt-MOST_BUFFER.false (sym (c.if-not-is_legal.false) ∙ c.is_legal.ensures) (c.if-connect-aim_of.false ∙ c.aim_of.ensures) c.if-buf-connect.false
