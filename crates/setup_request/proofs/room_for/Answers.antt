use Rattle.setup_request.specs.Request.{room_for}
use Rattle.std.proofs.Common.{lt-ltb, le-ltb, sym, ◌∙◌}
use Rattle.octets.specs.Logic.{either}
use Rattle.refusal.specs.Answer.{refuse}
use Rattle.setup_request.proofs.room_for.Goals as goal

pub returns-then-not-is_legal : goal.returns-then-not-is_legal
unfolding room_for refuse either
returns-then-not-is_legal c = simp (sym c.is_legal.ensures ∙ c.if-not-is_legal.true)

pub returns-then-name-gt-MOST_TEXT : goal.returns-then-name-gt-MOST_TEXT
unfolding room_for refuse either
returns-then-name-gt-MOST_TEXT c = simp (sym c.is_legal.ensures ∙ c.if-not-is_legal.false, lt-ltb _ _ c.if-name-gt-MOST_TEXT.true)

pub returns-then-data-gt-MOST_TEXT : goal.returns-then-data-gt-MOST_TEXT
unfolding room_for refuse either
returns-then-data-gt-MOST_TEXT c = simp (sym c.is_legal.ensures ∙ c.if-not-is_legal.false, le-ltb _ _ c.if-name-gt-MOST_TEXT.false, lt-ltb _ _ c.if-data-gt-MOST_TEXT.true)

pub returns-then-have-need : goal.returns-then-have-need
unfolding room_for refuse either
returns-then-have-need c = simp (sym c.is_legal.ensures ∙ c.if-not-is_legal.false, le-ltb _ _ c.if-name-gt-MOST_TEXT.false, le-ltb _ _ c.if-data-gt-MOST_TEXT.false, sym c.size-need.ensures, lt-ltb _ _ c.if-have-need.true)

pub returns : goal.returns
unfolding room_for refuse either
returns c = simp (sym c.is_legal.ensures ∙ c.if-not-is_legal.false, le-ltb _ _ c.if-name-gt-MOST_TEXT.false, le-ltb _ _ c.if-data-gt-MOST_TEXT.false, sym c.size-need.ensures, le-ltb _ _ c.if-have-need.false)
