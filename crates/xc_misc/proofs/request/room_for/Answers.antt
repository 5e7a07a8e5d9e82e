use Rattle.std.proofs.Common.{lt-ltb, le-ltb, sym, ◌∙◌}
use Rattle.refusal.specs.Answer.{refuse}
use Rattle.xc_misc.specs.Requests.{room_for}
use Rattle.xc_misc.proofs.request.room_for.Goals as goal

pub returns-then-have-need : goal.returns-then-have-need
unfolding room_for refuse
returns-then-have-need c = simp (lt-ltb _ _ c.if-have-need.true)

pub returns-then-not-is_legal : goal.returns-then-not-is_legal
unfolding room_for refuse
returns-then-not-is_legal c = simp (le-ltb _ _ c.if-have-need.false, sym c.is_legal.ensures ∙ c.if-not-is_legal.true)

pub returns : goal.returns
unfolding room_for refuse
returns c = simp (le-ltb _ _ c.if-have-need.false, sym c.is_legal.ensures ∙ c.if-not-is_legal.false)
