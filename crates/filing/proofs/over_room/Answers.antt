use Rattle.filing.specs.Plan.{over_room}
use Rattle.octets.specs.Logic.{both}
use Rattle.std.proofs.Common.{sym, ◌∙◌}
use Rattle.filing.proofs.over_room.Goals as goal

pub returns-then-not-is_held : goal.returns-then-not-is_held
unfolding over_room both
returns-then-not-is_held c = simp (sym c.is_held.ensures ∙ c.if-not-is_held.true)

pub returns : goal.returns
unfolding over_room both
returns c = simp (sym c.is_held.ensures ∙ c.if-not-is_held.false)
