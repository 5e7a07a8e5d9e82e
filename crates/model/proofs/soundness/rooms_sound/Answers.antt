use Rattle.std.proofs.Common.{sym, ◌∙◌}
use Rattle.octets.specs.Logic.{both}
use Rattle.model.proofs.soundness.rooms_sound.Goals as goal

pub returns-then-not-legal : goal.returns-then-not-legal
unfolding both
returns-then-not-legal c = simp (sym c.legal.ensures ∙ c.if-not-legal.true)

pub returns : goal.returns
unfolding both
returns c = simp (sym c.legal.ensures ∙ c.if-not-legal.false, c.held_sound.ensures)
