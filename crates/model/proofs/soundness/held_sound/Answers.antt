use Rattle.std.proofs.Common.{sym, ◌∙◌}
use Rattle.model.specs.Sound.{walked_sound, walked_unsound}
use Rattle.model.proofs.soundness.held_sound.Goals as goal

pub returns-in-Some : goal.returns-in-Some
returns-in-Some c = walked_sound _ _ _ _ _ (sym c.in-Some.is ∙ c.walk.ensures)

pub returns-in-None : goal.returns-in-None
returns-in-None c = walked_unsound _ _ _ _ (sym c.in-None.is ∙ c.walk.ensures)
