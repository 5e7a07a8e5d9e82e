use Rattle.std.proofs.Common.{sym, ◌∙◌}
use Rattle.octets.specs.Logic.{choose}
use Rattle.connect.specs.Handshake.{unfilled}
use Rattle.connect.proofs.handshake.Connect.unfilled.Goals as goal

pub returns-then-not-is_sound : goal.returns-then-not-is_sound
unfolding unfilled choose
returns-then-not-is_sound c = simp (sym c.is_sound.ensures ∙ c.if-not-is_sound.true)

pub returns : goal.returns
unfolding unfilled choose
returns c = simp (sym c.is_sound.ensures ∙ c.if-not-is_sound.false)
