use Rattle.std.proofs.Common.{arith, sym, not, ap, ◌∙◌}
use Rattle.refusal.specs.Answer.{refuse}
use Rattle.connect.specs.Sound.{sound_seen}
use Rattle.connect.specs.Handshake.{capacity}
use Rattle.connect.proofs.handshake.Connect.remaining_capacity.Goals as goal

pub returns-then-not-is_sound : goal.returns-then-not-is_sound
unfolding capacity refuse
returns-then-not-is_sound c = simp (sym c.is_sound.ensures ∙ c.if-not-is_sound.true)

pub overflow_sub-result : goal.overflow_sub-result
overflow_sub-result c = omega (arith, sound_seen _ _ _ c.is_sound.ensures (ap not c.if-not-is_sound.false))

pub returns : goal.returns
unfolding capacity refuse
returns c = simp (sym c.is_sound.ensures ∙ c.if-not-is_sound.false)
