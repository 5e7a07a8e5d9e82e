use Rattle.connect.specs.AimLaws.{reply_long}
use Rattle.connect.specs.Sound.{sound_seen}
use Rattle.connect.specs.Setup.{setup}
use Rattle.std.proofs.Common.{not, ap, eq-eqb, ne_eqb, sym, ◌∙◌}
use Rattle.std.proofs.Math.Seq.{length-take-le}
use Rattle.refusal.specs.Answer.{refuse}
use Rattle.connect.proofs.handshake.Connect.setup.Goals as goal

pub returns-then-not-is_sound : goal.returns-then-not-is_sound
unfolding setup refuse
returns-then-not-is_sound c = simp (sym c.is_sound.ensures ∙ c.if-not-is_sound.true)

pub returns-then-self : goal.returns-then-self
unfolding setup refuse
returns-then-self c = simp (sym c.is_sound.ensures ∙ c.if-not-is_sound.false, ne_eqb _ _ c.if-self.true)

pub read_reply-requires : goal.read_reply-requires
read_reply-requires c = reply_long _ _ (sound_seen _ _ _ c.is_sound.ensures (ap not c.if-not-is_sound.false))

pub returns : goal.returns
unfolding setup refuse
returns c = simp (sym c.is_sound.ensures ∙ c.if-not-is_sound.false, eq-eqb _ _ c.if-self.false) c.read_reply.ensures

pub slice_bounds-read_reply-end : goal.slice_bounds-read_reply-end
slice_bounds-read_reply-end c = sym (length-take-le _ _ (sound_seen _ _ _ c.is_sound.ensures (ap not c.if-not-is_sound.false)).target_fits)
