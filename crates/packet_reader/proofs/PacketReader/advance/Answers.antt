use Rattle.octets.specs.Logic.{choose}
use Rattle.std.proofs.Common.{arith, sym, not, ap, ◌∙◌, lt-ltb, le-ltb}
use Rattle.refusal.specs.Answer.{refuse}
use Rattle.packet_reader.specs.Sound.{sound_seen}
use Rattle.packet_reader.specs.CutLaws.{class_filled}
use Rattle.packet_reader.specs.Reader.{advanced, reached}
use Rattle.packet_reader.proofs.PacketReader.advance.Goals as goal

pub returns-then-not-is_sound : goal.returns-then-not-is_sound
unfolding advanced refuse
returns-then-not-is_sound c = simp (sym c.is_sound.ensures ∙ c.if-not-is_sound.true)

pub overflow_sub-self : goal.overflow_sub-self
overflow_sub-self c = omega (arith, sound_seen _ _ _ c.is_sound.ensures (ap not c.if-not-is_sound.false))

pub returns-then-self-amount : goal.returns-then-self-amount
unfolding advanced refuse
returns-then-self-amount c = simp (sym c.is_sound.ensures ∙ c.if-not-is_sound.false, lt-ltb _ _ c.if-self-amount.true)

pub aim_of-target-requires : goal.aim_of-target-requires
aim_of-target-requires c = omega (arith, sound_seen _ _ _ c.is_sound.ensures (ap not c.if-not-is_sound.false))

pub returns-then-buf-target : goal.returns-then-buf-target
unfolding advanced reached refuse choose
returns-then-buf-target c = simp (sym c.is_sound.ensures ∙ c.if-not-is_sound.false, le-ltb _ _ c.if-self-amount.false, sym c.aim_of-target.ensures, lt-ltb _ _ c.if-buf-target.true)

pub returns-then-filled-target : goal.returns-then-filled-target
unfolding advanced reached refuse choose
returns-then-filled-target c = simp (sym c.is_sound.ensures ∙ c.if-not-is_sound.false, le-ltb _ _ c.if-self-amount.false, sym c.aim_of-target.ensures, le-ltb _ _ c.if-buf-target.false, lt-ltb _ _ c.if-filled-target.true)

pub bounds-buf-0 : goal.bounds-buf-0
bounds-buf-0 c = omega (arith, sound_seen _ _ _ c.is_sound.ensures (ap not c.if-not-is_sound.false))

pub returns : goal.returns
unfolding advanced reached refuse choose
returns c = simp (sym c.is_sound.ensures ∙ c.if-not-is_sound.false, le-ltb _ _ c.if-self-amount.false, sym c.aim_of-target.ensures, le-ltb _ _ c.if-buf-target.false, le-ltb _ _ c.if-filled-target.false, sym (class_filled _ _ _ _ _ c.class_of.ensures c.aim_of-target.ensures c.if-filled-target.false), c.fresh.ensures)
