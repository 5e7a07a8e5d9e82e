use Rattle.std.proofs.Common.{sym, ◌∙◌, arith, lt-ltb, le-ltb}
use Rattle.refusal.specs.Answer.{refuse}
use Rattle.id_allocator.specs.Ids.{generated}
use Rattle.id_allocator.specs.SoundLaws.{sound_of}
use Rattle.id_allocator.proofs.IdAllocator.generate_id.Goals as goal

pub returns-then-not-is_sound : goal.returns-then-not-is_sound
unfolding generated refuse
returns-then-not-is_sound c = simp (sym c.is_sound.ensures ∙ c.if-not-is_sound.true)

pub returns-then-self : goal.returns-then-self
unfolding generated refuse
returns-then-self c = let sound = sym c.is_sound.ensures ∙ c.if-not-is_sound.false in
    simp (sound, lt-ltb _ _ c.if-self.true)

pub overflow_cast-id : goal.overflow_cast-id
overflow_cast-id c = let sound = sym c.is_sound.ensures ∙ c.if-not-is_sound.false in
    omega (arith, sound_of _ sound)

pub overflow_add-next : goal.overflow_add-next
overflow_add-next c = let sound = sym c.is_sound.ensures ∙ c.if-not-is_sound.false in
    omega (arith, sound_of _ sound)

pub returns : goal.returns
unfolding generated refuse
returns c = let sound = sym c.is_sound.ensures ∙ c.if-not-is_sound.false in
    simp (sound, le-ltb _ _ c.if-self.false)
