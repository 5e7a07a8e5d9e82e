use Rattle.std.proofs.Common.{sym, ◌∙◌, arith, le-leb}
use borrow.Author.Tests.{lt-leb}
use Rattle.refusal.specs.Answer.{refuse}
use Rattle.id_allocator.specs.Ids.{updated}
use Rattle.id_allocator.specs.SoundLaws.{sound_of, some_count, span_fits}
use Rattle.id_allocator.proofs.IdAllocator.update_xid_range.Goals as goal

pub returns-then-not-is_sound : goal.returns-then-not-is_sound
unfolding updated refuse
returns-then-not-is_sound c = simp (sym c.is_sound.ensures ∙ c.if-not-is_sound.true)

pub returns-then-is_none : goal.returns-then-is_none
unfolding updated refuse
returns-then-is_none c = let sound = sym c.is_sound.ensures ∙ c.if-not-is_sound.false in
    simp (sound, sym c.is_none.ensures ∙ c.if-is_none.true)

pub overflow_sub-span : goal.overflow_sub-span
overflow_sub-span c = some_count _ _ (sym c.is_none.ensures ∙ c.if-is_none.false)

pub overflow_mul-span : goal.overflow_mul-span
overflow_mul-span c = let a = c.args in
    let sound = sym c.is_sound.ensures ∙ c.if-not-is_sound.false in
    omega (arith, span_fits a.start a.count a.self.step (omega arith) (omega arith) (sound_of _ sound).step_below)

pub overflow_add-last : goal.overflow_add-last
overflow_add-last c = let a = c.args in
    let sound = sym c.is_sound.ensures ∙ c.if-not-is_sound.false in
    omega (arith, span_fits a.start a.count a.self.step (omega arith) (omega arith) (sound_of _ sound).step_below)

pub returns-then-last-ge-LIMIT : goal.returns-then-last-ge-LIMIT
unfolding updated refuse
returns-then-last-ge-LIMIT c = let sound = sym c.is_sound.ensures ∙ c.if-not-is_sound.false in
    let some = sym c.is_none.ensures ∙ c.if-is_none.false in
    simp (sound, some, le-leb _ _ c.if-last-ge-LIMIT.true)

pub returns : goal.returns
unfolding updated refuse
returns c = let sound = sym c.is_sound.ensures ∙ c.if-not-is_sound.false in
    let some = sym c.is_none.ensures ∙ c.if-is_none.false in
    simp (sound, some, lt-leb _ _ c.if-last-ge-LIMIT.false)
