use Rattle.std.proofs.Common.{sym, ◌∙◌, arith, pow_pos}
use Rattle.id_allocator.specs.SoundLaws.{sound_no, sound_lowest, lowest_sound}
use Rattle.id_allocator.proofs.is_sound.Goals as goal

pub returns-then-a-eq0 : goal.returns-then-a-eq0
returns-then-a-eq0 c = sym (sound_no _ (λ s. omega (arith, pow_pos s.power)))

pub returns-then-a-ge-LIMIT : goal.returns-then-a-ge-LIMIT
returns-then-a-ge-LIMIT c = sym (sound_no _ (λ s. omega arith))

pub returns-then-a-ge-LIMIT-2 : goal.returns-then-a-ge-LIMIT-2
returns-then-a-ge-LIMIT-2 c = sym (sound_no _ (λ s. omega arith))

pub returns-then-lowest_bit-step : goal.returns-then-lowest_bit-step
returns-then-lowest_bit-step c = sym (sound_no _ (λ s. c.if-lowest_bit-step.true (c.lowest_bit.ensures ∙ sound_lowest _ s)))

pub returns : goal.returns
returns c = let own = sym c.lowest_bit.ensures ∙ c.if-lowest_bit-step.false in
    sym (lowest_sound _ (omega arith) (omega arith) (omega arith) own)
