use Rattle.std.proofs.Common.{sym, ◌∙◌, arith}
use Rattle.octets.specs.Logic.{apart}
use Rattle.requests.specs.Theorems.{sized_is}
use Rattle.model.specs.Sound.{Ranges, heldb, not_sound, limits_written, limits_run, numbers_limits, numbers_run, rooms_left}
use Rattle.model.proofs.soundness.is_sound.Goals as goal
use Rattle.model.proofs.soundness.is_sound.Goals.{Else-not-run}

-- the numbers, once both halves are tested
numbers : (c : Else-not-run) → Ranges c.args.c
numbers c = limits_run _ (sym c.limits.ensures ∙ c.if-not-limits.false) (sym c.run.ensures ∙ c.if-not-run.false)

pub returns-then-not-is_legal : goal.returns-then-not-is_legal
returns-then-not-is_legal c = not_sound _ _ (λ S. apart S.order (sym c.is_legal.ensures ∙ c.if-not-is_legal.true))

pub returns-then-not-sized : goal.returns-then-not-sized
returns-then-not-sized c = not_sound _ _ (λ S. apart S.requests (sym c.sized.ensures ∙ c.if-not-sized.true))

pub returns-then-store-c : goal.returns-then-store-c
returns-then-store-c c = not_sound _ _ (λ S. c.if-store-c.true S.store)

pub returns-then-not-limits : goal.returns-then-not-limits
returns-then-not-limits c = not_sound _ _ (λ S. apart (numbers_limits _ S.numbers) (sym c.limits.ensures ∙ c.if-not-limits.true))

pub run-requires : goal.run-requires
run-requires c = limits_written _ (sym c.limits.ensures ∙ c.if-not-limits.false)

pub returns-then-not-run : goal.returns-then-not-run
returns-then-not-run c = not_sound _ _ (λ S. apart (numbers_run _ S.numbers) (sym c.run.ensures ∙ c.if-not-run.true))

pub returns-then-not-sound : goal.returns-then-not-sound
returns-then-not-sound c = not_sound _ _ (λ S. apart S.slots (sym c.sound.ensures ∙ c.if-not-sound.true))

pub overflow_add-count : goal.overflow_add-count
overflow_add-count c = omega (arith, numbers (goal.at.overflow_add-count c).Else-not-run)

pub overflow_sub-count : goal.overflow_sub-count
overflow_sub-count c = omega (arith, numbers (goal.at.overflow_sub-count c).Else-not-run)

pub rooms_sound-requires : goal.rooms_sound-requires
rooms_sound-requires c = let n = numbers (goal.at.rooms_sound-requires c).Else-not-run in let z = (sized_is _ _).0 (sym c.sized.ensures ∙ c.if-not-sized.false) in omega arith

pub returns : goal.returns
unfolding heldb
returns c = c.rooms_sound.ensures ∙ rooms_left _ _ (sym c.is_legal.ensures ∙ c.if-not-is_legal.false) (sym c.sized.ensures ∙ c.if-not-sized.false) c.if-store-c.false (numbers (goal.at.returns c).Else-not-run) (sym c.sound.ensures ∙ c.if-not-sound.false)
