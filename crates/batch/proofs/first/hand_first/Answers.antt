use Rattle.std.proofs.Common.{refl, arith}
use Rattle.batch.specs.First.{FirstWithin, first_within, first_turn}
use Rattle.batch.proofs.first.hand_first.Goals as goal
use Rattle.batch.proofs.first.hand_first.Goals.{Start}

-- the oldest record lies in the store
within : (c : Start) → FirstWithin c.args.c c.args.store.now
within c = first_within _ _ c.requires.0 c.requires.3.some

pub length_at-len-requires : goal.length_at-len-requires
length_at-len-requires c = omega (arith, within (goal.at.length_at-len-requires c).Start)

pub number_at-number-requires : goal.number_at-number-requires
number_at-number-requires c = omega (arith, within (goal.at.number_at-number-requires c).Start)

pub class_at-class-requires : goal.class_at-class-requires
class_at-class-requires c = omega (arith, within (goal.at.class_at-class-requires c).Start)

pub overflow_add-from : goal.overflow_add-from
overflow_add-from c = omega (arith, within (goal.at.overflow_add-from c).Start)

pub overflow_add-end : goal.overflow_add-end
overflow_add-end c = omega (arith, c.length_at-len.ensures, within (goal.at.overflow_add-end c).Start)

pub slice_bounds-copy_in-end : goal.slice_bounds-copy_in-end
slice_bounds-copy_in-end c = omega (arith, c.length_at-len.ensures, within (goal.at.slice_bounds-copy_in-end c).Start)

pub returns : goal.returns
returns c = first_turn _ _ c.requires.0 _ _ _ _ c.requires.2 c.requires.3 _ _ c.length_at-len.ensures c.number_at-number.ensures _ refl _ c.copy_in.ensures c.class_at-class.result c.class_at-class.ensures _ c.mark.ensures
