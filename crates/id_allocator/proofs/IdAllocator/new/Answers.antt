use Rattle.std.proofs.Common.{eq-eqb, ne_eqb}
use Rattle.refusal.specs.Answer.{refuse}
use Rattle.id_allocator.specs.Ids.{new_ids}
use Rattle.id_allocator.proofs.IdAllocator.new.Goals as goal

pub returns-then-mask-eq0 : goal.returns-then-mask-eq0
unfolding new_ids refuse
returns-then-mask-eq0 c = simp (eq-eqb _ _ c.if-mask-eq0.true)

pub returns : goal.returns
unfolding new_ids refuse
returns c = simp (ne_eqb _ _ c.if-mask-eq0.false, c.lowest_bit-step.ensures)
