use Rattle.std.proofs.Common.{ap, ◌∙◌, arith, not}
use Rattle.id_allocator.specs.Ids.{sound}
use Rattle.saving.specs.Finding.{numbers_under, range_used, range_numbers, range_partial, range_ids}
use Rattle.saving.proofs.finding.in_range.Goals as goal

pub returns-then-get_u64-used : goal.returns-then-get_u64-used
returns-then-get_u64-used c = λ f K. range_used _ (λ i. (c.type_inv.bytes i).fits) _ f K (omega (arith, c.get_u64.ensures))

pub returns-then-not-numbers_in_range : goal.returns-then-not-numbers_in_range
returns-then-not-numbers_in_range c = λ f K. range_numbers _ (λ i. (c.type_inv.bytes i).fits) _ f K (omega (arith, c.get_u64.ensures)) _ (numbers_under _ _ _ _ (omega arith) c.numbers_in_range.ensures) (ap not c.if-not-numbers_in_range.true)

pub returns-then-not-partial_in_range : goal.returns-then-not-partial_in_range
returns-then-not-partial_in_range c = λ f K. range_partial _ (λ i. (c.type_inv.bytes i).fits) _ f K (omega (arith, c.get_u64.ensures)) _ (numbers_under _ _ _ _ (omega arith) c.numbers_in_range.ensures) (ap not c.if-not-numbers_in_range.false) _ c.partial_in_range.ensures (ap not c.if-not-partial_in_range.true)

pub returns : goal.returns
returns c = λ f K. range_ids _ (λ i. (c.type_inv.bytes i).fits) _ f K (omega (arith, c.get_u64.ensures)) _ (numbers_under _ _ _ _ (omega arith) c.numbers_in_range.ensures) (ap not c.if-not-numbers_in_range.false) _ c.partial_in_range.ensures (ap not c.if-not-partial_in_range.false) _ (c.is_sound.ensures ∙ ap sound c.ids_of.ensures)
