use Rattle.saving.specs.Finding.{none_planned, bounds, bad_planned, good_planned}
use Rattle.std.proofs.Common.{refl, ap, not}
use Rattle.saving.specs.Laid.{places}
use Rattle.saving.proofs.finding.found.Goals as goal

pub returns-in_err-plan : goal.returns-in_err-plan
returns-in_err-plan c = rw c.from_residual.ensures (none_planned _ (λ i. (c.type_inv.bytes i).fits) c.in_err-plan.ensures)

pub in_range-requires : goal.in_range-requires
in_range-requires c = bounds _ (λ i. (c.type_inv.bytes i).fits) _ c.in_ok-plan.ensures.0

pub returns-then-not-in_range : goal.returns-then-not-in_range
returns-then-not-in_range c = bad_planned _ _ c.in_ok-plan.ensures _ c.in_range.ensures (ap not c.if-not-in_range.true)

pub invariant_of-result : goal.invariant_of-result
invariant_of-result c = record { places = places (good_planned _ _ c.in_ok-plan.ensures _ c.in_range.ensures (ap not c.if-not-in_range.false)) }

pub returns : goal.returns
returns c = (refl, good_planned _ _ c.in_ok-plan.ensures _ c.in_range.ensures (ap not c.if-not-in_range.false))
