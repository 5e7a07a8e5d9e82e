use Rattle.octets.specs.Put.{cut}
use Rattle.saving.specs.Codes.{all_each, requests_none, run_order, requests_wrong, requests_good}
use Rattle.std.proofs.Common.{ap, ◌∙◌, not, arith}
use Rattle.saving.proofs.finding.requests_at.Goals as goal

pub returns-in_err-end : goal.returns-in_err-end
returns-in_err-end c = rw c.from_residual.ensures (requests_none _ (λ i. (c.type_inv.bytes i).fits) _ c.in_err-end.ensures)

pub slice_bounds-are_codes-count : goal.slice_bounds-are_codes-count
slice_bounds-are_codes-count c = omega (arith, (run_order _ (λ i. (c.type_inv.bytes i).fits) _ c.requires _ c.in_ok-end.ensures.0 c.in_ok-end.ensures.1).0)

pub slice_bounds-are_codes-start : goal.slice_bounds-are_codes-start
slice_bounds-are_codes-start c = omega (arith, (run_order _ (λ i. (c.type_inv.bytes i).fits) _ c.requires _ c.in_ok-end.ensures.0 c.in_ok-end.ensures.1).0)

pub returns-then-not-are_codes : goal.returns-then-not-are_codes
unfolding cut
returns-then-not-are_codes c = requests_wrong _ (λ i. (c.type_inv.bytes i).fits) _ c.requires _ c.in_ok-end.ensures.0 c.in_ok-end.ensures.1 _ (c.are_codes.ensures ∙ all_each _ _) (ap not c.if-not-are_codes.true)

pub returns : goal.returns
unfolding cut
returns c = (requests_good _ (λ i. (c.type_inv.bytes i).fits) _ c.requires _ c.in_ok-end.ensures.0 c.in_ok-end.ensures.1 _ (c.are_codes.ensures ∙ all_each _ _) (ap not c.if-not-are_codes.false), c.in_ok-end.ensures.1)
