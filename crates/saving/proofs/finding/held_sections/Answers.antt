use Rattle.std.proofs.Common.{refl, arith}
use Rattle.saving.specs.Finding.{no_replies, no_events, no_bytes, not_ended, tail_found}
use Rattle.saving.proofs.finding.held_sections.Goals as goal

pub returns-in_err-events : goal.returns-in_err-events
returns-in_err-events c = rw c.from_residual.ensures (no_replies _ (λ i. (c.type_inv.bytes i).fits) _ c.requires.1 _ c.get_u64-last.ensures _ c.in_err-events.ensures refl)

pub returns-in_err-partial : goal.returns-in_err-partial
returns-in_err-partial c = rw c.from_residual-in_err-partial.ensures (no_events _ (λ i. (c.type_inv.bytes i).fits) _ c.requires.1 _ c.get_u64-last.ensures _ c.in_ok-events.ensures.0 c.in_ok-events.ensures.1 _ c.in_err-partial.ensures refl)

pub returns-in_err-ids : goal.returns-in_err-ids
returns-in_err-ids c = rw c.from_residual-in_err-ids.ensures (no_bytes _ (λ i. (c.type_inv.bytes i).fits) _ c.requires.1 _ c.get_u64-last.ensures _ c.in_ok-events.ensures.0 c.in_ok-events.ensures.1 _ c.in_ok-partial.ensures.0 c.in_ok-partial.ensures.1 _ c.in_err-ids.ensures refl)

pub returns-in_err-numbers_at : goal.returns-in_err-numbers_at
returns-in_err-numbers_at c = rw c.from_residual-in_err-numbers_at.ensures (not_ended _ (λ i. (c.type_inv.bytes i).fits) _ c.requires.1 _ c.get_u64-last.ensures _ c.in_ok-events.ensures.0 c.in_ok-events.ensures.1 _ c.in_ok-partial.ensures.0 c.in_ok-partial.ensures.1 _ c.in_ok-ids.ensures.0 c.in_ok-ids.ensures.1 _ c.in_err-numbers_at.ensures (λ z. omega (arith, c.requires.0)))

pub returns-then-branch-bytes : goal.returns-then-branch-bytes
returns-then-branch-bytes c = not_ended _ (λ i. (c.type_inv.bytes i).fits) _ c.requires.1 _ c.get_u64-last.ensures _ c.in_ok-events.ensures.0 c.in_ok-events.ensures.1 _ c.in_ok-partial.ensures.0 c.in_ok-partial.ensures.1 _ c.in_ok-ids.ensures.0 c.in_ok-ids.ensures.1 _ c.in_ok-numbers_at.ensures.0 c.if-branch-bytes.true

pub returns : goal.returns
returns c = tail_found _ (λ i. (c.type_inv.bytes i).fits) _ c.requires.1 _ c.get_u64-last.ensures _ c.in_ok-events.ensures.0 c.in_ok-events.ensures.1 _ c.in_ok-partial.ensures.0 c.in_ok-partial.ensures.1 _ c.in_ok-ids.ensures.0 c.in_ok-ids.ensures.1 _ c.in_ok-numbers_at.ensures.0 c.requires.0 c.if-branch-bytes.false
