use Rattle.std.proofs.Common.{refl}
use Rattle.saving.specs.Finding.{no_numbers, no_settings, no_requests, requests_within, all_found}
use Rattle.saving.proofs.finding.sections.Goals as goal

pub returns-in_err-settings : goal.returns-in_err-settings
returns-in_err-settings c = rw c.from_residual.ensures (no_numbers _ (λ i. (c.type_inv.bytes i).fits) _ c.in_err-settings.ensures refl)

pub returns-in_err-requests : goal.returns-in_err-requests
returns-in_err-requests c = rw c.from_residual-in_err-requests.ensures (no_settings _ (λ i. (c.type_inv.bytes i).fits) _ c.in_ok-settings.ensures.0 c.in_ok-settings.ensures.1 _ c.in_err-requests.ensures refl)

pub returns-in_err-replies : goal.returns-in_err-replies
returns-in_err-replies c = rw c.from_residual-in_err-replies.ensures (no_requests _ (λ i. (c.type_inv.bytes i).fits) _ c.in_ok-settings.ensures.0 c.in_ok-settings.ensures.1 _ c.in_ok-requests.ensures.0 c.in_ok-requests.ensures.1 _ c.in_err-replies.ensures refl)

pub held_sections-requires : goal.held_sections-requires
held_sections-requires c = requests_within _ (λ i. (c.type_inv.bytes i).fits) _ c.in_ok-settings.ensures.0 c.in_ok-settings.ensures.1 _ c.in_ok-requests.ensures.0 c.in_ok-requests.ensures.1 _ c.in_ok-replies.ensures.0 c.in_ok-replies.ensures.1

pub returns : goal.returns
returns c = all_found _ (λ i. (c.type_inv.bytes i).fits) _ c.in_ok-settings.ensures.0 c.in_ok-settings.ensures.1 _ c.in_ok-requests.ensures.0 c.in_ok-requests.ensures.1 _ c.in_ok-replies.ensures.0 c.in_ok-replies.ensures.1 _ c.held_sections.ensures
