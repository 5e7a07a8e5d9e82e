use Rattle.std.proofs.Common.{sym, ◌∙◌}
use Rattle.saving.specs.Laying.{other_requests, other_store, other_slots, same_buffer}
use Rattle.saving.proofs.laying.Savepoint.fits.Goals as goal

pub returns-then-capacity-number : goal.returns-then-capacity-number
returns-then-capacity-number c = other_requests _ _ _ (λ e. c.if-capacity-number.true (c.capacity.ensures ∙ e ∙ sym c.number.ensures))

pub returns-then-store-number : goal.returns-then-store-number
returns-then-store-number c = other_store _ _ _ (sym c.capacity.ensures ∙ c.if-capacity-number.false ∙ c.number.ensures) (λ e. c.if-store-number.true (e ∙ sym c.number-2.ensures))

pub returns-then-slots-ne-MOST_DESCRIPTORS : goal.returns-then-slots-ne-MOST_DESCRIPTORS
returns-then-slots-ne-MOST_DESCRIPTORS c = other_slots _ _ _ (sym c.capacity.ensures ∙ c.if-capacity-number.false ∙ c.number.ensures) (c.if-store-number.false ∙ c.number-2.ensures) c.if-slots-ne-MOST_DESCRIPTORS.true

pub returns : goal.returns
returns c = same_buffer _ _ _ (sym c.capacity.ensures ∙ c.if-capacity-number.false ∙ c.number.ensures) (c.if-store-number.false ∙ c.number-2.ensures) c.if-slots-ne-MOST_DESCRIPTORS.false _ c.number-3.ensures
