use Rattle.form.proofs.At.{behind_map}
use Rattle.saving.specs.Finding.{helds_short, helds_at}
use Rattle.saving.proofs.finding.held_at.Goals as goal

pub returns-then-room-lt-COUNT : goal.returns-then-room-lt-COUNT
returns-then-room-lt-COUNT c = helds_short _ (λ i. (c.type_inv.bytes i).fits) _ c.requires _ _ _ c.if-room-lt-COUNT.true

pub returns : goal.returns
returns c = behind_map (helds_at _ (λ i. (c.type_inv.bytes i).fits) _ c.requires _ _ _ c.if-room-lt-COUNT.false _ c.get_u32-count.ensures) _ c.rows_at.ensures
