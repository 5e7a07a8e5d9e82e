use Rattle.std.proofs.Common.{arith}
use Rattle.form.proofs.At.{run_none, run_some}
use Rattle.saving.proofs.finding.run_at.Goals as goal

pub returns-then-room-lt-COUNT : goal.returns-then-room-lt-COUNT
returns-then-room-lt-COUNT c = run_none _ (λ i. (c.type_inv.bytes i).fits) _ (omega arith) (λ w. omega arith)

pub returns-then-room-count : goal.returns-then-room-count
returns-then-room-count c = run_none _ (λ i. (c.type_inv.bytes i).fits) _ (omega arith) (λ w. omega (arith, c.get_u32-count.ensures))

pub returns : goal.returns
returns c = (run_some _ (λ i. (c.type_inv.bytes i).fits) _ (omega arith) _ c.get_u32-count.ensures (omega arith), λ z. omega arith)
