use Rattle.std.proofs.Common.{sym, ◌∙◌, arith}
use Rattle.form.proofs.At.{numbers_none, numbers_some}
use Rattle.saving.proofs.finding.numbers_at.Goals as goal

pub returns-then-room-k : goal.returns-then-room-k
returns-then-room-k c = numbers_none _ (λ i. (c.type_inv.bytes i).fits) _ (omega arith) _ (λ e w. omega arith)

pub returns-then-count-k : goal.returns-then-count-k
returns-then-count-k c = numbers_none _ (λ i. (c.type_inv.bytes i).fits) _ (omega arith) _ (λ e w. c.if-count-k.true (c.get_u32-count.ensures ∙ e))

pub returns : goal.returns
returns c = (numbers_some _ (λ i. (c.type_inv.bytes i).fits) _ (omega arith) _ (omega arith) (sym c.get_u32-count.ensures ∙ c.if-count-k.false) (omega arith), λ z. omega arith)
