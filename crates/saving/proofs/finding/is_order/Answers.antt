use Rattle.saving.specs.Finding.{order_wide}
use Rattle.saving.proofs.finding.is_order.Goals as goal

pub returns-then-n-gt255 : goal.returns-then-n-gt255
returns-then-n-gt255 c = order_wide _ c.if-n-gt255.true
