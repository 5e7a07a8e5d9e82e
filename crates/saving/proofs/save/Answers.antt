use Rattle.refusal.specs.Answer.{passed_on}
use Rattle.saving.specs.Measuring.{save_refused, save_short, save_ready, save_done}
use Rattle.saving.proofs.save.Goals as goal

pub returns-in_err-n : goal.returns-in_err-n
returns-in_err-n c = rw (passed_on c.from_residual.ensures.1) (save_refused _ _ _ c.in_err-n.ensures)

pub returns-then-out-n : goal.returns-then-out-n
returns-then-out-n c = save_short _ _ _ c.in_ok-n.ensures c.if-out-n.true

pub write-requires : goal.write-requires
write-requires c = save_ready _ _ _ c.in_ok-n.ensures c.if-out-n.false

pub returns : goal.returns
returns c = save_done _ _ _ c.in_ok-n.ensures c.if-out-n.false _ (c.write.ensures _)
