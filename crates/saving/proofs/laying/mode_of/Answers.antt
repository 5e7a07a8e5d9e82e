use Rattle.std.proofs.Common.{arith}
use Rattle.saving.specs.Laying.{mode_keep, mode_reply, mode_all}
use Rattle.saving.proofs.laying.mode_of.Goals as goal

pub returns-in-0 : goal.returns-in-0
returns-in-0 c = mode_keep _ c.in-0.is

pub returns-in-1 : goal.returns-in-1
returns-in-1 c = mode_reply _ c.in-1.is

pub returns-in_default : goal.returns-in_default
returns-in_default c = mode_all _ (λ z. omega arith) (λ z. omega arith)
