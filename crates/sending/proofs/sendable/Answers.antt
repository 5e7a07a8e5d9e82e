use Rattle.refusal.specs.Answer.{passed_on}
use Rattle.sending.specs.SendLaws.{going_refused, going_full, going_under}
use Rattle.sending.proofs.sendable.Goals as goal

pub returns-then-c : goal.returns-then-c
returns-then-c c = going_full _ _ _ c.has_reply.ensures _ c.in_ok-going.ensures c.if-c.true

pub returns : goal.returns
returns c = going_under _ _ _ c.has_reply.ensures _ c.in_ok-going.ensures c.if-c.false

pub returns-in_err-going : goal.returns-in_err-going
returns-in_err-going c = rw (passed_on c.from_residual.ensures.1) (going_refused _ _ _ c.has_reply.ensures _ c.in_err-going.ensures)
