use Rattle.refusal.specs.Answer.{passed_on}
use Rattle.sending.specs.SendLaws.{send_refused, send_done}
use Rattle.sending.proofs.send_request.Goals as goal

pub returns : goal.returns
returns c = send_done _ _ _ _ _ _ c.in_ok-going.ensures c.send_under-connection.ensures

pub returns-in_err-going : goal.returns-in_err-going
returns-in_err-going c = rw (passed_on c.from_residual.ensures.1) (send_refused _ _ _ _ c.in_err-going.ensures)
