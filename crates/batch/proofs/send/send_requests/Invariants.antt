use Rattle.batch.specs.SendLaws.{Inv}
use Rattle.batch.proofs.send.send_requests.Given as goal

abbrev pub invariant-loop-i : goal.invariant-loop-i
invariant-loop-i l = Inv l.initial.state l.initial.requests l.kinds l.state l.requests l.i
