use Rattle.saving.specs.Laying.{Filling}
use Rattle.saving.proofs.laying.Savepoint.fill_requests.Given as goal

abbrev pub invariant-loop-at : goal.invariant-loop-at
invariant-loop-at l = Filling l.bytes l.end l.initial.requests l.requests l.at
