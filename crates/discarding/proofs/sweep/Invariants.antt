use Rattle.discarding.specs.Steps.{Sweeping}
use Rattle.discarding.proofs.sweep.Given as goal

abbrev pub invariant-loop-i : goal.invariant-loop-i
invariant-loop-i l = Sweeping l.number l.mode l.count l.initial.rest l.initial.store l.rest l.store l.fds l._i
