use Rattle.std.proofs.Common.{◌-◌, ◌*◌, length}
use Rattle.batch.specs.EventsLoop.{Inv}
use Rattle.batch.proofs.events.poll_for_events.Given as goal

abbrev pub invariant-loop-store : goal.invariant-loop-store
invariant-loop-store l = Inv l.initial.state l.initial.store l.initial.out l.initial.marks l.state l.store l.out l.marks l.used l.count

abbrev pub decreases-loop-store : goal.decreases-loop-store
decreases-loop-store l = length l.initial.marks - 3 * l.count
