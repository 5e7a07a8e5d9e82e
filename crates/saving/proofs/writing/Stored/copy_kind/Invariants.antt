use Rattle.std.proofs.Common.{◌-◌}
use Rattle.octets.specs.Put.{cut}
use Rattle.held.specs.Reading.{read_all}
use Rattle.saving.specs.WritingRows.{Inv}
use Rattle.saving.proofs.writing.Stored.copy_kind.Given as goal

abbrev pub invariant-loop-at : goal.invariant-loop-at
invariant-loop-at l = Inv l.initial.out l.start l.store l.kind l.end (read_all (cut l.initial.at (l.end - l.initial.at) l.store)) l.out l.at l.passed.end l.passed.count l.passed.all

abbrev pub decreases-loop-at : goal.decreases-loop-at
decreases-loop-at l = l.end - l.at
