use Rattle.std.proofs.Common.{◌-◌, drop}
use Rattle.saving.specs.Records.{checked, Inv}
use Rattle.saving.proofs.finding.rows_at.Given as goal

abbrev pub invariant-loop : goal.invariant-loop
invariant-loop l = Inv l.bytes l.rising l.kind l.last (checked l.rising l.kind 0 l.last l.count (drop l.start l.bytes)) l.at (l.count - l.counter) l.from
