use Rattle.std.proofs.Common.{◌-◌, length}
use Rattle.listing.specs.Loop.{Inv}
use Rattle.listing.proofs.lines.lines.Given as goal

abbrev pub invariant-loop-out : goal.invariant-loop-out
invariant-loop-out l = Inv l.over l.bytes l.initial.out l.initial.read.0 l.out l.read.0 l.used l.end

abbrev pub decreases-loop-out : goal.decreases-loop-out
decreases-loop-out l = length l.bytes - l.used
