use Rattle.std.proofs.Common.{◌≡◌}
use Rattle.octets.specs.Put.{put, cut}
use Rattle.descriptors.proofs.moves.copy.Given as goal

abbrev pub invariant-loop-i : goal.invariant-loop-i
invariant-loop-i l = l.dst ≡ put l.initial.dst l.to (cut l.from l.i l.src)
