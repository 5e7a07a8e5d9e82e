use Rattle.std.proofs.Common.{◌≡◌, ◌*◌}
use Rattle.octets.specs.Put.{put, cut}
use Rattle.octets.proofs.moves.slide_left.Given as goal

abbrev pub invariant-loop-i : goal.invariant-loop-i
invariant-loop-i l = l.s ≡ put l.initial.s l.to (cut l.from (64 * l.i) l.initial.s)
