use Rattle.std.proofs.Common.{◌≡◌, ◌*◌}
use Rattle.octets.specs.Put.{put, cut}
use Rattle.octets.proofs.moves.copy_in.Given as goal

abbrev pub invariant-loop-i : goal.invariant-loop-i
invariant-loop-i l = l.dst ≡ put l.initial.dst l.at (cut 0 (64 * l.i) l.src)
