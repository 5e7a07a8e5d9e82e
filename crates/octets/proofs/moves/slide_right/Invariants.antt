use Rattle.std.proofs.Common.{◌≡◌, ◌+◌, ◌-◌, ◌*◌}
use Rattle.octets.specs.Put.{put, cut}
use Rattle.octets.proofs.moves.slide_right.Given as goal

-- the bytes behind the first of i turns are in place
abbrev pub invariant-loop-i : goal.invariant-loop-i
invariant-loop-i l = l.s ≡ put l.initial.s (l.to + (l.rest + 64 * l.i)) (cut (l.from + (l.rest + 64 * l.i)) (l.n - (l.rest + 64 * l.i)) l.initial.s)
