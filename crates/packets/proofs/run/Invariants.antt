use Rattle.std.proofs.Common.{◌≤◌, length}
use Rattle.packets.proofs.run.Given as goal

abbrev pub invariant-loop : goal.invariant-loop
invariant-loop g l = l.held ≤ length l.buf
