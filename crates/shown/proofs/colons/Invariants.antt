use Rattle.std.proofs.Common.{◌≡◌, length}
use Rattle.shown.proofs.colons.Given as goal

abbrev pub invariant-loop-fd : goal.invariant-loop-fd
invariant-loop-fd g l = length l.page.run.now ≡ length l.fn.page.run.now
