use Rattle.std.proofs.Common.{◌≡◌, length}
use Rattle.shown.proofs.runs.Given as goal

abbrev pub invariant-loop-number : goal.invariant-loop-number
invariant-loop-number g l = length l.page.run.now ≡ length l.fn.page.run.now
