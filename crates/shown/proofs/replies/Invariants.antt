use Rattle.std.proofs.Common.{◌≡◌, length}
use Rattle.shown.proofs.replies.Given as goal

abbrev pub invariant-loop-record : goal.invariant-loop-record
invariant-loop-record g l = length l.page.run.now ≡ length l.fn.page.run.now
