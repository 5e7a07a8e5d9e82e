use Rattle.std.proofs.Common.{◌≡◌, length}
use Rattle.text.proofs.page.Page.first.Given as goal

abbrev pub invariant-loop-n : goal.invariant-loop-n
invariant-loop-n g l = length l.self.run.now ≡ length l.fn.self.run.now
