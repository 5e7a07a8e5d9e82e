use Rattle.std.proofs.Common.{◌≡◌, length}
use Rattle.text.proofs.page.Page.pairs.Given as goal

abbrev pub invariant-loop-i : goal.invariant-loop-i
invariant-loop-i g l = length l.self.run.now ≡ length l.fn.self.run.now
