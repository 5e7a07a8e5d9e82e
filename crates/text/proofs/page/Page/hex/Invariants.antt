use Rattle.std.proofs.Common.{◌≡◌, length}
use Rattle.text.proofs.page.Page.hex.Given as goal

abbrev pub invariant-loop-x : goal.invariant-loop-x
invariant-loop-x g l = length l.self.run.now ≡ length l.fn.self.run.now
