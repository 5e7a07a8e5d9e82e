use Rattle.held.specs.Moves.{remove_left, remove_right}
use Rattle.std.proofs.Common.{arith}
use Rattle.held.proofs.moves.remove.Goals as goal

pub returns-then-end-next : goal.returns-then-end-next
returns-then-end-next c = remove_left _ _ _ _ (omega arith) c.slide.ensures

pub returns : goal.returns
returns c = remove_right _ _ _ _ (omega arith) c.slide-2.ensures
