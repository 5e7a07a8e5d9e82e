use Rattle.held.specs.Moves.{stays_empty, stays_short, stays_behind}
use Rattle.std.proofs.Common.{arith}
use Rattle.held.proofs.moves.stays.Goals as goal

pub returns-then-window : goal.returns-then-window
returns-then-window c = stays_empty _ _ _ c.if-window.true

pub returns-then-store-window : goal.returns-then-store-window
returns-then-store-window c = stays_short _ _ _ (omega arith) (omega arith)

pub returns : goal.returns
returns c = stays_behind _ _ _ (omega arith) (omega arith)
