use Rattle.std.proofs.Common.{◌∙◌, arith}
use Rattle.held.specs.Walk.{walk_unsound, walk_enter}
use Rattle.held.proofs.soundness.walk.Goals as goal

pub returns-then-store-gt-MOST_STORE : goal.returns-then-store-gt-MOST_STORE
returns-then-store-gt-MOST_STORE c = walk_unsound _ _ _ (λ h. omega (arith, h.readable.room))

pub returns-then-store-window : goal.returns-then-store-window
returns-then-store-window c = walk_unsound _ _ _ (λ h. omega (arith, h.readable.within))

pub returns-then-window : goal.returns-then-window
returns-then-window c = walk_unsound _ _ _ (λ h. omega (arith, h.readable.order))

pub returns : goal.returns
returns c = c.records.ensures ∙ walk_enter _ _ _ (omega arith) (omega arith) (omega arith)
