use Rattle.discarding.specs.Steps.{mode_below, mode_past, mode_set_lem}
use Rattle.discarding.proofs.set_mode.Goals as goal

pub returns-then-number-c : goal.returns-then-number-c
returns-then-number-c c = mode_below _ _ _ _ c.if-number-c.true

pub returns-then-c-number : goal.returns-then-c-number
returns-then-c-number c = mode_past _ _ _ _ c.if-number-c.false c.if-c-number.true

pub returns : goal.returns
returns c = mode_set_lem _ _ _ _ _ _ c.if-number-c.false c.if-c-number.false c.from.ensures c.put_mode.ensures
