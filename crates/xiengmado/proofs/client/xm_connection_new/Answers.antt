use Rattle.answers.specs.Exported.{kept_off, kept_on, on, off}
use Rattle.std.proofs.Common.{eq-eqb, ne_eqb}
use Rattle.xiengmado.proofs.client.xm_connection_new.Goals as goal

pub returns-then-state-ne-CONNECTION : goal.returns-then-state-ne-CONNECTION
returns-then-state-ne-CONNECTION c = kept_off (off (ne_eqb _ _ c.if-state-ne-CONNECTION.true) tt)

pub returns : goal.returns
returns c = kept_on c.give_next.ensures (on (eq-eqb _ _ c.if-state-ne-CONNECTION.false) c.new-answer.ensures)
