use Rattle.std.proofs.Common.{sym, ◌∙◌}
use Rattle.xiengmado.specs.ExportsSavepoint.{restores_on, restores_off}
use Rattle.xiengmado.proofs.savepoints.xm_restore.Goals as goal

pub returns-then-not-fit : goal.returns-then-not-fit
returns-then-not-fit c = restores_off _ (sym (c.if-not-fit.true) ∙ c.fit.ensures) c.restore-none.ensures c.give_client.ensures

pub returns : goal.returns
returns c = restores_on (sym (c.if-not-fit.false) ∙ c.fit.ensures) c.restore-answer.ensures c.give_client-2.ensures
