use Rattle.refusal.specs.Answer.{refused}
use Rattle.model.specs.Reading.{reads}
use Rattle.model.specs.Model.{prepare_check}
use Rattle.model.specs.Promise.{guarded_on, guarded_off}
use Rattle.std.proofs.Common.{sym}
use Rattle.connection.proofs.prepare_check_for_reply_or_error.Goals as goal

pub returns-in_err-check : goal.returns-in_err-check
returns-in_err-check c = rw (refused c.from_residual.ensures.1 c.in_err-check.ensures.0) (sym (guarded_off _ _ _ c.in_err-check.ensures.1))

pub returns : goal.returns
unfolding prepare_check reads
returns c = sym (guarded_on _ _ _ c.in_ok-check.ensures)
