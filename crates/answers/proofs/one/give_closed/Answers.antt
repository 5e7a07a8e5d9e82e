use Rattle.std.proofs.Common.{refl}
use Rattle.model.specs.Says.{says_closed}
use Rattle.answers.specs.Exported.{kept_at, returned_passed}
use Rattle.answers.proofs.one.give_closed.Goals as goal

pub returns-in_err-closed : goal.returns-in_err-closed
returns-in_err-closed c = kept_at says_closed c.in_err-closed.was refl (returned_passed _ _ c.from_residual.ensures.1) refl refl

pub returns : goal.returns
returns c = kept_at says_closed c.in_ok-closed.was refl refl refl c.put_connection.ensures
