use Rattle.std.proofs.Common.{refl}
use Rattle.model.specs.Feed.{says_fed}
use Rattle.answers.specs.Exported.{kept_at, returned_passed}
use Rattle.answers.proofs.many.give_fed.Goals as goal

pub returns-in_err-fed : goal.returns-in_err-fed
returns-in_err-fed c = kept_at says_fed c.in_err-fed.was refl (returned_passed _ _ c.from_residual.ensures.1) refl refl

pub returns : goal.returns
returns c = kept_at says_fed c.in_ok-fed.was refl refl (rw c.halt_number.ensures) c.put_connection.ensures
