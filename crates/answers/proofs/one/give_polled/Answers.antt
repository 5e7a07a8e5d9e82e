use Rattle.std.proofs.Common.{refl}
use Rattle.model.specs.Says.{says_polled, polled_is}
use Rattle.answers.specs.Exported.{kept_at, returned_passed}
use Rattle.answers.proofs.one.give_polled.Goals as goal

pub returns-in_err-polled : goal.returns-in_err-polled
returns-in_err-polled c = kept_at says_polled c.in_err-polled.was refl (returned_passed _ _ c.from_residual.ensures.1) refl refl

pub returns-in-Some : goal.returns-in-Some
returns-in-Some c = kept_at says_polled (polled_is c.in_ok-polled.was c.in-Some.is) refl refl (rw c.from.ensures) c.put_kept.ensures

pub returns-in-None : goal.returns-in-None
returns-in-None c = kept_at says_polled (polled_is c.in_ok-polled.was c.in-None.is) refl refl refl c.put_kept.ensures
