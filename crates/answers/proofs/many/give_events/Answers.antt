use Rattle.std.proofs.Common.{refl}
use Rattle.model.specs.SaysBatch.{says_events}
use Rattle.answers.specs.Exported.{kept_at, returned_passed}
use Rattle.answers.proofs.many.give_events.Goals as goal

pub returns-in_err-events : goal.returns-in_err-events
returns-in_err-events c = kept_at says_events c.in_err-events.was refl (returned_passed _ _ c.from_residual.ensures.1) refl refl

pub returns : goal.returns
returns c = kept_at says_events c.in_ok-events.was refl refl (rw c.stop_number.ensures) c.put_connection.ensures
