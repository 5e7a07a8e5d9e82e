use Rattle.std.proofs.Common.{refl}
use Rattle.model.specs.SaysBatch.{says_sent_many}
use Rattle.answers.specs.Exported.{kept_at, returned_passed}
use Rattle.answers.proofs.many.give_sent_many.Goals as goal

pub returns-in_err-sent : goal.returns-in_err-sent
returns-in_err-sent c = kept_at says_sent_many c.in_err-sent.was refl (returned_passed _ _ c.from_residual.ensures.1) refl refl

pub returns : goal.returns
returns c = kept_at says_sent_many c.in_ok-sent.was refl refl (rw c.stop_number.ensures) c.put_connection.ensures
