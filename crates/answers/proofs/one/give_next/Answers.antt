use Rattle.std.proofs.Common.{refl}
use Rattle.model.specs.Says.{says_next}
use Rattle.answers.specs.Exported.{kept_at, returned_passed}
use Rattle.answers.proofs.one.give_next.Goals as goal

pub returns-in_err-answer : goal.returns-in_err-answer
returns-in_err-answer c = kept_at says_next c.in_err-answer.was refl (returned_passed _ _ c.from_residual.ensures.1) refl refl

pub returns : goal.returns
returns c = kept_at says_next c.in_ok-answer.was refl refl refl c.put_connection.ensures
