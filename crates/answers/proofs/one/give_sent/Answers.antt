use Rattle.std.proofs.Common.{refl}
use Rattle.model.specs.Says.{says_sent}
use Rattle.answers.specs.Exported.{kept_at, returned_passed}
use Rattle.answers.proofs.one.give_sent.Goals as goal

pub returns-in_err-sent : goal.returns-in_err-sent
returns-in_err-sent c = kept_at says_sent c.in_err-sent.was refl (returned_passed _ _ c.from_residual.ensures.1) refl refl

pub returns : goal.returns
returns c = kept_at says_sent c.in_ok-sent.was refl refl refl c.put_sent.ensures
