use Rattle.std.proofs.Common.{refl}
use Rattle.model.specs.Says.{says_enqueued}
use Rattle.answers.specs.Exported.{kept_at, returned_passed}
use Rattle.answers.proofs.one.give_enqueued.Goals as goal

pub returns-in_err-filed : goal.returns-in_err-filed
returns-in_err-filed c = kept_at says_enqueued c.in_err-filed.was refl (returned_passed _ _ c.from_residual.ensures.1) refl refl

pub returns : goal.returns
returns c = kept_at says_enqueued c.in_ok-filed.was refl refl (rw (c.place_number.ensures, c.from.ensures)) c.put_kept.ensures
