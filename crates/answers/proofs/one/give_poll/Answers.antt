use Rattle.std.proofs.Common.{refl, ap, ◌∙◌, Ok}
use Rattle.model.specs.Says.{says_poll_reply}
use Rattle.answers.specs.Exported.{kept_at, returned_passed}
use Rattle.answers.proofs.one.give_poll.Goals as goal

pub returns-in_err-next : goal.returns-in_err-next
returns-in_err-next c = kept_at says_poll_reply c.in_err-next.was refl (returned_passed _ _ c.from_residual.ensures.1) refl refl

pub returns-in-TryAgain : goal.returns-in-TryAgain
returns-in-TryAgain c = kept_at says_poll_reply (c.in_ok-next.was ∙ ap Ok c.in-TryAgain.is) refl refl refl c.put_kept.ensures

pub returns-in-NoReply : goal.returns-in-NoReply
returns-in-NoReply c = kept_at says_poll_reply (c.in_ok-next.was ∙ ap Ok c.in-NoReply.is) refl refl refl c.put_kept-in-NoReply.ensures

pub returns-in-Reply : goal.returns-in-Reply
returns-in-Reply c = kept_at says_poll_reply (c.in_ok-next.was ∙ ap Ok c.in-Reply.is) refl refl (rw c.from.ensures) c.put_kept-in-Reply.ensures
