use Rattle.refusal.specs.Answer.{refused}
use Rattle.polling.specs.Theorems.{taken_model}
use Rattle.connection.specs.Laws.{polls_unsound, polls_sound}
use Rattle.model.specs.Sound.{sound_is, ready}
use Rattle.connection.proofs.poll_for_reply_or_error.Goals as goal

pub returns-in_err-check : goal.returns-in_err-check
returns-in_err-check c = rw (refused c.from_residual.ensures.1 c.in_err-check.ensures.0) (polls_unsound _ _ _ _ _ (λ S. taken_model _ _ S _ _ _) c.in_err-check.ensures.1)

pub poll_for_reply_or_error-requires : goal.poll_for_reply_or_error-requires
poll_for_reply_or_error-requires c = ready _ _ (sound_is _ _ c.in_ok-check.ensures)

pub returns : goal.returns
returns c = polls_sound _ _ _ _ _ (λ S. taken_model _ _ S _ _ _) _ _ _ _ c.in_ok-check.ensures (c.poll_for_reply_or_error.ensures.exact _) (c.poll_for_reply_or_error.ensures.output _) (c.poll_for_reply_or_error.ensures.places _)
