use Rattle.refusal.specs.Answer.{refused}
use Rattle.polling.specs.Theorems.{checked_model}
use Rattle.connection.specs.Laws.{hands_unsound, hands_sound}
use Rattle.model.specs.Sound.{sound_is, ready}
use Rattle.connection.proofs.poll_check_for_reply_or_error.Goals as goal

pub returns-in_err-check : goal.returns-in_err-check
returns-in_err-check c = rw (refused c.from_residual.ensures.1 c.in_err-check.ensures.0) (hands_unsound _ _ _ _ _ _ _ (λ S. checked_model _ _ S _ _) c.in_err-check.ensures.1)

pub poll_check-requires : goal.poll_check-requires
poll_check-requires c = ready _ _ (sound_is _ _ c.in_ok-check.ensures)

pub returns : goal.returns
returns c = hands_sound _ _ _ _ _ _ _ (λ S. checked_model _ _ S _ _) _ _ _ c.in_ok-check.ensures (c.poll_check.ensures.exact _) (c.poll_check.ensures.output _)
