use Rattle.refusal.specs.Answer.{refused}
use Rattle.sending.specs.Theorems.{close_model}
use Rattle.connection.specs.Laws.{hands_unsound, hands_sound}
use Rattle.model.specs.Sound.{sound_is, slots_there}
use Rattle.connection.proofs.take_closed_fds.Goals as goal

pub returns-in_err-check : goal.returns-in_err-check
returns-in_err-check c = rw (refused c.from_residual.ensures.1 c.in_err-check.ensures.0) (hands_unsound _ _ _ _ _ _ _ (λ S. close_model _ _ S _) c.in_err-check.ensures.1)

pub take_closed_fds-requires : goal.take_closed_fds-requires
take_closed_fds-requires c = slots_there _ _ (sound_is _ _ c.in_ok-check.ensures)

pub returns : goal.returns
returns c = hands_sound _ _ _ _ _ _ _ (λ S. close_model _ _ S _) _ _ _ c.in_ok-check.ensures (c.take_closed_fds.ensures.exact _ _) (c.take_closed_fds.ensures.output _ _)
