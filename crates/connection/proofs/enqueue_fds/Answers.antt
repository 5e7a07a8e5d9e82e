use Rattle.refusal.specs.Answer.{refused}
use Rattle.sending.specs.Theorems.{enqueue_model}
use Rattle.model.specs.Promise.{promise_unsound, promise_sound}
use Rattle.model.specs.Sound.{sound_is, slots_there}
use Rattle.connection.proofs.enqueue_fds.Goals as goal

pub returns-in_err-check : goal.returns-in_err-check
returns-in_err-check c = rw (refused c.from_residual.ensures.1 c.in_err-check.ensures.0) (promise_unsound _ _ _ _ _ (λ S. enqueue_model _ _ S _) c.in_err-check.ensures.1)

pub enqueue_fds-requires : goal.enqueue_fds-requires
enqueue_fds-requires c = slots_there _ _ (sound_is _ _ c.in_ok-check.ensures)

pub returns : goal.returns
returns c = promise_sound _ _ _ _ _ (λ S. enqueue_model _ _ S _) _ _ c.in_ok-check.ensures (c.enqueue_fds.ensures.exact _ _)
