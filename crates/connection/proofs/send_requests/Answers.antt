use Rattle.refusal.specs.Answer.{refused}
use Rattle.batch.specs.Theorems.{sends_model}
use Rattle.model.specs.Promise.{promise_unsound, promise_sound}
use Rattle.model.specs.Sound.{sound_is}
use Rattle.connection.proofs.send_requests.Goals as goal

pub returns-in_err-check : goal.returns-in_err-check
returns-in_err-check c = rw (refused c.from_residual.ensures.1 c.in_err-check.ensures.0) (promise_unsound _ _ _ _ _ (λ S. sends_model _ _ S _) c.in_err-check.ensures.1)

pub send_requests-requires : goal.send_requests-requires
send_requests-requires c = record { store = _; slots = _; sound = sound_is _ _ c.in_ok-check.ensures }

pub returns : goal.returns
returns c = promise_sound _ _ _ _ _ (λ S. sends_model _ _ S _) _ _ c.in_ok-check.ensures (c.send_requests.ensures.exact _ _)
