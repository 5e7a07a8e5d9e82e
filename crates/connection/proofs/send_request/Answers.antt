use Rattle.refusal.specs.Answer.{refused}
use Rattle.sending.specs.Theorems.{send_model}
use Rattle.model.specs.Promise.{promise_unsound, promise_sound}
use Rattle.model.specs.Sound.{sound_is, room_there}
use Rattle.connection.proofs.send_request.Goals as goal

pub returns-in_err-check : goal.returns-in_err-check
returns-in_err-check c = rw (refused c.from_residual.ensures.1 c.in_err-check.ensures.0) (promise_unsound _ _ _ _ _ (λ S. send_model _ _ S _) c.in_err-check.ensures.1)

pub send_request-requires : goal.send_request-requires
send_request-requires c = let S = sound_is _ _ c.in_ok-check.ensures in (S.numbers, room_there _ _ S)

pub returns : goal.returns
returns c = promise_sound _ _ _ _ _ (λ S. send_model _ _ S _) _ _ c.in_ok-check.ensures (c.send_request.ensures.exact _ _)
