use Rattle.refusal.specs.Answer.{refused}
use Rattle.std.proofs.Common.{arith}
use Rattle.intake.specs.Theorems.{takeable, enqueue_model}
use Rattle.model.specs.Promise.{promise_unsound, promise_sound}
use Rattle.model.specs.Sound.{sound_is}
use Rattle.connection.proofs.enqueue_packet.Goals as goal

pub returns-in_err-check : goal.returns-in_err-check
returns-in_err-check c = rw (refused c.from_residual.ensures.1 c.in_err-check.ensures.0) (promise_unsound _ _ _ _ _ (λ S. enqueue_model _ _ S _ (omega (arith, c.shared_slice_known-2-1.given 1))) c.in_err-check.ensures.1)

pub enqueue_packet-requires : goal.enqueue_packet-requires
enqueue_packet-requires c = takeable _ _ (sound_is _ _ c.in_ok-check.ensures)

pub returns : goal.returns
returns c = promise_sound _ _ _ _ _ (λ S. enqueue_model _ _ S _ (omega (arith, c.shared_slice_known-2-1.given 1))) _ _ c.in_ok-check.ensures c.enqueue_packet.ensures.exact
