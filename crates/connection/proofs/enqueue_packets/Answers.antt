use Rattle.refusal.specs.Answer.{refused}
use Rattle.std.proofs.Common.{arith}
use Rattle.batch.specs.FeedLaws.{feed_model}
use Rattle.model.specs.Promise.{promise_unsound, promise_sound}
use Rattle.model.specs.Sound.{sound_is}
use Rattle.connection.proofs.enqueue_packets.Goals as goal

pub returns-in_err-check : goal.returns-in_err-check
returns-in_err-check c = rw (refused c.from_residual.ensures.1 c.in_err-check.ensures.0) (promise_unsound _ _ _ _ _ (λ S. feed_model _ _ S _ (λ i. omega (arith, c.shared_slice_known-2-1.given i))) c.in_err-check.ensures.1)

pub enqueue_packets-requires : goal.enqueue_packets-requires
enqueue_packets-requires c = sound_is _ _ c.in_ok-check.ensures

pub returns : goal.returns
returns c = promise_sound _ _ _ _ _ (λ S. feed_model _ _ S _ (λ i. omega (arith, c.shared_slice_known-2-1.given i))) _ _ c.in_ok-check.ensures c.enqueue_packets.ensures.exact
