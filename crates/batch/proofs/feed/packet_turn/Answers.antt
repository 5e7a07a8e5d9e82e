use Rattle.batch.specs.FeedLoop.{packet_on, packet_halted}
use Rattle.refusal.specs.Answer.{passed_on}
use Rattle.batch.proofs.feed.packet_turn.Goals as goal

pub returns : goal.returns
returns c = packet_on _ _ _ _ _ _ _ _ c.enqueue_packet.ensures _ _ _ _ c.in_ok-enqueued.was

pub returns-in_err-enqueued : goal.returns-in_err-enqueued
returns-in_err-enqueued c = rw (passed_on c.from_residual.ensures.1) (packet_halted _ _ _ _ _ _ _ _ c.enqueue_packet.ensures _ c.in_err-enqueued.was)
