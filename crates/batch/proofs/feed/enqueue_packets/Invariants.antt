use Rattle.std.proofs.Common.{◌-◌, length}
use Rattle.batch.specs.FeedLoop.{Inv}
use Rattle.batch.proofs.feed.enqueue_packets.Given as goal

abbrev pub invariant-loop-at : goal.invariant-loop-at
invariant-loop-at l = Inv l.initial.state.order l.initial.state l.requests l.initial.store l.initial.slots l.bytes l.state l.store l.slots l.at l.packets

abbrev pub decreases-loop-at : goal.decreases-loop-at
decreases-loop-at l = length l.bytes - l.at
