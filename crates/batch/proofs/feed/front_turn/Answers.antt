use Rattle.std.proofs.Common.{sym, length-take-le}
use Rattle.batch.specs.FeedLoop.{front_end, front_partial, front_over, front_fits, front_packet}
use Rattle.batch.proofs.feed.front_turn.Goals as goal

pub slice_bounds-packet_turn-end : goal.slice_bounds-packet_turn-end
slice_bounds-packet_turn-end c = sym (length-take-le _ _ (front_fits _ _ _ c.front.ensures _ _ c.in-Whole.is))

pub returns-in-Nothing : goal.returns-in-Nothing
returns-in-Nothing c = front_end _ _ _ _ _ _ _ c.front.ensures c.in-Nothing.is

pub returns-in-Part : goal.returns-in-Part
returns-in-Part c = front_partial _ _ _ _ _ _ _ c.front.ensures c.in-Part.is

pub returns-in-Long : goal.returns-in-Long
returns-in-Long c = front_over _ _ _ _ _ _ _ c.front.ensures c.in-Long.is

pub returns-in-Whole : goal.returns-in-Whole
returns-in-Whole c = front_packet _ _ _ _ _ _ _ c.front.ensures _ _ c.in-Whole.is _ _ _ c.packet_turn.ensures
