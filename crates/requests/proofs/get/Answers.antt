use Rattle.requests.specs.Room.{capacity, byte_at, request_at}
use Rattle.requests.proofs.get.Goals as goal

pub slot-at-requires : goal.slot-at-requires
unfolding capacity
slot-at-requires c = c.requires

pub returns : goal.returns
unfolding request_at byte_at
returns c = simp (c.from.ensures, c.slot-at.ensures.0)
