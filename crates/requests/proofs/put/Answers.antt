use Rattle.requests.specs.Room.{capacity, put_request}
use Rattle.requests.proofs.put.Goals as goal

pub slot-at-requires : goal.slot-at-requires
unfolding capacity
slot-at-requires c = c.requires

pub returns : goal.returns
unfolding put_request
returns c = simp (c.from.ensures, c.slot-at.ensures.0)
