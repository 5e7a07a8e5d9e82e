use Rattle.requests.specs.Room.{request_of}
use Rattle.requests.proofs.RequestFromU8.from.Goals as goal

pub returns : goal.returns
unfolding request_of
returns c = simp c.from.ensures
