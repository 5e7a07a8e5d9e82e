use Rattle.std.proofs.Common.{refl}
use Rattle.requests.specs.Room.{capacity}
use Rattle.requests.proofs.capacity.Goals as goal

pub returns : goal.returns
unfolding capacity
returns c = refl
