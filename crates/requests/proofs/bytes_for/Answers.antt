use Rattle.std.proofs.Common.{refl}
use Rattle.requests.specs.Room.{bytes_for}
use Rattle.requests.proofs.bytes_for.Goals as goal

pub returns : goal.returns
unfolding bytes_for
returns c = refl
