use Rattle.std.proofs.Common.{◌≡◌, refl, Bool, true, false, ◌+◌, ◌*◌}
use mir.Val.{bool_byte}
use Rattle.octets.specs.Logic.{choose}
use Rattle.requests.specs.Room.{byte_of}
use Rattle.requests.proofs.U8FromRequest.from.Goals as goal

bit : (b : Bool) → bool_byte b ≡ choose b 1 0
unfolding choose
bit true = refl
bit false = refl

pub returns : goal.returns
unfolding byte_of
returns c = λ k. 2 * c.from.ensures k + bit c.args.request.descriptors k
