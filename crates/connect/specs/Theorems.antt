-- What is certain of a handshake. Assumes nothing.
use Rattle.std.specs.Prelude.{ℕ, ◌+◌, ◌<◌, take}
use mathlib.Core.List.{List, ◌++◌}
use Rattle.std.proofs.Math.ListN.{length}
use Rattle.octets.specs.Put.{put}
use Rattle.refusal.specs.Answer.{Answer, gives, refuses}
use Rattle.connect.specs.Handshake.{aim, Progress}
use Rattle.connect.specs.Sound.{Sound}
use Rattle.connect.specs.Feeding.{state_of}
use Rattle.connect.specs.declared.handshake.Connect.{Connect}

-- What a piece that fits the lent part can come to: the handshake goes on, or the reply is longer than the buffer.
pub data Comes (c : Connect) (s x : List ℕ) : Answer Progress → Type 0 where
  goes_on : {p : Progress} → Sound (state_of p) (put s c.filled x) → Comes c s x (gives p)
  too_long : length s < aim c.order (take c.filled s ++ x) (c.filled + length x) → Comes c s x (refuses 2)
