use Rattle.connect.specs.Handshake.{aim, reply_length}
use Rattle.std.proofs.Common.{lt-ltb, le-ltb}
use Rattle.octets.specs.Logic.{choose}
use Rattle.connect.proofs.handshake.aim_of.Goals as goal

pub returns-then-filled-lt-HEAD : goal.returns-then-filled-lt-HEAD
unfolding aim choose
returns-then-filled-lt-HEAD c = simp (lt-ltb _ _ c.if-filled-lt-HEAD.true)

pub returns : goal.returns
unfolding aim reply_length choose
returns c = simp (le-ltb _ _ c.if-filled-lt-HEAD.false, c.get_u16.ensures)
