use Rattle.connect.specs.Setup.{authenticate_of}
use Rattle.connect.proofs.reply.authenticate_fields.Goals as goal

pub returns : goal.returns
unfolding authenticate_of
returns c = simp c.get_u16.ensures
