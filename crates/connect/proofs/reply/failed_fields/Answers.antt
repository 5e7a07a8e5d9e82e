use Rattle.connect.specs.Setup.{failed_of}
use Rattle.connect.proofs.reply.failed_fields.Goals as goal

pub returns : goal.returns
unfolding failed_of
returns c = simp (c.get_u16.ensures, c.get_u16-2.ensures, c.get_u16-3.ensures)
