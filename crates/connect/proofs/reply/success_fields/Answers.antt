use Rattle.connect.specs.Setup.{setup_of}
use Rattle.connect.proofs.reply.success_fields.Goals as goal

pub returns : goal.returns
unfolding setup_of
returns c = simp (c.get_u16.ensures, c.get_u16-2.ensures, c.get_u16-3.ensures, c.get_u32.ensures, c.get_u32-2.ensures, c.get_u32-3.ensures, c.get_u32-4.ensures, c.get_u16-4.ensures, c.get_u16-5.ensures)
