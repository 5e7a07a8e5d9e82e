use Rattle.xc_misc.specs.Replies.{version_of}
use Rattle.xc_misc.proofs.reply.version_fields.Goals as goal

pub returns : goal.returns
unfolding version_of
returns c = simp (c.wire_number-sequence.ensures, c.get_u32-length.ensures, c.get_u16-major.ensures, c.get_u16-minor.ensures)
