use Rattle.xc_misc.specs.Replies.{list_of}
use Rattle.xc_misc.proofs.reply.list_fields.Goals as goal

pub returns : goal.returns
unfolding list_of
returns c = simp (c.wire_number-sequence.ensures, c.get_u32-length.ensures, c.get_u32-count.ensures)
