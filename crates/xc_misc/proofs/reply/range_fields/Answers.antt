use Rattle.xc_misc.specs.Replies.{range_of}
use Rattle.xc_misc.proofs.reply.range_fields.Goals as goal

pub returns : goal.returns
unfolding range_of
returns c = simp (c.wire_number-sequence.ensures, c.get_u32-length.ensures, c.get_u32-start.ensures, c.get_u32-count.ensures)
