use Rattle.std.proofs.Common.{sym, ◌∙◌}
use Rattle.held.specs.Head.{len_of}
use Rattle.octets.specs.Field.{field_drop}
use Rattle.held.proofs.head.length_at.Goals as goal

pub returns : goal.returns
unfolding len_of
returns c = c.get_u32.ensures ∙ sym (field_drop _ _ _ _ _)
