use Rattle.std.proofs.Common.{sym, ◌∙◌}
use Rattle.held.specs.Head.{zero_of}
use Rattle.octets.specs.Field.{field_drop}
use Rattle.held.proofs.head.zero_at.Goals as goal

pub returns : goal.returns
unfolding zero_of
returns c = c.get_u16.ensures ∙ sym (field_drop _ _ _ _ _)
