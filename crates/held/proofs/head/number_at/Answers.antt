use Rattle.std.proofs.Common.{sym, ◌∙◌}
use Rattle.held.specs.Head.{num_of}
use Rattle.octets.specs.Field.{field_drop}
use Rattle.held.proofs.head.number_at.Goals as goal

pub returns : goal.returns
unfolding num_of
returns c = c.get_u64.ensures ∙ sym (field_drop _ _ _ _ _)
