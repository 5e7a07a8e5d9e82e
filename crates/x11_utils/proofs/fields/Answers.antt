use Rattle.x11_utils.specs.Error.{error_of}
use Rattle.x11_utils.proofs.fields.Goals as goal

pub returns : goal.returns
unfolding error_of
returns c = simp (c.wire_number-sequence.ensures, c.get_u32-value.ensures, c.get_u16-minor.ensures)
