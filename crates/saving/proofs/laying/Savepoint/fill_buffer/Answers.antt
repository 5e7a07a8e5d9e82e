use Rattle.octets.specs.Put.{cut}
use Rattle.saving.proofs.laying.Savepoint.fill_buffer.Goals as goal

pub returns : goal.returns
unfolding cut
returns c = c.copy_in.ensures
