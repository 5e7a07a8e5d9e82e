use Rattle.rows.specs.State.{reader_read}
use Rattle.rows.proofs.state.reader.Goals as goal

pub returns : goal.returns
returns c = reader_read _ _ c.counted-order.ensures
