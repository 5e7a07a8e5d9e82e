use Rattle.rows.specs.State.{handshake_read}
use Rattle.rows.proofs.state.handshake.Goals as goal

pub returns : goal.returns
returns c = handshake_read _ _ c.counted-order.ensures
