use Rattle.setup_request.specs.Pad.{put_padded}
use Rattle.std.proofs.Common.{arith}
use Rattle.setup_request.proofs.put_padded.Goals as goal

pub returns : goal.returns
returns c = put_padded _ _ _ _ _ _ (omega arith) c.pad.ensures c.copy_in.ensures c.put_zeros.ensures
