use Rattle.octets.specs.Put.{set_two}
use Rattle.std.proofs.Common.{arith}
use Rattle.setup_request.proofs.put_order.Goals as goal

pub returns : goal.returns
returns c = set_two _ _ _ _ (omega arith)
