use Rattle.setup_request.specs.Request.{put_head}
use Rattle.std.proofs.Common.{arith}
use Rattle.setup_request.proofs.put_head.Goals as goal

pub returns : goal.returns
returns c = put_head _ _ _ _ _ _ _ _ _ _ (omega arith) c.put_order.ensures c.put_u16.ensures c.put_u16-2.ensures c.put_u16-3.ensures c.put_u16-4.ensures c.put_zeros.ensures
