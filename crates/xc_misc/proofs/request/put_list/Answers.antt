use Rattle.std.proofs.Common.{arith}
use Rattle.xc_misc.specs.Requests.{put_list}
use Rattle.xc_misc.proofs.request.put_list.Goals as goal

pub returns : goal.returns
returns c = put_list _ _ _ _ _ _ (omega arith) c.put_header.ensures c.put_u32.ensures
