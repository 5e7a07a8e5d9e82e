use Rattle.xc_misc.specs.Requests.{put_header}
use Rattle.std.proofs.Common.{arith}
use Rattle.xc_misc.proofs.request.put_header.Goals as goal

pub returns : goal.returns
returns c = put_header _ _ _ _ _ _ (omega arith) c.put_u16.ensures
