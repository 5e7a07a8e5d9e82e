use Rattle.std.proofs.Common.{arith}
use Rattle.xc_misc.specs.Requests.{put_version}
use Rattle.xc_misc.proofs.request.put_version.Goals as goal

pub returns : goal.returns
returns c = put_version _ _ _ _ _ _ _ _ (omega arith) c.put_header.ensures c.put_u16.ensures c.put_u16-2.ensures
