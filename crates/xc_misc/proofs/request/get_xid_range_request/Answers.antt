use Rattle.refusal.specs.Answer.{passed_on}
use Rattle.xc_misc.specs.Requests.{room_there, writes_given, writes_refused, length_get_xid_range}
use Rattle.xc_misc.proofs.request.get_xid_range_request.Goals as goal

pub put_header-requires : goal.put_header-requires
put_header-requires c = (room_there _ _ _ c.in_ok-n.ensures).0

pub returns : goal.returns
returns c = writes_given _ _ _ _ _ _ (length_get_xid_range _ _) c.in_ok-n.ensures c.put_header.ensures

pub returns-in_err-n : goal.returns-in_err-n
returns-in_err-n c = rw (passed_on c.from_residual.ensures.1) (writes_refused _ _ _ _ _ (length_get_xid_range _ _) c.in_err-n.ensures)
