use Rattle.std.proofs.Common.{refl, arith}
use Rattle.batch.specs.SendLaws.{inv_asks, inv_end, inv_none, inv_stop, inv_next, told}
use Rattle.batch.proofs.send.send_requests.Goals as goal

pub returns-then-byte-ge-KINDS : goal.returns-then-byte-ge-KINDS
returns-then-byte-ge-KINDS c = told _ _ _ _ _ _ c.sent.ensures (inv_none _ _ _ _ _ _ c.loop-i.invariant (omega arith) _ refl c.if-byte-ge-KINDS.true)

pub send_request-requires : goal.send_request-requires
send_request-requires c = inv_asks _ _ _ _ _ _ c.loop-i.invariant

pub returns-in-Err : goal.returns-in-Err
returns-in-Err c = told _ _ _ _ _ _ c.sent-in-Err.ensures (inv_stop _ _ _ _ _ _ c.loop-i.invariant (omega arith) _ refl c.if-byte-ge-KINDS.false _ c.from.ensures _ _ _ c.in-Err.is c.send_request.ensures)

pub loop-i-preserved : goal.loop-i-preserved
loop-i-preserved c = inv_next _ _ _ _ _ _ c.loop-i.invariant (omega arith) _ refl c.if-byte-ge-KINDS.false _ c.from.ensures _ _ _ _ c.in-Ok.is c.send_request.auto.requests c.send_request.ensures

pub returns : goal.returns
returns c = told _ _ _ _ _ _ c.sent-2.ensures (inv_end _ _ _ _ _ _ c.loop-i.invariant (omega arith))
