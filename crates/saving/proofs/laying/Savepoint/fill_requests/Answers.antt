use Rattle.std.proofs.Common.{arith}
use Rattle.saving.specs.Laying.{fill_done, fill_again}
use Rattle.saving.proofs.laying.Savepoint.fill_requests.Goals as goal

pub loop-at-preserved : goal.loop-at-preserved
loop-at-preserved c = fill_again _ _ c.args.self.now.places.requests _ _ _ c.loop-at.invariant (omega arith) _ (omega (arith, c.first-first.ensures)) _ c.request_of.ensures _ c.put.ensures

pub returns : goal.returns
returns c = fill_done _ _ c.args.self.now.places.requests _ _ _ c.loop-at.invariant (omega arith)
