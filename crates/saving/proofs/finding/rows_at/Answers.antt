use Rattle.std.proofs.Common.{None, arith, refl, ap, not}
use Rattle.held.specs.Front.{begun_some, begun_sized}
use Rattle.saving.specs.Records.{ends, lacking, head, wrong, again}
use Rattle.saving.proofs.finding.rows_at.Goals as goal

pub returns-in_err-size : goal.returns-in_err-size
returns-in_err-size c = rw c.from_residual.ensures (lacking _ _ _ _ _ _ _ _ c.loop.invariant (omega arith) _ (begun_sized _ None c.in_err-size.ensures) refl)

pub is_good-requires : goal.is_good-requires
is_good-requires c = head _ _ _ _ _ _ _ _ c.loop.invariant (omega arith) _ (begun_some _ _ _ refl c.in_ok-size.ensures).0 (begun_some _ _ _ refl c.in_ok-size.ensures).1

pub returns-then-not-is_good : goal.returns-then-not-is_good
returns-then-not-is_good c = wrong _ _ _ _ _ _ _ _ c.loop.invariant (omega arith) _ (begun_some _ _ _ refl c.in_ok-size.ensures).0 (begun_some _ _ _ refl c.in_ok-size.ensures).1 _ c.is_good.ensures (ap not c.if-not-is_good.true)

pub number_at-requires : goal.number_at-requires
number_at-requires c = head _ _ _ _ _ _ _ _ c.loop.invariant (omega arith) _ (begun_some _ _ _ refl c.in_ok-size.ensures).0 (begun_some _ _ _ refl c.in_ok-size.ensures).1

pub loop-preserved : goal.loop-preserved
loop-preserved c = again _ _ _ _ _ _ _ _ c.loop.invariant (omega arith) _ (begun_some _ _ _ refl c.in_ok-size.ensures).0 (begun_some _ _ _ refl c.in_ok-size.ensures).1 _ c.is_good.ensures (ap not c.if-not-is_good.false) _ _ c.number_at.ensures c.pick-from.ensures _ (omega arith)

pub returns : goal.returns
returns c = (ends _ _ _ _ _ _ _ _ c.loop.invariant (omega arith), λ z. omega (arith, c.loop.invariant.some_at))
