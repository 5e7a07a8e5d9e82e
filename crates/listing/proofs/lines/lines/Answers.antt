use Rattle.std.proofs.Common.{refl, arith}
use Rattle.listing.specs.Loop.{inv_start, inv_full, inv_none, inv_refused, packet_within, inv_next, part_rest}
use Rattle.listing.proofs.lines.lines.Goals as goal

pub loop-out-init : goal.loop-out-init
loop-out-init c = inv_start _ _ _ _

pub bounds-bytes-used : goal.bounds-bytes-used
bounds-bytes-used c = let p = packet_within _ _ _ _ _ _ _ _ c.loop-out.invariant c.loop-out-test.true _ (part_rest c.args.bytes.now c.loop-out.used) _ _ (rw c.in-Ok-Some.field-0-is at c.in-Ok-Some.ensures) in omega (arith, p.0, p.1)

pub overflow_add-used : goal.overflow_add-used
overflow_add-used c = let p = packet_within _ _ _ _ _ _ _ _ c.loop-out.invariant c.loop-out-test.true _ (part_rest c.args.bytes.now c.loop-out.used) _ _ (rw c.in-Ok-Some.field-0-is at c.in-Ok-Some.ensures) in omega (arith, p.0, p.1)

pub loop-out-smaller : goal.loop-out-smaller
loop-out-smaller c = let p = packet_within _ _ _ _ _ _ _ _ c.loop-out.invariant c.loop-out-test.true _ (part_rest c.args.bytes.now c.loop-out.used) _ _ (rw c.in-Ok-Some.field-0-is at c.in-Ok-Some.ensures) in omega (arith, p.0, p.1)

pub loop-out-preserved : goal.loop-out-preserved
loop-out-preserved c = inv_next _ _ _ _ _ _ _ _ c.loop-out.invariant c.loop-out-test.true _ (part_rest c.args.bytes.now c.loop-out.used) _ _ (rw c.in-Ok-Some.field-0-is at c.in-Ok-Some.ensures) _ _ c.line-end.ensures

pub returns-in-Ok-None : goal.returns-in-Ok-None
returns-in-Ok-None c = inv_none _ _ _ _ _ _ _ _ c.loop-out.invariant c.loop-out-test.true _ (part_rest c.args.bytes.now c.loop-out.used) _ _ (rw c.in-Ok-None.field-0-is at c.in-Ok-None.ensures) c.closing.ensures

pub returns-in-Err : goal.returns-in-Err
returns-in-Err c = inv_refused _ _ _ _ _ _ _ _ c.loop-out.invariant c.loop-out-test.true _ (part_rest c.args.bytes.now c.loop-out.used) _ _ _ c.in-Err.ensures c.refused.ensures

pub returns : goal.returns
returns c = inv_full _ _ _ _ _ _ _ _ c.loop-out.invariant _ c.loop-out-test.false refl refl refl refl
