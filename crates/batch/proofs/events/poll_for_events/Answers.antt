use Rattle.model.specs.Says.{polled_is}
use Rattle.std.proofs.Common.{arith, refl}
use Rattle.batch.specs.EventsLoop.{inv_start, inv_end, inv_stop, inv_next}
use Rattle.batch.specs.First.{first_turns}
use Rattle.batch.proofs.events.poll_for_events.Goals as goal

pub loop-store-init : goal.loop-store-init
loop-store-init c = inv_start _ _ _ _ c.requires

pub loop-store-preserved-then-is_first : goal.loop-store-preserved-then-is_first
loop-store-preserved-then-is_first c = inv_next _ _ _ _ _ _ _ _ _ _ c.loop-store.invariant _ _ _ _ _ _ refl refl (first_turns _ _ _ _ _ _ _ _ _ c.hand_first-len.ensures _ c.passed-state.ensures)

pub overflow_add-used : goal.overflow_add-used
overflow_add-used c = omega (arith, (inv_next _ _ _ _ _ _ _ _ _ _ c.loop-store.invariant _ _ _ _ _ _ refl refl (first_turns _ _ _ _ _ _ _ _ _ c.hand_first-len.ensures _ c.passed-state.ensures)).used_most, c.before.before.before.before.before.before.before.before.before.before.before.before.before.before)

pub loop-store-preserved : goal.loop-store-preserved
loop-store-preserved c = inv_next _ _ _ _ _ _ _ _ _ _ c.loop-store.invariant _ _ _ _ _ _ (polled_is c.in-Ok.is c.in-Some.is) c.turn.auto.store c.turn.ensures

pub overflow_add-used-in-loop-store : goal.overflow_add-used-in-loop-store
overflow_add-used-in-loop-store c = omega (arith, (inv_next _ _ _ _ _ _ _ _ _ _ c.loop-store.invariant _ _ _ _ _ _ (polled_is c.in-Ok.is c.in-Some.is) c.turn.auto.store c.turn.ensures).used_most, c.before.before.before.before.before.before.before.before.before.before.before.before.before.before.before.before.before.before.before)

pub loop-store-smaller : goal.loop-store-smaller
loop-store-smaller c = omega (arith, (inv_next _ _ _ _ _ _ _ _ _ _ c.loop-store.invariant _ _ _ _ _ _ (polled_is c.in-Ok.is c.in-Some.is) c.turn.auto.store c.turn.ensures).marks_most)

pub returns-in_default : goal.returns-in_default
returns-in_default c = inv_end _ _ _ _ _ _ _ _ _ _ c.loop-store.invariant _ _ _ _ _ (polled_is c.in-Ok.is c.in_default.is) c.turn.ensures

pub returns-in-Err : goal.returns-in-Err
returns-in-Err c = inv_stop _ _ _ _ _ _ _ _ _ _ c.loop-store.invariant _ _ _ _ _ _ c.in-Err.is c.turn.ensures c.stopped.ensures
