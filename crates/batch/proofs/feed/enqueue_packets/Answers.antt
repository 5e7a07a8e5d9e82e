use Rattle.std.proofs.Common.{arith, refl}
use Rattle.intake.specs.Theorems.{takeable}
use Rattle.batch.specs.FeedLoop.{inv_start, inv_end, inv_stop, inv_least, inv_next}
use Rattle.batch.specs.Plain.{ahead_event, sound_writable}
use Rattle.batch.proofs.feed.enqueue_packets.Goals as goal

pub loop-at-init : goal.loop-at-init
loop-at-init c = inv_start _ _ _ _ _ _ c.requires

pub plain_ahead-requires : goal.plain_ahead-requires
plain_ahead-requires c = sound_writable _ _ _ _ c.loop-at.invariant.sound

pub plain_turn-state-requires : goal.plain_turn-state-requires
plain_turn-state-requires c = (sound_writable _ _ _ _ c.loop-at.invariant.sound, ahead_event _ _ _ _ _ c.plain_ahead.ensures c.in-Some.is)

pub loop-at-preserved-in-Some : goal.loop-at-preserved-in-Some
loop-at-preserved-in-Some c = inv_next _ _ _ _ _ _ _ _ _ _ c.loop-at.invariant _ _ _ (c.plain_turn-state.ensures.turn _ _ _) _ _ refl (λ i. omega (arith, c.shared_slice_known-2-1.given i)) c.plain_turn-state.auto.store refl

pub front_turn-requires : goal.front_turn-requires
front_turn-requires c = takeable _ _ c.loop-at.invariant.sound

pub loop-at-preserved : goal.loop-at-preserved
loop-at-preserved c = inv_next _ _ _ _ _ _ _ _ _ _ c.loop-at.invariant _ _ _ c.front_turn.ensures _ _ c.in-Ok.is (λ i. omega (arith, c.shared_slice_known-2-1.given i)) c.front_turn.auto.store c.front_turn.auto.slots

pub overflow_add-at-in-Ok : goal.overflow_add-at-in-Ok
overflow_add-at-in-Ok c = omega (arith, (inv_next _ _ _ _ _ _ _ _ _ _ c.loop-at.invariant _ _ _ c.front_turn.ensures _ _ c.in-Ok.is (λ i. omega (arith, c.shared_slice_known-2-1.given i)) c.front_turn.auto.store c.front_turn.auto.slots).within, c.well_formed)

pub loop-at-smaller : goal.loop-at-smaller
loop-at-smaller c = omega (arith, (inv_next _ _ _ _ _ _ _ _ _ _ c.loop-at.invariant _ _ _ c.front_turn.ensures _ _ c.in-Ok.is (λ i. omega (arith, c.shared_slice_known-2-1.given i)) c.front_turn.auto.store c.front_turn.auto.slots).within, inv_least _ _ _ _ _ _ _ _ _ _ c.loop-at.invariant _ _ _ c.front_turn.ensures _ _ c.in-Ok.is)

pub returns-in-Err : goal.returns-in-Err
returns-in-Err c = inv_stop _ _ _ _ _ _ _ _ _ _ c.loop-at.invariant _ _ _ c.front_turn.ensures _ c.in-Err.is

pub returns : goal.returns
returns c = inv_end _ _ _ _ _ _ _ _ _ _ c.loop-at.invariant c.loop-at-test.false
