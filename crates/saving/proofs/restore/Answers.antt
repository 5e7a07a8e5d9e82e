use Rattle.std.proofs.Common.{ap, not, Ok, Err}
use Rattle.refusal.specs.Answer.{passed_on}
use Rattle.saving.specs.Told.{planned_told, restores_same}
use Rattle.saving.specs.Laid.{room_some, store_long, buffer_long, restore_bad, restore_other, restore_done}
use Rattle.saving.proofs.restore.Goals as goal

pub returns-in_err-saved : goal.returns-in_err-saved
returns-in_err-saved c = let E = planned_told _ _ (Err _) c.found.ensures c.in_err-saved.ensures.value in rw (passed_on c.from_residual.ensures.1, E.0) (restore_bad _ _ _ E.1)

pub returns-then-not-fits : goal.returns-then-not-fits
returns-then-not-fits c = let T = planned_told _ _ (Ok _) c.found.ensures c.in_ok-saved.ensures.value in restores_same T.0 (restore_other T.1 _ _ _ c.fits.ensures (ap not c.if-not-fits.true))

pub fill_requests-requires : goal.fill_requests-requires
fill_requests-requires c = room_some (planned_told _ _ (Ok _) c.found.ensures c.in_ok-saved.ensures.value).1 _ _ _ c.fits.ensures (ap not c.if-not-fits.false)

pub fill_store-requires : goal.fill_store-requires
fill_store-requires c = store_long (planned_told _ _ (Ok _) c.found.ensures c.in_ok-saved.ensures.value).1 _ _ _ c.fits.ensures (ap not c.if-not-fits.false)

pub fill_buffer-requires : goal.fill_buffer-requires
fill_buffer-requires c = buffer_long (planned_told _ _ (Ok _) c.found.ensures c.in_ok-saved.ensures.value).1 _ _ _ c.fits.ensures (ap not c.if-not-fits.false)

pub returns : goal.returns
returns c = let T = planned_told _ _ (Ok _) c.found.ensures c.in_ok-saved.ensures.value in restores_same T.0 (restore_done T.1 _ _ _ c.fits.ensures (ap not c.if-not-fits.false) _ _ _ _ c.fill_requests.ensures c.fill_store.ensures c.fill_buffer.ensures c.client.ensures)
