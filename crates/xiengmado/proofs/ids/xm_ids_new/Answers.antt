use Rattle.std.proofs.Common.{refl}
use Rattle.answers.specs.Exported.{kept_by, kept_off, returned_passed}
use Rattle.answers.specs.Shown.{roomed_off, roomed_on}
use Rattle.xiengmado.proofs.ids.xm_ids_new.Goals as goal

pub returns-then-ids-ne-THREE : goal.returns-then-ids-ne-THREE
returns-then-ids-ne-THREE c = kept_off (roomed_off _ _ _ c.if-ids-ne-THREE.true)

pub returns-in_err-new : goal.returns-in_err-new
returns-in_err-new c = kept_by _ (roomed_on _ _ _ _ c.if-ids-ne-THREE.false c.in_err-new.ensures) (returned_passed _ _ c.from_residual.ensures.1) refl refl

pub returns : goal.returns
returns c = kept_by _ (roomed_on _ _ _ _ c.if-ids-ne-THREE.false c.in_ok-new.ensures) refl refl c.put_ids.ensures
