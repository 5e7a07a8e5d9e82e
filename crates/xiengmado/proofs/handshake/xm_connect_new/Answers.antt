use Rattle.std.proofs.Common.{refl}
use Rattle.answers.specs.Exported.{kept_by, kept_off, returned_passed}
use Rattle.answers.specs.Shown.{roomed_off, roomed_on}
use Rattle.xiengmado.proofs.handshake.xm_connect_new.Goals as goal

pub returns-then-connect-ne-THREE : goal.returns-then-connect-ne-THREE
returns-then-connect-ne-THREE c = kept_off (roomed_off _ _ _ c.if-connect-ne-THREE.true)

pub returns-in_err-new : goal.returns-in_err-new
returns-in_err-new c = kept_by _ (roomed_on _ _ _ _ c.if-connect-ne-THREE.false c.in_err-new.ensures) (returned_passed _ _ c.from_residual.ensures.1) refl refl

pub returns : goal.returns
returns c = kept_by _ (roomed_on _ _ _ _ c.if-connect-ne-THREE.false c.in_ok-new.ensures) refl refl c.put_handshake.ensures
