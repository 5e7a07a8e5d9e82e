use Rattle.std.proofs.Common.{refl}
use Rattle.answers.specs.Exported.{kept_by, returned_passed}
use Rattle.xiengmado.proofs.ids.xm_ids_update_xid_range.Goals as goal

pub returns-in_err-next : goal.returns-in_err-next
returns-in_err-next c = kept_by _ (rw c.ids.ensures at c.in_err-next.ensures) (returned_passed _ _ c.from_residual.ensures.1) refl refl

pub returns : goal.returns
returns c = kept_by _ (rw c.ids.ensures at c.in_ok-next.ensures) refl refl c.put_ids.ensures
