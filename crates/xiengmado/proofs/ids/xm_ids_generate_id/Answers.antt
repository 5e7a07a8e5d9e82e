use Rattle.std.proofs.Common.{refl}
use Rattle.answers.specs.Exported.{kept_by, returned_passed}
use Rattle.xiengmado.proofs.ids.xm_ids_generate_id.Goals as goal

pub returns-in_err-generated : goal.returns-in_err-generated
returns-in_err-generated c = kept_by _ (rw c.ids.ensures at c.in_err-generated.ensures) (returned_passed _ _ c.from_residual.ensures.1) refl refl

pub returns : goal.returns
returns c = kept_by _ (rw c.ids.ensures at c.in_ok-generated.ensures) refl refl c.put_ids.ensures
