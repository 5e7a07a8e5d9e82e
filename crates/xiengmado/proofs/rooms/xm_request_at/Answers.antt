use Rattle.std.proofs.Common.{sym, ◌∙◌, refl, arith}
use Rattle.requests.specs.Theorems.{sized_is}
use Rattle.answers.specs.Exported.{exported_by}
use Rattle.xiengmado.specs.Looking.{kept_none, kept_some}
use Rattle.xiengmado.proofs.rooms.xm_request_at.Goals as goal

pub returns-then-not-sized : goal.returns-then-not-sized
returns-then-not-sized c = exported_by _ (kept_none _ _ c.capacity.ensures (sym c.sized.ensures ∙ c.if-not-sized.true)) refl refl

pub get-request-requires : goal.get-request-requires
get-request-requires c = let z = (sized_is _ _).0 (sym c.sized.ensures ∙ c.if-not-sized.false) in omega (arith, z.least, z.holds)

pub returns : goal.returns
returns c = exported_by _ (kept_some _ _ c.capacity.ensures (sym c.sized.ensures ∙ c.if-not-sized.false)) refl (rw (c.mode_number.ensures, c.bit.ensures, c.get-request.ensures))
