use Rattle.std.proofs.Common.{refl, Ok}
use Rattle.connect.specs.Handshake.{says_advanced}
use Rattle.answers.specs.Exported.{kept_at, kept_by, returned_passed}
use Rattle.xiengmado.proofs.handshake.xm_connect_advance.Goals as goal

pub returns-in_err-next : goal.returns-in_err-next
returns-in_err-next c = kept_by _ (rw c.handshake.ensures at c.in_err-next.ensures) (returned_passed _ _ c.from_residual.ensures.1) refl refl

pub returns-in-NotYet : goal.returns-in-NotYet
returns-in-NotYet c = kept_at (λ x. says_advanced (Ok x)) c.in-NotYet.is (rw c.handshake.ensures at c.in_ok-next.ensures) refl refl c.put_handshake.ensures

pub returns-in-Complete : goal.returns-in-Complete
returns-in-Complete c = kept_at (λ x. says_advanced (Ok x)) c.in-Complete.is (rw c.handshake.ensures at c.in_ok-next.ensures) refl refl c.put_handshake-in-Complete.ensures
