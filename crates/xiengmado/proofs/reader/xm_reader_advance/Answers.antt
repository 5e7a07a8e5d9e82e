use Rattle.std.proofs.Common.{refl, Ok}
use Rattle.packet_reader.specs.Reader.{says_advanced}
use Rattle.answers.specs.Exported.{kept_at, kept_by, returned_passed}
use Rattle.xiengmado.proofs.reader.xm_reader_advance.Goals as goal

pub returns-in_err-next : goal.returns-in_err-next
returns-in_err-next c = kept_by _ (rw c.reader.ensures at c.in_err-next.ensures) (returned_passed _ _ c.from_residual.ensures.1) refl refl

pub returns-in-NotYet : goal.returns-in-NotYet
returns-in-NotYet c = kept_at (λ x. says_advanced (Ok x)) c.in-NotYet.is (rw c.reader.ensures at c.in_ok-next.ensures) refl refl c.put_reader.ensures

pub returns-in-Packet : goal.returns-in-Packet
returns-in-Packet c = kept_at (λ x. says_advanced (Ok x)) c.in-Packet.is (rw c.reader.ensures at c.in_ok-next.ensures) refl (rw c.from.ensures) c.put_reader-in-Packet.ensures
