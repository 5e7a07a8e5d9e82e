use Rattle.std.proofs.Common.{refl, sym, arith}
use Rattle.std.proofs.lemmas.Nat.{from_le_bytes-to_le_bytes_4, from_be_bytes-to_be_bytes_4}
use Rattle.octets.proofs.Numbers.{read_le_4, read_be_4, octets_low, octets_high, bytes_put}
use Rattle.octets.proofs.put_u32.Goals as goal

pub returns-then-order-eq-LITTLE : goal.returns-then-order-eq-LITTLE
returns-then-order-eq-LITTLE c =
    bytes_put _ 2 _ _ c.requires c.copy_bytes.ensures c.to_le_bytes.ensures (octets_low 0 4 _) refl (read_le_4 _ 0 _ (omega arith) c.if-order-eq-LITTLE.true (sym (from_le_bytes-to_le_bytes_4 _ c.ranges.x.fits)))

pub returns : goal.returns
returns c =
    bytes_put _ 2 _ _ c.requires c.copy_bytes-2.ensures c.to_be_bytes.ensures (octets_high 4 _) refl (read_be_4 _ 0 _ (omega arith) c.if-order-eq-LITTLE.false (sym (from_be_bytes-to_be_bytes_4 _ c.ranges.x.fits)))
