use Rattle.octets.proofs.Numbers.{read_le_8, read_be_8}
use Rattle.octets.proofs.get_u64.Goals as goal

pub returns-then-order-eq-LITTLE : goal.returns-then-order-eq-LITTLE
returns-then-order-eq-LITTLE c = read_le_8 _ _ _ c.requires c.if-order-eq-LITTLE.true c.from_le_bytes.ensures

pub returns : goal.returns
returns c = read_be_8 _ _ _ c.requires c.if-order-eq-LITTLE.false c.from_be_bytes.ensures
