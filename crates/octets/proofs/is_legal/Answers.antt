use Rattle.std.proofs.Common.{eq-eqb, ne_eqb}
use Rattle.octets.specs.Logic.{either}
use Rattle.octets.specs.Bytes.{legal}
use Rattle.octets.proofs.is_legal.Goals as goal

pub returns-then-order-eq-LITTLE : goal.returns-then-order-eq-LITTLE
unfolding legal either
returns-then-order-eq-LITTLE c = simp (eq-eqb _ _ c.if-order-eq-LITTLE.true)

pub returns : goal.returns
unfolding legal either
returns c = simp (ne_eqb _ _ c.if-order-eq-LITTLE.false)
