use Rattle.std.proofs.Common.{arith}
use Rattle.sequence.proofs.least.Goals as goal

pub returns : goal.returns
returns c = record { from = omega arith; low = omega arith; least = λ m p q. omega arith }
