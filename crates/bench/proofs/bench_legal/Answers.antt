use Rattle.std.proofs.Common.{arith}
use Rattle.requests.specs.Room.{capacity}
use Rattle.bench.proofs.bench_legal.Goals as goal

pub legal-requires : goal.legal-requires
unfolding capacity
legal-requires c = omega arith
