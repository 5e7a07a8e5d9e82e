use Rattle.std.proofs.Common.{arith}
use Rattle.batch.specs.First.{first_within}
use Rattle.batch.proofs.first.is_first.Goals as goal

pub kind_at-requires : goal.kind_at-requires
kind_at-requires c = omega (arith, first_within c.args.c c.args.store.now c.requires (omega arith))

pub length_at-requires : goal.length_at-requires
length_at-requires c = omega (arith, first_within c.args.c c.args.store.now c.requires (omega arith))
