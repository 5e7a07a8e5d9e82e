use Rattle.std.proofs.Common.{sym, ◌∙◌, arith}
use Rattle.bench.specs.Answers.{seen, room}
use Rattle.bench.proofs.bench_append.Goals as goal

pub overflow_sub-w : goal.overflow_sub-w
overflow_sub-w c = (seen _ _ _ _ (sym c.in-Some.is ∙ c.walk.ensures)).readable.order

pub overflow_sub-store : goal.overflow_sub-store
overflow_sub-store c = let S = seen _ _ _ _ (sym c.in-Some.is ∙ c.walk.ensures) in omega (arith, S.readable.order, S.readable.within)

pub append-next-requires : goal.append-next-requires
append-next-requires c = room _ _ _ _ (seen _ _ _ _ (sym c.in-Some.is ∙ c.walk.ensures)) (omega arith) (omega arith)
