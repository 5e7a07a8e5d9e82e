use Rattle.std.proofs.Common.{sym, ◌∙◌, arith}
use Rattle.bench.specs.Answers.{seen, within, byte, whole}
use Rattle.bench.proofs.bench_take.Goals as goal

pub find_event-requires : goal.find_event-requires
find_event-requires c = (seen _ _ _ _ (sym c.in-Some.is ∙ c.walk.ensures)).readable

pub take-requires-clause-within : goal.take-requires-clause-within
take-requires-clause-within c =
    let S = seen _ _ _ _ (sym c.in-Some.is ∙ c.walk.ensures) in
    let found = sym c.in-Some-find_event.is ∙ c.find_event.ensures in
    (within _ _ _ _ S found, byte _ _ _ _ S found)

pub returns : goal.returns
returns c = λ e. let l = whole _ _ _ _ (seen _ _ _ _ (sym c.in-Some.is ∙ c.walk.ensures)) (sym c.in-Some-find_event.is ∙ c.find_event.ensures) in absurd (omega arith)
