use Rattle.std.proofs.Common.{sym, ◌∙◌, arith, ◌≡◌, ◌<◌, Less, Equal, Greater}
use Rattle.std.proofs.lemmas.Cmp.{ranked}
use Rattle.held.specs.Tally.{one_other, one_lower, one_above, one_own}
use Rattle.held.proofs.counting.count_one.Goals as goal

pub returns-then-kind_at-ne-IN_REPLIES : goal.returns-then-kind_at-ne-IN_REPLIES
returns-then-kind_at-ne-IN_REPLIES c = one_other _ _ _ (λ e. c.if-kind_at-ne-IN_REPLIES.true (c.kind_at.ensures ∙ e))

pub returns-in-Less : goal.returns-in-Less
returns-in-Less c =
    let h : c.number_at.result < c.args.number = ranked c.number_at.result c.args.number Less c.in-Less.ensures in
    one_lower _ _ _ (sym c.kind_at.ensures ∙ c.if-kind_at-ne-IN_REPLIES.false) (omega (arith, c.number_at.ensures))

pub returns-in-Equal : goal.returns-in-Equal
returns-in-Equal c =
    let h : c.number_at.result ≡ c.args.number = ranked c.number_at.result c.args.number Equal c.in-Equal.ensures in
    one_own _ _ _ (sym c.kind_at.ensures ∙ c.if-kind_at-ne-IN_REPLIES.false) (omega (arith, c.number_at.ensures)) (omega (arith, c.number_at.ensures))

pub returns-in-Greater : goal.returns-in-Greater
returns-in-Greater c =
    let h : c.args.number < c.number_at.result = ranked c.number_at.result c.args.number Greater c.in-Greater.ensures in
    one_above _ _ _ (sym c.kind_at.ensures ∙ c.if-kind_at-ne-IN_REPLIES.false) (omega (arith, c.number_at.ensures))
