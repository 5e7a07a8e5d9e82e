use Rattle.std.proofs.Common.{sym, ◌∙◌, arith}
use Rattle.saving.specs.Records.{good_low, good_high, good_other, good_last}
use Rattle.saving.proofs.finding.is_good.Goals as goal

pub returns-then-number-from : goal.returns-then-number-from
returns-then-number-from c = good_low _ _ _ _ (omega (arith, c.number_at-number.ensures))

pub returns-then-last-number : goal.returns-then-last-number
returns-then-last-number c = good_high _ _ _ _ (omega (arith, c.number_at-number.ensures)) (omega (arith, c.number_at-number.ensures))

pub returns-then-kind_at-kind : goal.returns-then-kind_at-kind
returns-then-kind_at-kind c = good_other _ _ _ _ (omega (arith, c.number_at-number.ensures)) (omega (arith, c.number_at-number.ensures)) (λ e. c.if-kind_at-kind.true (c.kind_at.ensures ∙ e))

pub returns : goal.returns
returns c = good_last _ _ _ _ (omega (arith, c.number_at-number.ensures)) (omega (arith, c.number_at-number.ensures)) (sym c.kind_at.ensures ∙ c.if-kind_at-kind.false) _ c.count_at.ensures
