use Rattle.std.proofs.Common.{◌∙◌, arith, ◌-◌}
use Rattle.octets.proofs.Parts.{within_put}
use Rattle.descriptors.specs.Runs.{exchange_left, exchange_right, exchange}
use Rattle.descriptors.proofs.moves.rotate.Goals as goal

pub returns-then-at-mid : goal.returns-then-at-mid
returns-then-at-mid c = exchange_left _ _ _ _ c.if-at-mid.true (omega arith) (omega arith)

pub returns-then-mid-end : goal.returns-then-mid-end
returns-then-mid-end c = exchange_right _ _ _ _ (omega arith) c.if-mid-end.true (omega arith)

pub returns : goal.returns
returns c =
    exchange _ _ _ _ _ _ _ _ (omega arith) (omega arith) (omega arith) (omega arith) c.copy.ensures
    (c.copy_within.ensures.after ∙ within_put _ _ _ (c.args.end - c.args.mid) _ (omega arith) (omega arith)) c.copy-2.ensures
