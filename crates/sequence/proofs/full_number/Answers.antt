use Rattle.sequence.proofs.NumberingLaws.{full_least, least_past, least_within}
use Rattle.std.proofs.Common.{arith}
use Rattle.sequence.proofs.full_number.Goals as goal

pub returns-then-last-gt-LAST_NUMBER : goal.returns-then-last-gt-LAST_NUMBER
returns-then-last-gt-LAST_NUMBER c = let l = full_least c.args.read.0 c.args.wire.0 (omega arith) in
    least_past _ _ _ l (omega (arith, l.from))

pub returns-then-number-gt-LAST_NUMBER : goal.returns-then-number-gt-LAST_NUMBER
returns-then-number-gt-LAST_NUMBER c = least_past _ _ _ c.least-number.ensures c.if-number-gt-LAST_NUMBER.true

pub returns : goal.returns
returns c = least_within _ _ _ c.least-number.ensures c.if-number-gt-LAST_NUMBER.false
