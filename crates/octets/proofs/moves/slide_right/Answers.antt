use Rattle.std.proofs.Common.{◌≡◌, ℕ, ◌+◌, ◌-◌, ◌*◌, ◌%◌, List, ◌∙◌, arith}
use Rattle.octets.specs.Put.{put, cut}
use Rattle.octets.specs.Moves.{right_none, right_on}
use Rattle.octets.proofs.Parts.{within_put}
use Rattle.octets.proofs.moves.slide_right.Goals as goal

none : (s : List ℕ) (from to n k : ℕ) → k ≡ n → s ≡ put s (to + k) (cut (from + k) (n - k) s)
none s from to n k e = rw e (right_none s from to n)

pub loop-i-init : goal.loop-i-init
loop-i-init c = none _ _ _ _ _ (omega arith)

pub loop-i-preserved : goal.loop-i-preserved
loop-i-preserved c =
    right_on _ _ _ _ _ (c.args.from + (c.args.n % 64 + 64 * c.loop-i.i)) (c.args.to + (c.args.n % 64 + 64 * c.loop-i.i)) (c.args.n - (c.args.n % 64 + 64 * c.loop-i.i)) 64 _
    (omega arith) (omega arith) (omega arith) (omega arith) (omega arith) c.loop-i.invariant c.slide_ends.ensures

pub returns : goal.returns
returns c =
    right_on _ _ _ _ _ (c.args.from + (c.args.n % 64 + 64 * c.loop-i.i)) (c.args.to + (c.args.n % 64 + 64 * c.loop-i.i)) (c.args.n - (c.args.n % 64 + 64 * c.loop-i.i)) (c.args.n % 64) _
    (omega arith) (omega arith) (omega arith) (omega arith) (omega arith) c.loop-i.invariant
    (c.copy_within.ensures.after ∙ within_put _ _ _ _ _ (omega arith) (omega arith))
