use Rattle.std.proofs.Common.{◌≡◌, ℕ, ◌-◌, ◌*◌, ◌%◌, List, ◌∙◌, arith}
use Rattle.octets.specs.Put.{put, cut}
use Rattle.octets.specs.Moves.{copy_none, left_on}
use Rattle.octets.proofs.Parts.{within_put}
use Rattle.octets.proofs.moves.slide_left.Goals as goal

turned : (s₀ s : List ℕ) (from to k n : ℕ) → k ≡ n → s ≡ put s₀ to (cut from k s₀) → s ≡ put s₀ to (cut from n s₀)
turned s₀ s from to k n e h = rw e at h

pub loop-i-init : goal.loop-i-init
loop-i-init c = copy_none _ _ _ _

pub loop-i-preserved : goal.loop-i-preserved
loop-i-preserved c = left_on _ _ _ _ _ _ 64 _ (omega arith) (omega arith) (omega arith) c.loop-i.invariant c.slide_ends.ensures

pub returns : goal.returns
returns c =
    left_on _ _ _ _ _ (c.args.n - c.args.n % 64) (c.args.n % 64) _ (omega arith) (omega arith) (omega arith)
    (turned _ _ _ _ (64 * c.loop-i.i) _ (omega arith) c.loop-i.invariant)
    (c.copy_within.ensures.after ∙ within_put _ _ _ _ _ (omega arith) (omega arith))
