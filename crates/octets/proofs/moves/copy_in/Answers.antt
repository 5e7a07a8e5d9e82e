use Rattle.std.proofs.Common.{◌≡◌, sym, ap, ◌∙◌, ℕ, ◌+◌, ◌-◌, ◌%◌, ◌≤◌, List, arith, zero-add, length, take, drop}
use Rattle.octets.specs.Put.{put, cut, cut_all}
use Rattle.octets.specs.Moves.{copy_none, copy_on}
use Rattle.octets.proofs.moves.copy_in.Goals as goal

whole : (d x s : List ℕ) (at : ℕ) → x ≡ put d at (cut 0 (length s) s) → x ≡ put d at s
whole d x s at e = e ∙ ap (put d at) (cut_all s)

same : (s : List ℕ) (i w : ℕ) → cut i w s ≡ cut (0 + i) w s
same s i w = ap (λ (k : ℕ). cut k w s) (sym (zero-add i))

-- what the turns leave, behind the k bytes that they put
rest : (d y x s : List ℕ) (at k i : ℕ) → k ≡ i → i ≤ length s → at + length s ≤ length d → y ≡ put d at (cut 0 k s) → x ≡ put y (at + i) (take (length s - i) (drop i s)) → x ≡ put d at s
unfolding cut
rest d y x s at k i w h f p q =
    let e : length s ≡ i + (length s - i) = omega arith in
    whole d x s at (copy_on d y x s at 0 i (length s - i) (length s) (omega arith) f e (same s i (length s - i)) (p ∙ ap (λ (m : ℕ). put d at (cut 0 m s)) w) q)

pub returns-then-n-le-TURN : goal.returns-then-n-le-TURN
returns-then-n-le-TURN c = whole _ _ _ _ c.copy_ends.ensures

pub loop-i-init : goal.loop-i-init
loop-i-init c = copy_none _ _ _ _

pub loop-i-preserved : goal.loop-i-preserved
loop-i-preserved c = copy_on _ _ _ _ _ 0 _ 64 _ (omega arith) (omega arith) (omega arith) (same _ _ _) c.loop-i.invariant c.copy_ends-in-loop-i.ensures

pub returns : goal.returns
returns c = rest _ _ _ _ _ _ (length c.args.src.now - length c.args.src.now % 64) (omega arith) (omega arith) (omega arith) c.loop-i.invariant c.copy_bytes.ensures
