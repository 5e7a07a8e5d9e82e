use Rattle.std.proofs.Common.{◌≡◌, ℕ, ◌+◌, ◌-◌, ◌≤◌, List, ◌++◌, take, drop, reverse, ap, ◌∙◌, drop-drop, arith}
use borrow.Rule.Slice.PartMut.{put_mid}
use Rattle.octets.specs.Put.{take_drop}
use Rattle.octets.specs.Turn.{rev, slice, exchanged}
use Rattle.octets.proofs.moves.rotate.Goals as goal

-- what is left of s once the part from a to e was reversed
part_reversed : (s t : List ℕ) (a e : ℕ) → a ≤ e → t ≡ reverse (take (e - a) (drop a s)) → put_mid a (e - a) s t ≡ take a s ++ (rev (slice a e s) ++ drop e s)
part_reversed s t a e h p =
    let q : a + (e - a) ≡ e = omega arith in
    let x : t ≡ reverse (drop a (take e s)) = p ∙ ap (λ (l : List ℕ). reverse l) (take_drop a (e - a) s ∙ ap (λ (n : ℕ). drop a (take n s)) q) in
    let y : drop (e - a) (drop a s) ≡ drop e s = drop-drop (e - a) a s ∙ ap (λ (n : ℕ). drop n s) q in
    λ k. take a s ++ (x k ++ y k)

pub returns : goal.returns
returns c =
    exchanged _ _ _ _ _ _ _ (omega arith) (omega arith) (omega arith)
    (part_reversed _ _ _ _ (omega arith) c.reverse.ensures.after)
    (part_reversed _ _ _ _ (omega arith) c.reverse-2.ensures.after)
    (part_reversed _ _ _ _ (omega arith) c.reverse-3.ensures.after)
