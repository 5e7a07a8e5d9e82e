-- A write to a part of a slice is a put, and so is a copy within one. Assumes nothing.
use Rattle.std.specs.Prelude.{◌≡◌, ℕ, ◌+◌, ◌-◌, ◌≤◌, List, ◌++◌, length, take, drop}
use Rattle.std.specs.List.{copy_within}
use Rattle.std.proofs.Common.{sym, ap, ◌∙◌, arith, drop-drop, append_assoc}
use borrow.Rule.Slice.PartMut.{put_mid}
use Rattle.octets.specs.Put.{put, cut, length_cut}

pub part_put : (s v : List ℕ) (a k : ℕ) → length v ≡ k → put_mid a k s v ≡ put s a v
unfolding put
part_put s v a k e = ap (λ (l : List ℕ). take a s ++ (v ++ l)) (drop-drop k a s) ∙ ap (λ (n : ℕ). take a s ++ (v ++ drop (a + n) s)) (sym e)

pub within_put : (s : List ℕ) (from to n e : ℕ) → e ≡ from + n → from + n ≤ length s → copy_within s from e to ≡ put s to (cut from n s)
unfolding put cut
within_put s from to n e q h =
    let m : e - from ≡ n = omega arith in
    let l : n ≡ length (cut from n s) = sym (length_cut from n s h) in
    ap (λ (k : ℕ). take to s ++ take k (drop from s) ++ drop (to + k) s) m
    ∙ append_assoc (take to s) (take n (drop from s)) (drop (to + n) s)
    ∙ ap (λ (k : ℕ). take to s ++ (take n (drop from s) ++ drop (to + k) s)) l
