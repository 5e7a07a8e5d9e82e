-- Three reversals exchange two neighbours. Assumes nothing.
use Rattle.std.specs.Prelude.{◌≡◌, ℕ, ◌+◌, ◌-◌, ◌≤◌, List, ◌++◌, reverse, length, take, drop}
use Rattle.std.proofs.Common.{sym, ap, ◌∙◌, arith, length-append}
use Rattle.std.proofs.lemmas.List.{reverse-append, reverse-reverse, length-reverse}
use Rattle.octets.specs.Put.{put, cut, put_put, put_over, length_put, length_cut, take_drop, cut_put, cut_put_after}

-- a list backwards, and the part of it from a to e
abbrev pub rev : List ℕ → List ℕ
rev s = reverse s

abbrev pub slice : ℕ → ℕ → List ℕ → List ℕ
slice a e s = drop a (take e s)

-- a reversal is a put
reversed : (s : List ℕ) (a e : ℕ) → a ≤ e → e ≤ length s → take a s ++ (rev (slice a e s) ++ drop e s) ≡ put s a (reverse (cut a (e - a) s))
unfolding put cut
reversed s a e h f =
    let q : a + (e - a) ≡ e = omega arith in
    let x : drop a (take e s) ≡ take (e - a) (drop a s) = sym (take_drop a (e - a) s ∙ ap (λ (n : ℕ). drop a (take n s)) q) in
    let l : length (reverse (take (e - a) (drop a s))) ≡ e - a = length-reverse (take (e - a) (drop a s)) ∙ length_cut a (e - a) s (omega arith) in
    let y : e ≡ a + length (reverse (take (e - a) (drop a s))) = omega arith in
    λ k. take a s ++ (reverse (x k) ++ drop (y k) s)

pub exchanged : (s s₁ s₂ s₃ : List ℕ) (a m e : ℕ) → a ≤ m → m ≤ e → e ≤ length s → s₁ ≡ take a s ++ (rev (slice a m s) ++ drop m s) → s₂ ≡ take m s₁ ++ (rev (slice m e s₁) ++ drop e s₁)
    → s₃ ≡ take a s₂ ++ (rev (slice a e s₂) ++ drop e s₂) → s₃ ≡ put s a (cut m (e - m) s ++ cut a (m - a) s)
exchanged s s₁ s₂ s₃ a m e h k f p q r =
    let X : List ℕ = cut a (m - a) s in
    let Y : List ℕ = cut m (e - m) s in
    let lx : length (reverse X) ≡ m - a = length-reverse X ∙ length_cut a (m - a) s (omega arith) in
    let ly : length (reverse Y) ≡ e - m = length-reverse Y ∙ length_cut m (e - m) s (omega arith) in
    let z : a + (m - a) ≡ m = omega arith in
    let p' : s₁ ≡ put s a (reverse X) = p ∙ reversed s a m h (omega arith) in
    let l₁ : length s₁ ≡ length s = ap length p' ∙ length_put s a (reverse X) (omega arith) in
    let cy : cut m (e - m) s₁ ≡ Y = ap (λ (x : List ℕ). cut m (e - m) x) p' ∙ cut_put_after s a (reverse X) m (e - m) (omega arith) (omega arith) in
    let q' : s₂ ≡ put s a (reverse X ++ reverse Y) =
    q ∙ reversed s₁ m e k (omega arith) ∙ (λ j. put (p' j) (sym z j) (reverse (cy j))) ∙ put_put s a (m - a) (reverse X) (reverse Y) lx (omega arith) in
    let lv : length (reverse X ++ reverse Y) ≡ e - a = omega (arith, length-append (reverse X) (reverse Y)) in
    let l₂ : length s₂ ≡ length s = ap length q' ∙ length_put s a (reverse X ++ reverse Y) (omega arith) in
    let cv : cut a (e - a) s₂ ≡ reverse X ++ reverse Y = ap (λ (x : List ℕ). cut a (e - a) x) q' ∙ cut_put s a (reverse X ++ reverse Y) (e - a) lv (omega arith) in
    let rr : reverse (reverse X ++ reverse Y) ≡ Y ++ X = reverse-append (reverse X) (reverse Y) ∙ (λ j. reverse-reverse Y j ++ reverse-reverse X j) in
    let lr : length (reverse X ++ reverse Y) ≡ length (reverse (reverse X ++ reverse Y)) = sym (length-reverse (reverse X ++ reverse Y)) in
    r ∙ reversed s₂ a e (omega arith) (omega arith) ∙ (λ j. put (q' j) a (reverse (cv j))) ∙ put_over s a (reverse X ++ reverse Y) (reverse (reverse X ++ reverse Y)) lr (omega arith)
    ∙ ap (λ (x : List ℕ). put s a x) rr
