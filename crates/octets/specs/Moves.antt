-- A move of bytes made in parts is one move. Assumes nothing.
use Rattle.std.specs.Prelude.{◌≡◌, ℕ, ◌+◌, ◌-◌, ◌≤◌, ◌<◌, List, length, get_or, set}
use Rattle.std.proofs.Common.{sym, ap, ◌∙◌, arith}
use Rattle.octets.specs.Put.{put, cut, put_none, put_put, put_cover, put_ahead, set_behind, length_put, length_cut, cut_none, cut_add, cut_behind, get_d_put_after, cut_put_before, cut_put_after}

-- ---- both ends of a run

-- The first w and the last w of e + w elements, all read before one is written: together they cover the run.
pub both_ends : (d s d₁ d₂ : List ℕ) (to from n w e : ℕ) {a b : List ℕ} → n ≡ e + w → e ≤ w → from + n ≤ length s → to + n ≤ length d → a ≡ cut from w s → b ≡ cut (from + e) w s
    → d₁ ≡ put d to a → d₂ ≡ put d₁ (to + e) b → d₂ ≡ put d to (cut from n s)
both_ends d s d₁ d₂ to from n w e q h f g p r u v =
    let x : List ℕ = cut from e s in
    let y : List ℕ = cut (from + e) (w - e) s in
    let z : List ℕ = cut (from + e) w s in
    let lx : length x ≡ e = length_cut from e s (omega arith) in
    let ly : length y ≡ w - e = length_cut (from + e) (w - e) s (omega arith) in
    let lz : length z ≡ w = length_cut (from + e) w s (omega arith) in
    let ld : length (put d to x) ≡ length d = length_put d to x (omega arith) in
    let m : w ≡ e + (w - e) = omega arith in
    let u' : d₁ ≡ put (put d to x) (to + e) y =
    u ∙ ap (put d to) (p ∙ ap (λ (k : ℕ). cut from k s) m ∙ cut_add from e (w - e) s) ∙ sym (put_put d to e x y lx (omega arith)) in
    v ∙ (λ k. put (u' k) (to + e) (r k)) ∙ put_cover (put d to x) (to + e) (to + e) y z (omega arith) (omega arith) (omega arith)
    ∙ put_put d to e x z lx (omega arith) ∙ ap (put d to) (sym (cut_add from e w s)) ∙ ap (λ (k : ℕ). put d to (cut from k s)) (sym q)

-- ---- a run copied in parts

-- nothing yet,
pub copy_none : (d v : List ℕ) (to from : ℕ) → d ≡ put d to (cut from 0 v)
copy_none d v to from = sym (ap (put d to) (cut_none v from) ∙ put_none d to)

-- one element more,
pub copy_turn : (d₀ d v : List ℕ) (to from i : ℕ) {x : ℕ} → from + i < length v → to + i < length d₀ → x ≡ get_or v (from + i) 0 → d ≡ put d₀ to (cut from i v)
    → set d (to + i) x ≡ put d₀ to (cut from (i + 1) v)
copy_turn d₀ d v to from i h f q e =
    (λ k. set (e k) (to + i) (q k)) ∙ set_behind d₀ to i (cut from i v) (get_or v (from + i) 0) (length_cut from i v (omega arith)) f
    ∙ ap (put d₀ to) (sym (cut_behind v from i h))

-- w more (x is what they are),
pub copy_on : (d₀ d d' v : List ℕ) (to from i w n : ℕ) {x : List ℕ} → from + n ≤ length v → to + n ≤ length d₀ → n ≡ i + w → x ≡ cut (from + i) w v → d ≡ put d₀ to (cut from i v)
    → d' ≡ put d (to + i) x → d' ≡ put d₀ to (cut from n v)
copy_on d₀ d d' v to from i w n h f q e p r =
    let m : length (cut (from + i) w v) ≡ w = length_cut (from + i) w v (omega arith) in
    r ∙ (λ k. put (p k) (to + i) (e k)) ∙ put_put d₀ to i (cut from i v) (cut (from + i) w v) (length_cut from i v (omega arith)) (omega arith)
    ∙ ap (put d₀ to) (sym (cut_add from i w v)) ∙ ap (λ (k : ℕ). put d₀ to (cut from k v)) (sym q)

-- all of it.
pub copy_done : (d₀ d v : List ℕ) (to from n i : ℕ) → i ≤ n → n ≤ i → d ≡ put d₀ to (cut from i v) → d ≡ put d₀ to (cut from n v)
copy_done d₀ d v to from n i h f e = let q : i ≡ n = omega arith in e ∙ ap (λ (m : ℕ). put d₀ to (cut from m v)) q

-- ---- a slide to the left is a copy of what was there: what is still to be moved is as it was

pub left_ahead : (s₀ s : List ℕ) (from to i : ℕ) → to ≤ from → from + i < length s₀ → s ≡ put s₀ to (cut from i s₀) → get_or s (from + i) 0 ≡ get_or s₀ (from + i) 0
left_ahead s₀ s from to i h f e =
    let l : length (cut from i s₀) ≡ i = length_cut from i s₀ (omega arith) in
    ap (λ (x : List ℕ). get_or x (from + i) 0) e ∙ get_d_put_after s₀ to (cut from i s₀) (from + i) (omega arith) (omega arith)

pub left_on : (s₀ s s' : List ℕ) (from to i w n : ℕ) → to ≤ from → from + n ≤ length s₀ → n ≡ i + w → s ≡ put s₀ to (cut from i s₀) → s' ≡ put s (to + i) (cut (from + i) w s) → s' ≡ put s₀ to (cut from n s₀)
left_on s₀ s s' from to i w n h f q p r =
    let l : length (cut from i s₀) ≡ i = length_cut from i s₀ (omega arith) in
    let g : cut (from + i) w s ≡ cut (from + i) w s₀ = ap (cut (from + i) w) p ∙ cut_put_after s₀ to (cut from i s₀) (from + i) w (omega arith) (omega arith) in
    copy_on s₀ s s' s₀ to from i w n f (omega arith) q g p r

-- ---- a slide to the right

-- nothing yet,
pub right_none : (s : List ℕ) (from to n : ℕ) → s ≡ put s (to + n) (cut (from + n) (n - n) s)
right_none s from to n =
    let z : n - n ≡ 0 = omega arith in
    copy_none s s (to + n) (from + n) ∙ ap (λ (m : ℕ). put s (to + n) (cut (from + n) m s)) (sym z)

-- w more, ahead of the m that are in place.
pub right_on : (s₀ s s' : List ℕ) (from to from' to' m w n : ℕ) → from ≤ to → from' ≡ from + w → to' ≡ to + w → n ≡ w + m → to + n ≤ length s₀ → s ≡ put s₀ to' (cut from' m s₀)
    → s' ≡ put s to (cut from w s) → s' ≡ put s₀ to (cut from n s₀)
right_on s₀ s s' from to from' to' m w n h u v q f p r =
    let l : length (cut from w s₀) ≡ w = length_cut from w s₀ (omega arith) in
    let k : length (cut (from + w) m s₀) ≡ m = length_cut (from + w) m s₀ (omega arith) in
    let p' : s ≡ put s₀ (to + w) (cut (from + w) m s₀) = p ∙ (λ j. put s₀ (v j) (cut (u j) m s₀)) in
    let g : cut from w s ≡ cut from w s₀ =
    ap (cut from w) p' ∙ cut_put_before s₀ (to + w) (cut (from + w) m s₀) from w (omega arith) (omega arith) in
    r ∙ (λ j. put (p' j) to (g j)) ∙ put_ahead s₀ to w (cut from w s₀) (cut (from + w) m s₀) l (omega arith)
    ∙ ap (put s₀ to) (sym (cut_add from w m s₀)) ∙ ap (λ (j : ℕ). put s₀ to (cut from j s₀)) (sym q)
