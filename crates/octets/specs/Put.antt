-- A run of bytes put over a list, a run cut out of it, and their laws, grouped by the operation. Assumes nothing.
use Rattle.std.specs.Prelude.{◌≡◌, refl, ℕ, zero, suc, ◌+◌, ◌-◌, ◌≤◌, ◌<◌, List, [], ◌∷◌, ◌++◌, length, take, drop, get_or, set}
use Rattle.std.proofs.Common.{sym, ap, ◌∙◌, add-zero, zero-add, suc-add, add-one, arith, append_assoc, append-nil, length-append, length-drop, take-append-drop, take_at, drop_at, drop-drop, take-take, length-take-le, take-suc, drop-cons, get_or-take, get_or-drop, take-add}
use Rattle.std.proofs.Math.ListN.{get_or-append}
use Rattle.std.proofs.lemmas.List.{take-append-le, drop-append-le, set_split, set_at}
use Rattle.std.proofs.Math.Seq.{take-nil, take-length, drop-nil}

-- s with the elements v over those from index at on
unfoldable pub put : List ℕ → ℕ → List ℕ → List ℕ
put s at v = take at s ++ (v ++ drop (at + length v) s)

-- the n elements of s from index at on
unfoldable pub cut : ℕ → ℕ → List ℕ → List ℕ
cut at n s = take n (drop at s)

-- ---- put

pub length_put : (s : List ℕ) (at : ℕ) (v : List ℕ) → at + length v ≤ length s → length (put s at v) ≡ length s
unfolding put
length_put s at v h = simp (length-append, length-take-le at s (omega arith), length-drop) (omega arith)

pub put_none : (s : List ℕ) (at : ℕ) → put s at [] ≡ s
unfolding put
put_none s at = rw (add-zero at) (take-append-drop at s)

-- into an empty list
pub put_empty : (v : List ℕ) → put [] 0 v ≡ v
unfolding put
put_empty v = ap (λ (l : List ℕ). v ++ l) (drop-nil (0 + length v)) ∙ append-nil v

-- over the middle of three parts
pub put_parts : (a x c : List ℕ) (at : ℕ) (v : List ℕ) → length a ≡ at → length x ≡ length v → put (a ++ (x ++ c)) at v ≡ a ++ (v ++ c)
unfolding put
put_parts a x c at v e f =
    let l : length (a ++ x) ≡ at + length v = length-append a x ∙ (λ k. e k + f k) in
    rw (take_at a (x ++ c) at e, ← append_assoc a x c, drop_at (a ++ x) c (at + length v) l)

-- two side by side are one
pub put_put : (s : List ℕ) (at n : ℕ) (v w : List ℕ) → length v ≡ n → at + n + length w ≤ length s → put (put s at v) (at + n) w ≡ put s at (v ++ w)
unfolding put
put_put s at n v w e h =
    let l : length (take at s ++ v) ≡ at + n = length-append (take at s) v ∙ (λ k. length-take-le at s (omega arith) k + e k) in
    let t : take (at + n) (take at s ++ (v ++ drop (at + length v) s)) ≡ take at s ++ v =
    rw (← append_assoc (take at s) v (drop (at + length v) s), take_at (take at s ++ v) (drop (at + length v) s) (at + n) l) in
    let q : at + length v + length w ≡ at + length (v ++ w) = omega (arith, length-append v w) in
    let d : drop (at + n + length w) (take at s ++ (v ++ drop (at + length v) s)) ≡ drop (at + length (v ++ w)) s =
    ap (λ (k : List ℕ). drop (at + n + length w) k) (sym (append_assoc (take at s) v (drop (at + length v) s)))
    ∙ sym (drop-drop (length w) (at + n) (take at s ++ v ++ drop (at + length v) s))
    ∙ ap (λ (k : List ℕ). drop (length w) k) (drop_at (take at s ++ v) (drop (at + length v) s) (at + n) l)
    ∙ drop-drop (length w) (at + length v) s
    ∙ ap (λ (k : ℕ). drop k s) q in
    (λ k. t k ++ (w ++ d k)) ∙ simp append_assoc

-- writing on behind what was written
pub put_next : (s s₁ s₂ : List ℕ) (at n : ℕ) (v w : List ℕ) → s₁ ≡ put s at v → length v ≡ n → s₂ ≡ put s₁ (at + n) w → at + n + length w ≤ length s → s₂ ≡ put s at (v ++ w)
put_next s s₁ s₂ at n v w p l q h = q ∙ ap (λ (x : List ℕ). put x (at + n) w) p ∙ put_put s at n v w l h

-- and from the start
pub put_more : (s s₁ s₂ : List ℕ) (n : ℕ) (v w : List ℕ) → length v ≡ n → n + length w ≤ length s → s₁ ≡ put s 0 v → s₂ ≡ put s₁ n w → s₂ ≡ put s 0 (v ++ w)
put_more s s₁ s₂ n v w e h p q =
    q ∙ (λ k. put (p k) (sym (zero-add n) k) w) ∙ put_put s 0 n v w e (omega arith)

-- of two at one place the second stands
pub put_over : (s : List ℕ) (at : ℕ) (v w : List ℕ) → length v ≡ length w → at + length v ≤ length s → put (put s at v) at w ≡ put s at w
unfolding put
put_over s at v w e h =
    put_parts (take at s) v (drop (at + length v) s) at w (length-take-le at s (omega arith)) e
    ∙ ap (λ (n : ℕ). take at s ++ (w ++ drop (at + n) s)) e

-- what stands before it, and after it
pub take_put_before : (s : List ℕ) (at : ℕ) (v : List ℕ) (k : ℕ) → k ≤ at → at ≤ length s → take k (put s at v) ≡ take k s
unfolding put
take_put_before s at v k h f =
    take-append-le k (take at s) (v ++ drop (at + length v) s) (omega (arith, length-take-le at s f)) ∙ take-take k at s h

pub drop_put : (s : List ℕ) (at : ℕ) (v : List ℕ) → at + length v ≤ length s → drop (at + length v) (put s at v) ≡ drop (at + length v) s
unfolding put
drop_put s at v f =
    rw (← append_assoc (take at s) v (drop (at + length v) s))
    (drop_at (take at s ++ v) (drop (at + length v) s) (at + length v) (length-append (take at s) v ∙ ap (λ (k : ℕ). k + length v) (length-take-le at s (omega arith))))

-- up to its end
pub take_put : (s : List ℕ) (n : ℕ) (x : List ℕ) → n + length x ≤ length s → take (n + length x) (put s n x) ≡ take n s ++ x
unfolding put
take_put s n x h =
    let l : length (take n s ++ x) ≡ n + length x = omega (arith, length-append (take n s) x, length-take-le n s (omega arith)) in
    rw (← append_assoc (take n s) x (drop (n + length x) s)) (take_at (take n s ++ x) (drop (n + length x) s) (n + length x) l)

pub drop_put_after : (s : List ℕ) (at : ℕ) (v : List ℕ) (k : ℕ) → at + length v ≤ k → at + length v ≤ length s → drop k (put s at v) ≡ drop k s
drop_put_after s at v k h f =
    let e : at + length v + (k - (at + length v)) ≡ k = omega arith in
    ap (λ (m : ℕ). drop m (put s at v)) (sym e)
    ∙ sym (drop-drop (k - (at + length v)) (at + length v) (put s at v))
    ∙ ap (λ (l : List ℕ). drop (k - (at + length v)) l) (drop_put s at v f)
    ∙ drop-drop (k - (at + length v)) (at + length v) s
    ∙ ap (λ (m : ℕ). drop m s) e

-- a put that covers one before
pub put_cover : (s : List ℕ) (at k : ℕ) (v w : List ℕ) → at ≤ k → k + length v ≤ at + length w → k + length v ≤ length s → put (put s k v) at w ≡ put s at w
unfolding put
put_cover s at k v w h f r =
    λ j. take_put_before s k v at h (omega arith) j ++ (w ++ drop_put_after s k v (at + length w) f r j)

-- writing on ahead of what was written
pub put_ahead : (s : List ℕ) (at n : ℕ) (v w : List ℕ) → length v ≡ n → at + n + length w ≤ length s → put (put s (at + n) w) at v ≡ put s at (v ++ w)
unfolding put
put_ahead s at n v w e h =
    let t : take at (put s (at + n) w) ≡ take at s = take_put_before s (at + n) w at (omega arith) (omega arith) in
    let m : at + length v ≡ at + n = omega arith in
    let q : at + n + length w ≡ at + length (v ++ w) = omega (arith, length-append v w) in
    let d : drop (at + length v) (put s (at + n) w) ≡ w ++ drop (at + length (v ++ w)) s =
    ap (λ (k : ℕ). drop k (take (at + n) s ++ (w ++ drop (at + n + length w) s))) m
    ∙ drop_at (take (at + n) s) (w ++ drop (at + n + length w) s) (at + n) (length-take-le (at + n) s (omega arith))
    ∙ ap (λ (k : ℕ). w ++ drop k s) q in
    (λ k. t k ++ (v ++ d k)) ∙ ap (λ (l : List ℕ). take at s ++ l) (sym (append_assoc v w (drop (at + length (v ++ w)) s)))

pub get_d_put_before : (s : List ℕ) (at : ℕ) (v : List ℕ) (k : ℕ) → k < at → at ≤ length s → get_or (put s at v) k 0 ≡ get_or s k 0
unfolding put
get_d_put_before s at v k h f =
    get_or-append (take at s) (v ++ drop (at + length v) s) 0 k (omega (arith, length-take-le at s f)) ∙ get_or-take at s k 0 h

pub get_d_put_after : (s : List ℕ) (at : ℕ) (v : List ℕ) (k : ℕ) → at + length v ≤ k → at + length v ≤ length s → get_or (put s at v) k 0 ≡ get_or s k 0
get_d_put_after s at v k h f =
    ap (λ (m : ℕ). get_or (put s at v) m 0) (sym (add-zero k))
    ∙ sym (get_or-drop k (put s at v) 0 0)
    ∙ ap (λ (l : List ℕ). get_or l 0 0) (drop_put_after s at v k h f)
    ∙ get_or-drop k s 0 0
    ∙ ap (λ (m : ℕ). get_or s m 0) (add-zero k)

-- ---- a store is a put

pub set_one : (s : List ℕ) (i b : ℕ) → i < length s → set s i b ≡ put s i (b ∷ [])
unfolding put
set_one s i b h = set_split s i b h ∙ rw (add-one i)

-- a store right behind a put, and one right before
pub set_behind : (s : List ℕ) (at n : ℕ) (v : List ℕ) (b : ℕ) → length v ≡ n → at + n < length s → set (put s at v) (at + n) b ≡ put s at (v ++ (b ∷ []))
set_behind s at n v b e h =
    set_one (put s at v) (at + n) b (omega (arith, length_put s at v (omega arith))) ∙ put_put s at n v (b ∷ []) e (omega arith)

pub set_two : (s : List ℕ) (at x y : ℕ) → at + 2 ≤ length s → set (set s at x) (at + 1) y ≡ put s at (x ∷ y ∷ [])
set_two s at x y h =
    (λ k. set (set_one s at x (omega arith) k) (at + 1) y) ∙ set_behind s at 1 (x ∷ []) y refl (omega arith)

pub set_ahead : (s : List ℕ) (i : ℕ) (v : List ℕ) (b : ℕ) → i + 1 + length v ≤ length s → set (put s (i + 1) v) i b ≡ put s i (b ∷ v)
unfolding put
set_ahead s i v b h =
    let e : i + 1 + length v ≡ i + suc (length v) = omega arith in
    ap (λ (l : List ℕ). set (l ++ (v ++ drop (i + 1 + length v) s)) i b) (ap (λ (m : ℕ). take m s) (add-one i) ∙ take-suc s i 0 (omega arith))
    ∙ ap (λ (l : List ℕ). set l i b) (append_assoc (take i s) (get_or s i 0 ∷ []) (v ++ drop (i + 1 + length v) s))
    ∙ set_at (take i s) (get_or s i 0) (v ++ drop (i + 1 + length v) s) b i (length-take-le i s (omega arith))
    ∙ ap (λ (m : ℕ). take i s ++ (b ∷ (v ++ drop m s))) e

-- ---- cut

pub take_drop : (a n : ℕ) (s : List ℕ) → take n (drop a s) ≡ drop a (take (a + n) s)
take_drop zero n s = rw zero-add
take_drop (suc a) n [] = rw (take-nil n, take-nil (suc a + n))
take_drop (suc a) n (x ∷ s) = rw suc-add (take_drop a n s)

pub length_cut : (at n : ℕ) (s : List ℕ) → at + n ≤ length s → length (cut at n s) ≡ n
unfolding cut
length_cut at n s h = length-take-le n (drop at s) (omega (arith, length-drop at s))

pub cut_add : (at m n : ℕ) (s : List ℕ) → cut at (m + n) s ≡ cut at m s ++ cut (at + m) n s
unfolding cut
cut_add at m n s = take-add m n (drop at s) ∙ ap (λ (l : List ℕ). take m (drop at s) ++ take n l) (drop-drop m at s)

-- a cut one longer, behind and ahead
pub cut_one : (s : List ℕ) (i : ℕ) → i < length s → cut i 1 s ≡ get_or s i 0 ∷ []
unfolding cut
cut_one s i h = rw (drop-cons s i 0)

pub cut_behind : (s : List ℕ) (at n : ℕ) → at + n < length s → cut at (n + 1) s ≡ cut at n s ++ (get_or s (at + n) 0 ∷ [])
cut_behind s at n h = cut_add at n 1 s ∙ ap (λ (l : List ℕ). cut at n s ++ l) (cut_one s (at + n) h)

pub cut_ahead : (s : List ℕ) (i n : ℕ) → i < length s → cut i (1 + n) s ≡ get_or s i 0 ∷ cut (i + 1) n s
cut_ahead s i n h = cut_add i 1 n s ∙ ap (λ (l : List ℕ). l ++ cut (i + 1) n s) (cut_one s i h)

pub cut_none : (s : List ℕ) (at : ℕ) → cut at 0 s ≡ []
unfolding cut
cut_none s at = refl

pub cut_all : (s : List ℕ) → cut 0 (length s) s ≡ s
unfolding cut
cut_all s = take-length s

-- what stands behind does not matter
pub cut_append : (at n : ℕ) (s t : List ℕ) → at + n ≤ length s → cut at n (s ++ t) ≡ cut at n s
unfolding cut
cut_append at n s t h =
    ap (λ (l : List ℕ). take n l) (drop-append-le at s t (omega arith)) ∙ take-append-le n (drop at s) t (omega (arith, length-drop at s))

-- the middle of three parts
pub cut_parts : (a x c : List ℕ) (at n : ℕ) → length a ≡ at → length x ≡ n → cut at n (a ++ (x ++ c)) ≡ x
unfolding cut
cut_parts a x c at n e f = ap (λ (l : List ℕ). take n l) (drop_at a (x ++ c) at e) ∙ take_at x c n f

-- of two lists side by side
pub cut_first : (a b : List ℕ) (n : ℕ) → length a ≡ n → cut 0 n (a ++ b) ≡ a
unfolding cut
cut_first a b n e = take_at a b n e

pub cut_skip : (a b : List ℕ) (n k m : ℕ) → length a ≡ n → cut (n + k) m (a ++ b) ≡ cut k m b
unfolding cut
cut_skip a b n k m e =
    ap (λ (l : List ℕ). take m l) (sym (drop-drop k n (a ++ b)) ∙ ap (λ (l : List ℕ). drop k l) (drop_at a b n e))

-- a part between two ends
pub part_cut : (s : List ℕ) (a n : ℕ) → take (a + n - a) (drop a s) ≡ cut a n s
unfolding cut
part_cut s a n = let e : a + n - a ≡ n = omega arith in rw e

-- a part of a cut
pub cut_cut : (s : List ℕ) (at m a n : ℕ) → a + n ≤ m → cut a n (cut at m s) ≡ cut (at + a) n s
unfolding cut
cut_cut s at m a n h =
    take_drop a n (take m (drop at s))
    ∙ ap (λ (l : List ℕ). drop a l) (take-take (a + n) m (drop at s) h)
    ∙ sym (take_drop a n (drop at s))
    ∙ ap (λ (l : List ℕ). take n l) (drop-drop a at s)

-- within the first n
pub cut_take : (s : List ℕ) (n a m : ℕ) → a + m ≤ n → cut a m (take n s) ≡ cut a m s
unfolding cut
cut_take s n a m h = cut_cut s 0 n a m h ∙ ap (λ (k : ℕ). cut k m s) (zero-add a)

pub take_cut : (s : List ℕ) (at m k : ℕ) → k ≤ m → take k (cut at m s) ≡ cut at k s
unfolding cut
take_cut s at m k h = take-take k m (drop at s) h

pub drop_cut : (s : List ℕ) (at m k : ℕ) → k ≤ m → drop k (cut at m s) ≡ cut (at + k) (m - k) s
unfolding cut
drop_cut s at m k h =
    let e : m ≡ k + (m - k) = omega arith in
    ap (λ (x : ℕ). drop k (take x (drop at s))) e ∙ sym (take_drop k (m - k) (drop at s)) ∙ ap (λ (l : List ℕ). take (m - k) l) (drop-drop k at s)

pub get_d_cut : (s : List ℕ) (at m i : ℕ) → i < m → get_or (cut at m s) i 0 ≡ get_or s (at + i) 0
unfolding cut
get_d_cut s at m i h = get_or-take m (drop at s) i 0 h ∙ get_or-drop at s i 0

-- ---- a cut of a put: elsewhere nothing changed, there it is what was put

pub cut_put_before : (s : List ℕ) (at : ℕ) (v : List ℕ) (a n : ℕ) → a + n ≤ at → at ≤ length s → cut a n (put s at v) ≡ cut a n s
unfolding cut
cut_put_before s at v a n h f =
    take_drop a n (put s at v) ∙ ap (λ (l : List ℕ). drop a l) (take_put_before s at v (a + n) h f) ∙ sym (take_drop a n s)

pub cut_put_after : (s : List ℕ) (at : ℕ) (v : List ℕ) (a n : ℕ) → at + length v ≤ a → at + length v ≤ length s → cut a n (put s at v) ≡ cut a n s
unfolding cut
cut_put_after s at v a n h f = ap (λ (l : List ℕ). take n l) (drop_put_after s at v a h f)

pub cut_put : (s : List ℕ) (at : ℕ) (v : List ℕ) (n : ℕ) → length v ≡ n → at + n ≤ length s → cut at n (put s at v) ≡ v
unfolding cut put
cut_put s at v n e f =
    ap (λ (l : List ℕ). take n l) (drop_at (take at s) (v ++ drop (at + length v) s) at (length-take-le at s (omega arith))) ∙ take_at v (drop (at + length v) s) n e

-- what stands there already
pub put_same : (s : List ℕ) (at n : ℕ) → at + n ≤ length s → put s at (cut at n s) ≡ s
unfolding put cut
put_same s at n h =
    let l : at + length (take n (drop at s)) ≡ at + n = ap (λ (k : ℕ). at + k) (length_cut at n s h) in
    ap (λ (k : ℕ). take at s ++ (take n (drop at s) ++ drop k s)) l
    ∙ ap (λ (t : List ℕ). take at s ++ (take n (drop at s) ++ t)) (sym (drop-drop n at s))
    ∙ ap (λ (t : List ℕ). take at s ++ t) (take-append-drop n (drop at s))
    ∙ take-append-drop at s

-- a put within a cut
pub cut_put_inside : (s : List ℕ) (a n k : ℕ) (v : List ℕ) → k + length v ≤ n → a + n ≤ length s → cut a n (put s (a + k) v) ≡ put (cut a n s) k v
unfolding put
cut_put_inside s a n k v h f =
    let m : ℕ = length v in
    let r : ℕ = n - (k + m) in
    let q : n ≡ k + (m + r) = omega arith in
    let x : a + k + m ≡ a + (k + m) = omega arith in
    let s' : List ℕ = put s (a + k) v in
    ap (λ (j : ℕ). cut a j s') q
    ∙ cut_add a k (m + r) s'
    ∙ ap (λ (l : List ℕ). cut a k s' ++ l) (cut_add (a + k) m r s')
    ∙ (λ j. cut_put_before s (a + k) v a k (omega arith) (omega arith) j ++ (cut_put s (a + k) v m refl (omega arith) j ++ cut_put_after s (a + k) v (a + k + m) r (omega arith) (omega arith) j))
    ∙ (λ j. sym (take_cut s a n k (omega arith)) j ++ (v ++ cut (x j) r s))
    ∙ ap (λ (l : List ℕ). take k (cut a n s) ++ (v ++ l)) (sym (drop_cut s a n (k + m) h))
