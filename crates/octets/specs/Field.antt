-- A field of n bytes at a place of a list, in either order. Assumes nothing.
use Rattle.std.specs.Prelude.{◌≡◌, refl, ℕ, zero, suc, ◌+◌, ◌*◌, ◌/◌, ◌%◌, ◌≤◌, ◌<◌, ◌^◌, List, [], ◌∷◌, ◌++◌, length, take, drop, get_or, set}
use Rattle.std.proofs.Common.{sym, ap, ◌∙◌, subst, suc-add, mul-suc, arith, length-append, length-take, drop-drop, get_or-drop}
use Rattle.std.proofs.Math.Decide.{dec_lt}
use Rattle.std.proofs.Math.ListN.{get_or-eq_default}
use Rattle.octets.specs.Bytes.{little_order, word, Octets, word_number, bytes_of, number_in, ordered, length_bytes_of, number_bytes, bytes_halves, number_halves, number_one, bytes_one}
use Rattle.octets.specs.Put.{put, cut, cut_first, cut_skip, put_put, put_next, get_d_cut, cut_put, cut_put_before, cut_put_after, cut_add, cut_one, length_cut, set_one}

-- the number in the n bytes of s from index at on
unfoldable pub field : ℕ → ℕ → ℕ → List ℕ → ℕ
field o at n s = number_in o (cut at n s)

-- s with x in the n bytes from index at on
unfoldable pub put_field : ℕ → List ℕ → ℕ → ℕ → ℕ → List ℕ
put_field o s at n x = put s at (bytes_of o n x)

-- Read after write.
pub field_put : (o : ℕ) (s : List ℕ) (at n x : ℕ) → at + n ≤ length s → x < 2 ^ (8 * n) → field o at n (put_field o s at n x) ≡ x
unfolding field put_field
field_put o s at n x h f = ap (number_in o) (cut_put s at (bytes_of o n x) n (length_bytes_of o n x) h) ∙ number_bytes o n x f

-- A write leaves every field alone that lies before it or after it, of any width and in any order.
pub field_put_before : (o p : ℕ) (s : List ℕ) (at n x a m : ℕ) → at + n ≤ length s → a + m ≤ at → field p a m (put_field o s at n x) ≡ field p a m s
unfolding field put_field
field_put_before o p s at n x a m h f = ap (number_in p) (cut_put_before s at (bytes_of o n x) a m f (omega arith))

pub field_put_after : (o p : ℕ) (s : List ℕ) (at n x a m : ℕ) → at + n ≤ length s → at + n ≤ a → field p a m (put_field o s at n x) ≡ field p a m s
unfolding field put_field
field_put_after o p s at n x a m h f =
    let l : length (bytes_of o n x) ≡ n = length_bytes_of o n x in
    ap (number_in p) (cut_put_after s at (bytes_of o n x) a m (omega arith) (omega arith))

-- A field is written as its two halves p and q,
pub put_halves : (o : ℕ) (s s₁ s₂ : List ℕ) (at n x : ℕ) {p q : ℕ} → at + (n + n) ≤ length s → p ≡ ordered o (x % 2 ^ (8 * n)) (x / 2 ^ (8 * n))
    → q ≡ ordered o (x / 2 ^ (8 * n)) (x % 2 ^ (8 * n)) → s₁ ≡ put_field o s at n p → s₂ ≡ put_field o s₁ (at + n) n q → s₂ ≡ put_field o s at (n + n) x
unfolding put_field
put_halves o s s₁ s₂ at n x {p} {q} h e f g i =
    let l : length (bytes_of o n q) ≡ n = length_bytes_of o n q in
    i ∙ ap (λ (t : List ℕ). put t (at + n) (bytes_of o n q)) g ∙ put_put s at n (bytes_of o n p) (bytes_of o n q) (length_bytes_of o n p) (omega arith)
    ∙ (λ k. put s at (bytes_of o n (e k) ++ bytes_of o n (f k))) ∙ ap (put s at) (bytes_halves o n x)

-- and read as its two halves a and b.
pub field_halves : (o : ℕ) (s : List ℕ) (at n a b : ℕ) {p q : ℕ} → at + (n + n) ≤ length s → p ≡ ordered o a b → q ≡ ordered o b a → a ≡ field o at n s
    → b ≡ field o (at + n) n s → p + 2 ^ (8 * n) * q ≡ field o at (n + n) s
unfolding field
field_halves o s at n a b h e f g i =
    (λ k. e k + 2 ^ (8 * n) * f k) ∙ (λ k. ordered o (g k) (i k) + 2 ^ (8 * n) * ordered o (i k) (g k))
    ∙ number_halves o n (cut at n s) (cut (at + n) n s) (length_cut at n s (omega arith)) (length_cut (at + n) n s (omega arith))
    ∙ ap (number_in o) (sym (cut_add at n n s))

-- The halving ends at single bytes.
pub field_one : (o : ℕ) (s : List ℕ) (at : ℕ) → at < length s → get_or s at 0 ≡ field o at 1 s
unfolding field
field_one o s at h = sym (ap (number_in o) (cut_one s at h) ∙ number_one o (get_or s at 0))

pub put_one : (o : ℕ) (s : List ℕ) (at x : ℕ) → at < length s → x < 256 → set s at x ≡ put_field o s at 1 x
unfolding put_field
put_one o s at x h f =
    let e : x % 256 ≡ x = omega arith in
    set_one s at x h ∙ ap (put s at) (sym (bytes_one o x ∙ ap (λ (y : ℕ). y ∷ []) e))

-- n fields of w bytes, side by side from index at on
unfoldable pub fields : ℕ → ℕ → ℕ → ℕ → List ℕ → List ℕ
fields o w at zero s = []
fields o w at (suc n) s = field o at w s ∷ fields o w (at + w) n s

pub length_fields : (o w at n : ℕ) (s : List ℕ) → length (fields o w at n s) ≡ n
unfolding fields
length_fields o w at zero s = refl
length_fields o w at (suc n) s = ap suc (length_fields o w (at + w) n s)

-- one field more stands behind the others
pub fields_behind : (o w at n : ℕ) (s : List ℕ) → fields o w at (n + 1) s ≡ fields o w at n s ++ (field o (at + w * n) w s ∷ [])
unfolding fields
fields_behind o w at zero s = let e : at ≡ at + w * 0 = omega arith in ap (λ (k : ℕ). field o k w s ∷ []) e
fields_behind o w at (suc n) s =
    let e : at + w + w * n ≡ at + w * suc n = omega (arith, mul-suc w n) in
    rw suc-add (ap (λ (l : List ℕ). field o at w s ∷ l) (fields_behind o w (at + w) n s ∙ ap (λ (k : ℕ). fields o w (at + w) n s ++ (field o k w s ∷ [])) e))

-- ---- a field behind an index, of a number at the front, and past one

pub field_drop : (o : ℕ) (s : List ℕ) (at k n : ℕ) → field o k n (drop at s) ≡ field o (at + k) n s
unfolding field cut
field_drop o s at k n = ap (λ (l : List ℕ). number_in o (take n l)) (drop-drop k at s)

pub field_first : (n x : ℕ) (b : List ℕ) → x < 2 ^ (8 * n) → field little_order 0 n (word n x ++ b) ≡ x
unfolding field
field_first n x b h = ap (number_in little_order) (cut_first (word n x) b n (length_bytes_of little_order n x)) ∙ number_bytes little_order n x h

pub field_skip : (n x k m : ℕ) (b : List ℕ) → field little_order (n + k) m (word n x ++ b) ≡ field little_order k m b
unfolding field
field_skip n x k m b = ap (number_in little_order) (cut_skip (word n x) b n k m (length_bytes_of little_order n x))

pub octets_cut : (at n : ℕ) (s : List ℕ) → Octets s → Octets (cut at n s)
unfolding cut
octets_cut at n s h i = elim (dec_lt i n) [ yes p ↦ rw (get_d_cut s at n i p) (h (at + i)) | no q ↦ past q ]
  where
    past : (i < n → ⊥) → get_or (cut at n s) i 0 < 256
    past q =
        let e : get_or (cut at n s) i 0 ≡ 0 = get_or-eq_default (cut at n s) 0 (omega (arith, length-take n (drop at s))) in
        omega arith

pub octets_drop : (n : ℕ) (s : List ℕ) → Octets s → Octets (drop n s)
octets_drop n s h i = subst (λ (x : ℕ). x < 256) (sym (get_or-drop n s i 0)) (h (n + i))

-- four numbers of eight bytes each, least significant first, side by side
unfoldable pub four : ℕ → ℕ → ℕ → ℕ → List ℕ
four a b c d = word 8 a ++ word 8 b ++ word 8 c ++ word 8 d

-- Read from a list they are its bytes,
pub four_read : (s : List ℕ) (at : ℕ) {a b c d : ℕ} → Octets s → at + 32 ≤ length s → a ≡ field little_order at 8 s → b ≡ field little_order (at + 8) 8 s
    → c ≡ field little_order (at + 16) 8 s → d ≡ field little_order (at + 24) 8 s → four a b c d ≡ cut at 32 s
unfolding four field
four_read s at o h p q r t =
    (λ k. word 8 (p k) ++ word 8 (q k) ++ word 8 (r k) ++ word 8 (t k))
    ∙ (λ k. one at (omega arith) k ++ one (at + 8) (omega arith) k ++ one (at + 16) (omega arith) k ++ one (at + 24) (omega arith) k)
    ∙ sym (cut_add at 24 8 s ∙ ap (λ (l : List ℕ). l ++ cut (at + 24) 8 s) (cut_add at 16 8 s ∙ ap (λ (l : List ℕ). l ++ cut (at + 16) 8 s) (cut_add at 8 8 s)))
  where
    one : (k : ℕ) → k + 8 ≤ length s → word 8 (number_in little_order (cut k 8 s)) ≡ cut k 8 s
    one k f = word_number (cut k 8 s) 8 (length_cut k 8 s f) (octets_cut k 8 s o)

-- and written one by one they are one run.
pub four_put : (s s₁ s₂ s₃ s₄ : List ℕ) (at a b c d : ℕ) → at + 32 ≤ length s → s₁ ≡ put_field little_order s at 8 a → s₂ ≡ put_field little_order s₁ (at + 8) 8 b
    → s₃ ≡ put_field little_order s₂ (at + 16) 8 c → s₄ ≡ put_field little_order s₃ (at + 24) 8 d → s₄ ≡ put s at (four a b c d)
unfolding four put_field
four_put s s₁ s₂ s₃ s₄ at a b c d h p q r t =
    let la : length (word 8 a) ≡ 8 = length_bytes_of little_order 8 a in
    let lb : length (word 8 b) ≡ 8 = length_bytes_of little_order 8 b in
    let lc : length (word 8 c) ≡ 8 = length_bytes_of little_order 8 c in
    let ld : length (word 8 d) ≡ 8 = length_bytes_of little_order 8 d in
    let q₂ : s₂ ≡ put s at (word 8 a ++ word 8 b) = put_next s s₁ s₂ at 8 _ _ p la q (omega arith) in
    let q₃ : s₃ ≡ put s at (word 8 a ++ word 8 b ++ word 8 c) = put_next s s₂ s₃ at 16 _ _ q₂ (simp (length-append, length_bytes_of)) r (omega arith) in
    put_next s s₃ s₄ at 24 _ _ q₃ (simp (length-append, length_bytes_of)) t (omega arith)
