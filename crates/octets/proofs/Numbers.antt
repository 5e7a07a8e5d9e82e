-- Fields by the library's conversions between numbers and bytes, through their halves. Assumes nothing.
use Rattle.std.specs.Prelude.{◌≡◌, refl, ℕ, zero, suc, ◌+◌, ◌*◌, ◌/◌, ◌%◌, ◌≤◌, ◌<◌, ◌^◌, true, false, List, [], ◌∷◌, eqb, length, get_or}
use Rattle.std.specs.Int.{w16, w32, w64, from_le_bytes, from_be_bytes, byte_at, bytes_low_first, bytes_high_first}
use Rattle.std.proofs.Common.{sym, ap, ◌∙◌, add_assoc, arith, pow-add}
use Rattle.std.proofs.lemmas.Nat.{mul-add-lt, div-mul-add, mod-mul-add}
use Rattle.octets.specs.Logic.{choose}
use Rattle.octets.specs.Bytes.{little_order, ordered, ordered_low, ordered_high, Octets}
use Rattle.octets.specs.Put.{cut, cut_one, cut_add, cut_all, length_cut, put, put_put, set_one, length_put}
use Rattle.octets.specs.Field.{field, field_one, field_halves, put_field, put_one, put_halves}

-- the bytes of a field that is halved k times
abbrev pub width : ℕ → ℕ
width zero = 1
width (suc k) = width k + width k

-- the number whose halves, each below m, stand as a and b
abbrev whole : ℕ → ℕ → ℕ → ℕ → ℕ
whole o m a b = ordered o a b + m * ordered o b a

-- the number of the bytes from index at on, which are halved k times
abbrev joined : ℕ → ℕ → ℕ → List ℕ → ℕ
joined o zero at s = get_or s at 0
joined o (suc k) at s = whole o (2 ^ (8 * width k)) (joined o k at s) (joined o k (at + width k) s)

-- ---- as it is read

-- A field is its halves joined, in either order and for each width.
joined_field : (o k at : ℕ) (s : List ℕ) → at + width k ≤ length s → joined o k at s ≡ field o at (width k) s
joined_field o zero at s h = field_one o s at (omega arith)
joined_field o (suc k) at s h =
    field_halves o s at (width k) _ _ h refl refl (joined_field o k at s (omega arith)) (joined_field o k (at + width k) s (omega arith))

-- n elements of s from index at + k on
abbrev pub row : ℕ → ℕ → ℕ → List ℕ → List ℕ
row zero k at s = []
row (suc n) k at s = get_or s (at + k) 0 ∷ row n (k + 1) at s

-- Least significant first, the first of two is taken,
take_first : {o : ℕ} → o ≡ little_order → (a b : ℕ) → ordered o a b ≡ a
take_first e a b = sym (ordered_low _ a b e)

-- and otherwise the second.
take_second : {o : ℕ} → (o ≡ little_order → ⊥) → (a b : ℕ) → ordered o a b ≡ b
take_second e a b = sym (ordered_high _ a b e)

-- What the library reads is the halves joined, halved once, twice or three times.
module _ (o at : ℕ) (s : List ℕ) {r : ℕ} where
  pub read_le_2 : at + 2 ≤ length s → o ≡ little_order → r ≡ from_le_bytes w16 (get_or s at 0 ∷ row 1 1 at s) → r ≡ field o at 2 s
  read_le_2 h e p = let q = simp (take_first e) at (joined_field o 1 at s h) in omega arith

  pub read_be_2 : at + 2 ≤ length s → (o ≡ little_order → ⊥) → r ≡ from_be_bytes w16 (get_or s at 0 ∷ row 1 1 at s) → r ≡ field o at 2 s
  read_be_2 h e p = let q = simp (take_second e) at (joined_field o 1 at s h) in omega arith

  pub read_le_4 : at + 4 ≤ length s → o ≡ little_order → r ≡ from_le_bytes w32 (get_or s at 0 ∷ row 3 1 at s) → r ≡ field o at 4 s
  read_le_4 h e p = let q = simp (take_first e, add_assoc) at (joined_field o 2 at s h) in omega arith

  pub read_be_4 : at + 4 ≤ length s → (o ≡ little_order → ⊥) → r ≡ from_be_bytes w32 (get_or s at 0 ∷ row 3 1 at s) → r ≡ field o at 4 s
  read_be_4 h e p = let q = simp (take_second e, add_assoc) at (joined_field o 2 at s h) in omega arith

  pub read_le_8 : at + 8 ≤ length s → o ≡ little_order → r ≡ from_le_bytes w64 (get_or s at 0 ∷ row 7 1 at s) → r ≡ field o at 8 s
  read_le_8 h e p = let q = simp (take_first e, add_assoc) at (joined_field o 3 at s h) in omega arith

  pub read_be_8 : at + 8 ≤ length s → (o ≡ little_order → ⊥) → r ≡ from_be_bytes w64 (get_or s at 0 ∷ row 7 1 at s) → r ≡ field o at 8 s
  read_be_8 h e p = let q = simp (take_second e, add_assoc) at (joined_field o 3 at s h) in omega arith

-- ---- as it is written

-- Ordered twice, two halves stand as before.
ordered_twice : (o a b : ℕ) → ordered o (ordered o a b) (ordered o b a) ≡ a
unfolding ordered choose
ordered_twice o a b = elim (eqb o little_order) as (λ t. choose t (choose t a b) (choose t b a) ≡ a) [ true ↦ refl | false ↦ refl ]

-- What both halves are below, either half is below.
ordered_below : (o m a b : ℕ) → a < m → b < m → ordered o a b < m
unfolding ordered choose
ordered_below o m a b h f = elim (eqb o little_order) as (λ t. choose t a b < m) [ true ↦ h | false ↦ f ]

module _ (o m a b : ℕ) (h : a < m) (f : b < m) where
  -- The product stands first, as the library's laws have it.
  split : whole o m a b ≡ ordered o b a * m + ordered o a b
  split = omega arith

  -- The low half is the rest by m,
  low : ordered o a b ≡ whole o m a b % m
  low = sym (rw split (mod-mul-add (ordered o b a) m (ordered o a b) (ordered_below o m a b h f)))

  -- the high one the quotient,
  high : ordered o b a ≡ whole o m a b / m
  high = sym (rw split (div-mul-add (ordered o b a) m (ordered o a b) (ordered_below o m a b h f)))

  -- so the order says which of them stands first,
  first : a ≡ ordered o (whole o m a b % m) (whole o m a b / m)
  first = sym (ordered_twice o a b) ∙ (λ k. ordered o (low k) (high k))

  -- and which second,
  second : b ≡ ordered o (whole o m a b / m) (whole o m a b % m)
  second = sym (ordered_twice o b a) ∙ (λ k. ordered o (high k) (low k))

  -- and the number is below the square.
  below : whole o m a b < m * m
  below = rw split (mul-add-lt (ordered o b a) m (ordered o a b) m (ordered_below o m b a f h) (ordered_below o m a b h f))

module _ (o : ℕ) (v : List ℕ) (h : Octets v) where
  -- Bytes join to a number that fits them.
  joined_below : (k i : ℕ) → joined o k i v < 2 ^ (8 * width k)
  joined_below zero i = h i
  joined_below (suc k) i =
      let e : 8 * (width k + width k) ≡ 8 * width k + 8 * width k = omega arith in
      rw (e, pow-add 2 (8 * width k) (8 * width k)) (below o _ _ _ (joined_below k i) (joined_below k (i + width k)))

  -- To put bytes is to write the halves that they join to, in either order and for each width.
  joined_put : (k i : ℕ) (s : List ℕ) (at : ℕ) → i + width k ≤ length v → at + width k ≤ length s → put s at (cut i (width k) v) ≡ put_field o s at (width k) (joined o k i v)
  joined_put zero i s at f g =
      ap (put s at) (cut_one v i (omega arith)) ∙ sym (set_one s at (get_or v i 0) (omega arith)) ∙ put_one o s at (get_or v i 0) (omega arith) (h i)
  joined_put (suc k) i s at f g =
      let n : ℕ = width k in
      let a : joined o k i v < 2 ^ (8 * n) = joined_below k i in
      let b : joined o k (i + n) v < 2 ^ (8 * n) = joined_below k (i + n) in
      let p : length (cut i n v) ≡ n = length_cut i n v (omega arith) in
      ap (put s at) (cut_add i n n v)
      ∙ sym (put_put s at n (cut i n v) (cut (i + n) n v) p (omega (arith, length_cut (i + n) n v (omega arith))))
      ∙ put_halves o s (put s at (cut i n v)) _ at n _ g (first o _ _ _ a b) (second o _ _ _ a b) (joined_put k i s at (omega arith) (omega arith))
      (joined_put k (i + n) (put s at (cut i n v)) (at + n) (omega arith) (omega (arith, length_put s at (cut i n v) (omega arith))))

-- Whatever the number, each of its bytes is below 256,
octet : (i x : ℕ) → byte_at i x < 256
octet zero x = omega arith
octet (suc i) x = omega arith

-- so what the library writes are bytes, the lowest first
pub octets_low : (i k x : ℕ) → Octets (bytes_low_first i k x)
octets_low i zero x j = omega arith
octets_low i (suc k) x zero = octet i x
octets_low i (suc k) x (suc j) = octets_low (suc i) k x j

-- or the highest.
pub octets_high : (k x : ℕ) → Octets (bytes_high_first k x)
octets_high zero x j = omega arith
octets_high (suc k) x zero = octet k x
octets_high (suc k) x (suc j) = octets_high k x j

-- Bytes w put over a field are a write of the number that is read from them.
pub bytes_put : (o k : ℕ) (s : List ℕ) (at : ℕ) {x : ℕ} {v w s' : List ℕ} → at + width k ≤ length s → s' ≡ put s at v → v ≡ w → Octets w → length w ≡ width k
    → x ≡ field o 0 (width k) w → s' ≡ put_field o s at (width k) x
bytes_put o k s at {w = w} h p q b l r =
    let c : w ≡ cut 0 (width k) w = sym (ap (λ (n : ℕ). cut 0 n w) (sym l) ∙ cut_all w) in
    p ∙ ap (put s at) (q ∙ c) ∙ joined_put o w b k 0 s at (omega arith) h ∙ ap (put_field o s at (width k)) (joined_field o k 0 w (omega arith) ∙ sym r)
