-- Numbers as bytes, in either order. Assumes nothing.
use Rattle.std.specs.Prelude.{◌≡◌, refl, ℕ, zero, suc, ◌+◌, ◌*◌, ◌/◌, ◌%◌, ◌<◌, ◌^◌, Bool, true, false, List, [], ◌∷◌, ◌++◌, reverse, eqb, length, get_or}
use Rattle.std.proofs.Common.{sym, ap, ◌∙◌, subst, mul_assoc, zero-add, suc-add, arith, eq-eqb, ne_eqb, shr-shr, shr_lt, pow-add}
use Rattle.std.proofs.lemmas.List.{reverse-append, reverse-reverse, length-reverse}
use Rattle.std.proofs.Math.Pow.{field, mod-mod-pow}
use Rattle.octets.specs.Logic.{choose, either}

-- Core, Connection Setup: the byte `l` (154 octal) says least significant byte first, `B` (102 octal) most significant byte first.
abbrev pub little_order : ℕ
little_order = 108

abbrev pub big_order : ℕ
big_order = 66

-- the two orders there are
unfoldable pub legal : ℕ → Bool
legal o = either (eqb o little_order) (eqb o big_order)

-- the n low bytes of x, least significant first
unfoldable pub low_bytes : ℕ → ℕ → List ℕ
low_bytes zero x = []
low_bytes (suc n) x = (x % 256) ∷ low_bytes n (x / 256)

-- the number that bytes write, least significant first
unfoldable pub low_number : List ℕ → ℕ
low_number [] = 0
low_number (b ∷ bs) = b + 256 * low_number bs

-- bytes in their order turned to least significant first, and back
unfoldable pub turned : ℕ → List ℕ → List ℕ
turned o bs = choose (eqb o little_order) bs (reverse bs)

-- x as a field of n bytes in the order o
unfoldable pub bytes_of : ℕ → ℕ → ℕ → List ℕ
bytes_of o n x = turned o (low_bytes n x)

-- the number that the bytes of a field write in the order o
unfoldable pub number_in : ℕ → List ℕ → ℕ
number_in o bs = low_number (turned o bs)

-- Of a field's low and high half the one that stands first; and of its halves as they stand, the low one.
unfoldable pub ordered : ℕ → ℕ → ℕ → ℕ
ordered o low high = choose (eqb o little_order) low high

-- ---- laws of the low bytes

pub length_low_bytes : (n x : ℕ) → length (low_bytes n x) ≡ n
unfolding low_bytes
length_low_bytes zero x = refl
length_low_bytes (suc n) x = ap suc (length_low_bytes n (x / 256))

-- one byte more is eight bits more
eight : (n : ℕ) → 8 * suc n ≡ 8 * n + 8
eight n = omega arith

eight' : (n : ℕ) → 8 * suc n ≡ 8 + 8 * n
eight' n = omega arith

-- dividing byte by byte
shift : (x n : ℕ) → x / 256 / 2 ^ (8 * n) ≡ x / 2 ^ (8 * suc n)
shift x n = shr-shr x 8 (8 * n) ∙ ap (λ (m : ℕ). x / 2 ^ m) (sym (eight' n))

low_bytes_append : (n m x : ℕ) → low_bytes (n + m) x ≡ low_bytes n x ++ low_bytes m (x / 2 ^ (8 * n))
unfolding low_bytes
low_bytes_append zero m x = let e : x / 1 ≡ x = omega arith in rw (zero-add m, e)
low_bytes_append (suc n) m x =
    rw suc-add (ap (λ (l : List ℕ). x % 256 ∷ l) (low_bytes_append n m (x / 256) ∙ ap (λ (y : ℕ). low_bytes n (x / 256) ++ low_bytes m y) (shift x n)))

low_bytes_mod : (n x : ℕ) → low_bytes n (x % 2 ^ (8 * n)) ≡ low_bytes n x
unfolding low_bytes
low_bytes_mod zero x = refl
low_bytes_mod (suc n) x =
    let a : x % 2 ^ (8 * suc n) % 256 ≡ x % 256 = ap (λ (m : ℕ). x % 2 ^ m % 256) (eight n) ∙ mod-mod-pow x (8 * n) 8 in
    let b : x % 2 ^ (8 * suc n) / 256 ≡ x / 256 % 2 ^ (8 * n) = ap (λ (m : ℕ). x % 2 ^ m / 256) (eight n) ∙ field x (8 * n) 8 in
    (λ k. a k ∷ low_bytes n (b k)) ∙ ap (λ (l : List ℕ). x % 256 ∷ l) (low_bytes_mod n (x / 256))

pub low_number_low_bytes : (n x : ℕ) → x < 2 ^ (8 * n) → low_number (low_bytes n x) ≡ x
unfolding low_number low_bytes
low_number_low_bytes zero x h = omega arith
low_number_low_bytes (suc n) x h =
    let f : x / 256 < 2 ^ (8 * n) = shr_lt (8 * n) 8 (rw eight at h) in omega (arith, low_number_low_bytes n (x / 256) f)

low_number_append : (a b : List ℕ) → low_number (a ++ b) ≡ low_number a + 2 ^ (8 * length a) * low_number b
unfolding low_number
low_number_append [] b = omega arith
low_number_append (x ∷ a) b =
    let p : 2 ^ (8 * suc (length a)) * low_number b ≡ 256 * (2 ^ (8 * length a) * low_number b) =
    rw (eight' (length a), pow-add 2 8 (8 * length a), mul_assoc) in
    omega (arith, p, low_number_append a b)

-- ---- laws over order and width

-- turning keeps the length, and turning twice is nothing
pub length_turned : (o : ℕ) (bs : List ℕ) → length (turned o bs) ≡ length bs
unfolding turned choose
length_turned o bs = go (eqb o little_order)
  where
    go : (t : Bool) → length (choose t bs (reverse bs)) ≡ length bs
    go true = refl
    go false = length-reverse bs

turned_turned : (o : ℕ) (bs : List ℕ) → turned o (turned o bs) ≡ bs
unfolding turned choose
turned_turned o bs = go (eqb o little_order)
  where
    go : (t : Bool) → choose t (choose t bs (reverse bs)) (reverse (choose t bs (reverse bs))) ≡ bs
    go true = refl
    go false = reverse-reverse bs

-- a field has its width
pub length_bytes_of : (o n x : ℕ) → length (bytes_of o n x) ≡ n
unfolding bytes_of
length_bytes_of o n x = length_turned o (low_bytes n x) ∙ length_low_bytes n x

-- Read after write: a number that fits n bytes is read back from them.
pub number_bytes : (o n x : ℕ) → x < 2 ^ (8 * n) → number_in o (bytes_of o n x) ≡ x
unfolding number_in bytes_of
number_bytes o n x h = ap low_number (turned_turned o (low_bytes n x)) ∙ low_number_low_bytes n x h

-- a number as n bytes, least significant first
abbrev pub word : ℕ → ℕ → List ℕ
word n x = bytes_of little_order n x

-- every element is a byte
abbrev pub Octets : List ℕ → Type 0
Octets s = (i : ℕ) → get_or s i 0 < 256

low_read : (bs : List ℕ) → Octets bs → low_bytes (length bs) (low_number bs) ≡ bs
unfolding low_bytes low_number
low_read [] h = refl
low_read (b ∷ bs) h =
    let p : b < 256 = h 0 in
    let q : (b + 256 * low_number bs) % 256 ≡ b = omega arith in
    let r : (b + 256 * low_number bs) / 256 ≡ low_number bs = omega arith in
    (λ k. q k ∷ low_bytes (length bs) (r k)) ∙ ap (λ (l : List ℕ). b ∷ l) (low_read bs (λ i. h (suc i)))

-- Write after read: bytes are what their number is written as.
pub word_number : (bs : List ℕ) (n : ℕ) → length bs ≡ n → Octets bs → word n (number_in little_order bs) ≡ bs
unfolding bytes_of number_in turned choose
word_number bs n e h = ap (λ (m : ℕ). low_bytes m (low_number bs)) (sym e) ∙ low_read bs h

low_below : (bs : List ℕ) → Octets bs → low_number bs < 2 ^ (8 * length bs)
unfolding low_number
low_below [] h = omega arith
low_below (b ∷ bs) h =
    let p : b < 256 = h 0 in
    let e : 8 * suc (length bs) ≡ 8 + 8 * length bs = omega arith in
    let q : 2 ^ (8 * suc (length bs)) ≡ 256 * 2 ^ (8 * length bs) = rw (e, pow-add 2 8 (8 * length bs)) in
    omega (arith, q, low_below bs (λ i. h (suc i)))

-- the number of n bytes fits n bytes
pub number_below : (bs : List ℕ) (n : ℕ) → length bs ≡ n → Octets bs → number_in little_order bs < 2 ^ (8 * n)
unfolding number_in turned choose
number_below bs n e h = subst (λ (m : ℕ). low_number bs < 2 ^ (8 * m)) e (low_below bs h)

-- A field is its two halves, in either order and for each width: as it is written,
pub bytes_halves : (o n x : ℕ) → bytes_of o n (ordered o (x % 2 ^ (8 * n)) (x / 2 ^ (8 * n))) ++ bytes_of o n (ordered o (x / 2 ^ (8 * n)) (x % 2 ^ (8 * n))) ≡ bytes_of o (n + n) x
unfolding bytes_of turned ordered choose
bytes_halves o n x = go (eqb o little_order)
  where
    low : List ℕ
    low = low_bytes n (x % 2 ^ (8 * n))

    high : List ℕ
    high = low_bytes n (x / 2 ^ (8 * n))

    whole : low ++ high ≡ low_bytes (n + n) x
    whole = (λ j. low_bytes_mod n x j ++ high) ∙ sym (low_bytes_append n n x)

    go : (t : Bool)
        → choose t (low_bytes n (choose t (x % 2 ^ (8 * n)) (x / 2 ^ (8 * n)))) (reverse (low_bytes n (choose t (x % 2 ^ (8 * n)) (x / 2 ^ (8 * n)))))
        ++ choose t (low_bytes n (choose t (x / 2 ^ (8 * n)) (x % 2 ^ (8 * n)))) (reverse (low_bytes n (choose t (x / 2 ^ (8 * n)) (x % 2 ^ (8 * n)))))
        ≡ choose t (low_bytes (n + n) x) (reverse (low_bytes (n + n) x))
    go true = whole
    go false = sym (reverse-append low high) ∙ ap reverse whole

-- and as it is read.
pub number_halves : (o n : ℕ) (a b : List ℕ) → length a ≡ n → length b ≡ n
    → ordered o (number_in o a) (number_in o b) + 2 ^ (8 * n) * ordered o (number_in o b) (number_in o a) ≡ number_in o (a ++ b)
unfolding number_in turned ordered choose
number_halves o n a b p q = go (eqb o little_order)
  where
    go : (t : Bool)
        → choose t (low_number (choose t a (reverse a))) (low_number (choose t b (reverse b)))
        + 2 ^ (8 * n) * choose t (low_number (choose t b (reverse b))) (low_number (choose t a (reverse a)))
        ≡ low_number (choose t (a ++ b) (reverse (a ++ b)))
    go true = ap (λ (m : ℕ). low_number a + 2 ^ (8 * m) * low_number b) (sym p) ∙ sym (low_number_append a b)
    go false =
        ap (λ (m : ℕ). low_number (reverse b) + 2 ^ (8 * m) * low_number (reverse a)) (sym (length-reverse b ∙ q))
        ∙ sym (low_number_append (reverse b) (reverse a))
        ∙ ap low_number (sym (reverse-append a b))

-- A field of one byte is that byte: where the halving starts.
pub number_one : (o b : ℕ) → number_in o (b ∷ []) ≡ b
unfolding number_in turned choose low_number
number_one o b = go (eqb o little_order)
  where
    go : (t : Bool) → low_number (choose t (b ∷ []) (reverse (b ∷ []))) ≡ b
    go true = omega arith
    go false = omega arith

pub bytes_one : (o x : ℕ) → bytes_of o 1 x ≡ (x % 256) ∷ []
unfolding bytes_of turned choose low_bytes
bytes_one o x = go (eqb o little_order)
  where
    go : (t : Bool) → choose t ((x % 256) ∷ []) (reverse ((x % 256) ∷ [])) ≡ (x % 256) ∷ []
    go true = refl
    go false = refl

-- which half it is
pub ordered_low : (o low high : ℕ) → o ≡ little_order → low ≡ ordered o low high
unfolding ordered choose
ordered_low o low high e = simp (eq-eqb o little_order e)

pub ordered_high : (o low high : ℕ) → (o ≡ little_order → ⊥) → high ≡ ordered o low high
unfolding ordered choose
ordered_high o low high e = simp (ne_eqb o little_order e)
