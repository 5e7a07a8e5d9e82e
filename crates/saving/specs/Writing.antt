-- Sections of numbers, bytes and requests: what is put field by field is the section. Assumes nothing.
use Rattle.std.specs.Prelude.{◌≡◌, refl, Bool, true, false, List, [], ◌∷◌, ◌++◌, ℕ, ◌+◌, ◌*◌, ◌-◌, ◌≤◌, ◌<◌, length, take, drop, set, get_or, suc}
use Rattle.std.proofs.Common.{sym, ap, ◌∙◌, append_assoc, append-nil, arith, length-append, length-take-le}
use mir.Val.{bool_byte}
use Rattle.std.proofs.Math.Seq.{take-suc, take-length}
use Rattle.octets.specs.Logic.{choose}
use Rattle.octets.specs.Bytes.{little_order, word, length_bytes_of}
use Rattle.octets.specs.Put.{put, length_put, put_none, put_next, set_behind}
use Rattle.octets.specs.Field.{put_field}
use Rattle.requests.specs.declared.Request.{Request}
use Rattle.requests.specs.Room.{request_at, upto, outstanding}
use Rattle.requests.specs.Upto.{length_upto, upto_behind}
use Rattle.form.specs.Form.{Form, number, byte, counted, writes}
use Rattle.form.proofs.At.{bytes_written, length_numbers}
use Rattle.savepoint.specs.Saved.{mode_code, request_code, request}

-- ---- numbers

-- one more number of w bytes behind what was put
more : (s s₁ s₂ : List ℕ) (to n w x : ℕ) (v : List ℕ) → s₁ ≡ put s to v → length v ≡ n → s₂ ≡ put_field little_order s₁ (to + n) w x → to + (n + w) ≤ length s
    → (s₂ ≡ put s to (v ++ word w x)) × (length (v ++ word w x) ≡ n + w)
unfolding put_field
more s s₁ s₂ to n w x v p l q h =
    let k : length (word w x) ≡ w = length_bytes_of little_order w x in
    (put_next s s₁ s₂ to n v (word w x) p l q (omega arith), omega (arith, length-append v (word w x)))

-- the count
pub headed : (s s₁ : List ℕ) (to n : ℕ) → s₁ ≡ put_field little_order s to 4 n → (s₁ ≡ put s to (word 4 n)) × (length (word 4 n) ≡ 4)
unfolding put_field
headed s s₁ to n p = (p, length_bytes_of little_order 4 n)

-- a number behind others
numbers_behind : (l : List ℕ) (x : ℕ) → writes (number 8) (l ++ (x ∷ [])) ≡ writes (number 8) l ++ word 8 x
unfolding writes
numbers_behind [] x = append-nil (word 8 x)
numbers_behind (y ∷ l) x = ap (λ (v : List ℕ). word 8 y ++ v) (numbers_behind l x) ∙ sym (append_assoc (word 8 y) (writes (number 8) l) (word 8 x))

-- the loop: their count and so many of them are put
pub record Numbers (s₀ : List ℕ) (to : ℕ) (l s : List ℕ) (i : ℕ) : Type 0 where
  pub now : s ≡ put s₀ to (word 4 (length l) ++ writes (number 8) (take i l))

module _ (s₀ : List ℕ) (to : ℕ) (l : List ℕ) (h : to + (4 + 8 * length l) ≤ length s₀) where
  pub numbers_start : (s : List ℕ) → s ≡ put_field little_order s₀ to 4 (length l) → Numbers s₀ to l s 0
  unfolding writes put_field
  numbers_start s p = record { now = p ∙ ap (put s₀ to) (sym (append-nil (word 4 (length l)))) }

  module _ (s : List ℕ) (i : ℕ) (I : Numbers s₀ to l s i) (m : i ≤ length l) where
    abbrev done : List ℕ
    done = word 4 (length l) ++ writes (number 8) (take i l)

    done_long : length done ≡ 4 + 8 * i
    done_long = omega (arith, length-append (word 4 (length l)) (writes (number 8) (take i l)), length_bytes_of little_order 4 (length l), length_numbers (take i l), length-take-le i l m)

    pub numbers_long : length s ≡ length s₀
    numbers_long = ap length I.now ∙ length_put s₀ to done (omega (arith, done_long))

    pub numbers_again : i < length l → (s' : List ℕ) → s' ≡ put_field little_order s (to + (4 + 8 * i)) 8 (get_or l i 0) → Numbers s₀ to l s' (i + 1)
    numbers_again k s' q =
        let x : ℕ = get_or l i 0 in
        let n : suc i ≡ i + 1 = omega arith in
        let a = more s₀ s s' to (4 + 8 * i) 8 x done I.now done_long q (omega arith) in
        let e : writes (number 8) (take i l) ++ word 8 x ≡ writes (number 8) (take (i + 1) l) = sym (numbers_behind (take i l) x) ∙ ap (writes (number 8)) (sym (take-suc l i 0 k)) ∙ ap (λ (j : ℕ). writes (number 8) (take j l)) n in
        record { now = a.0 ∙ ap (put s₀ to) (append_assoc (word 4 (length l)) (writes (number 8) (take i l)) (word 8 x) ∙ ap (λ (v : List ℕ). word 4 (length l) ++ v) e) }

    pub numbers_done : length l ≤ i → s ≡ put s₀ to ((counted 4 (number 8)).write l)
    numbers_done k =
        let n : i ≡ length l = omega arith in
        I.now ∙ ap (λ (v : List ℕ). put s₀ to (word 4 (length l) ++ writes (number 8) v)) (ap (λ (j : ℕ). take j l) n ∙ take-length l)

-- ---- a count, then what it counts

pub counted_put : {A : Type 0} (f : Form A) (l : List A) (s s₁ s₂ : List ℕ) (to n : ℕ) → n ≡ length l → s₁ ≡ put_field little_order s to 4 n → s₂ ≡ put s₁ (to + 4) (writes f l)
    → to + (4 + length (writes f l)) ≤ length s → s₂ ≡ put s to ((counted 4 f).write l)
counted_put f l s s₁ s₂ to n e p q h =
    let k = headed s s₁ to n p in
    put_next s s₁ s₂ to 4 (word 4 n) (writes f l) k.0 k.1 q (omega arith) ∙ ap (λ (m : ℕ). put s to (word 4 m ++ writes f l)) e

-- the first n bytes of a buffer
pub run_put : (buf s s₁ s₂ : List ℕ) (to n : ℕ) → s₁ ≡ put_field little_order s to 4 n → s₂ ≡ put s₁ (to + 4) (take (n - 0) (drop 0 buf)) → n ≤ length buf → to + (4 + n) ≤ length s
    → s₂ ≡ put s to ((counted 4 byte).write (take n buf))
run_put buf s s₁ s₂ to n p q h k =
    let e : length (take n buf) ≡ n = length-take-le n buf h in
    let z : n - 0 ≡ n = omega arith in
    let w = bytes_written (take n buf) in
    counted_put byte (take n buf) s s₁ s₂ to n (sym e) p (q ∙ ap (λ (m : ℕ). put s₁ (to + 4) (take m buf)) z ∙ ap (put s₁ (to + 4)) (sym w)) (omega (arith, ap length w))

-- ---- requests

-- a request's code, by its mode's, and by the byte of whether its reply has descriptors
pub code_is : (r : Request) (m b : ℕ) → m ≡ mode_code r.mode → b ≡ bool_byte r.descriptors → 2 * m + b ≡ request_code r
unfolding request_code choose
code_is r m b e f = go r.descriptors f
  where
    go : (d : Bool) → b ≡ bool_byte d → 2 * m + b ≡ 2 * mode_code r.mode + choose d 1 0
    go true f = omega (arith, e, f)
    go false f = omega (arith, e, f)

-- each takes a byte
pub length_codes : (l : List Request) → length (writes request l) ≡ length l
unfolding writes
length_codes [] = refl
length_codes (r ∷ l) = omega (arith, length_codes l)

writes_append : (a b : List Request) → writes request (a ++ b) ≡ writes request a ++ writes request b
unfolding writes
writes_append [] b = refl
writes_append (r ∷ a) b = ap (λ (x : List ℕ). request_code r ∷ x) (writes_append a b)

pub length_run : (room : List ℕ) (first n : ℕ) → length (writes request (outstanding room first n)) ≡ n
unfolding outstanding
length_run room first n = length_codes (outstanding room first n) ∙ length_upto (request_at room) first n

pub codes_none : (s : List ℕ) (to : ℕ) (room : List ℕ) (first : ℕ) → s ≡ put s to (writes request (outstanding room first 0))
unfolding writes outstanding upto
codes_none s to room first = sym (put_none s to)

-- one request more
pub codes_more : (s s₁ : List ℕ) (to : ℕ) (room : List ℕ) (first i : ℕ) (r : Request) (b : ℕ) → s₁ ≡ put s to (writes request (outstanding room first i)) → r ≡ request_at room (first + i) → b ≡ request_code r → to + i < length s
    → set s₁ (to + i) b ≡ put s to (writes request (outstanding room first (i + 1)))
unfolding outstanding writes
codes_more s s₁ to room first i r b p e f h =
    let v : List ℕ = writes request (outstanding room first i) in
    let c : b ≡ request_code (request_at room (first + i)) = f ∙ ap request_code e in
    ap (λ (x : List ℕ). set x (to + i) b) p
    ∙ set_behind s to i v b (length_run room first i) h
    ∙ ap (λ (k : ℕ). put s to (v ++ (k ∷ []))) c
    ∙ ap (put s to) (sym (ap (writes request) (upto_behind (request_at room) first i) ∙ writes_append (outstanding room first i) (request_at room (first + i) ∷ [])))

-- the loop: so many are put
pub record Codes (s₀ : List ℕ) (to : ℕ) (room : List ℕ) (first count : ℕ) (s : List ℕ) (i : ℕ) : Type 0 where
  pub most : i ≤ count
  pub now : s ≡ put s₀ to (writes request (outstanding room first i))

module _ (s₀ : List ℕ) (to : ℕ) (room : List ℕ) (first count : ℕ) (s : List ℕ) (i : ℕ) (I : Codes s₀ to room first count s i) (h : to + count ≤ length s₀) where
  pub codes_long : length s ≡ length s₀
  codes_long = ap length I.now ∙ length_put s₀ to _ (omega (arith, I.most, length_run room first i))

  pub codes_done : count ≤ i → s ≡ put s₀ to (writes request (outstanding room first count))
  codes_done e = let q : i ≡ count = omega (arith, I.most) in I.now ∙ ap (λ (n : ℕ). put s₀ to (writes request (outstanding room first n))) q

  pub codes_again : i < count → (r : Request) (b : ℕ) → r ≡ request_at room (first + i) → b ≡ request_code r → Codes s₀ to room first count (set s (to + i) b) (i + 1)
  codes_again k r b e f = record { most = omega arith; now = codes_more s₀ s to room first i r b I.now e f (omega arith) }

-- their count, then they
pub requests_put : (room : List ℕ) (first n : ℕ) (s s₁ s₂ : List ℕ) (to : ℕ) → s₁ ≡ put_field little_order s to 4 n → s₂ ≡ put s₁ (to + 4) (writes request (outstanding room first n)) → to + (4 + n) ≤ length s
    → s₂ ≡ put s to ((counted 4 request).write (outstanding room first n))
requests_put room first n s s₁ s₂ to p q h =
    let l = length_run room first n in
    counted_put request (outstanding room first n) s s₁ s₂ to n (sym (sym (length_codes (outstanding room first n)) ∙ l)) p q (omega arith)
