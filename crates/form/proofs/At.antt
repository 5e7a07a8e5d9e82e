-- Laws of `specs/At.antt`. Assumes nothing.
use Rattle.std.specs.Prelude.{◌≡◌, Bool, true, Option, None, Some}
use Rattle.std.proofs.Math.Path.{refl, sym, ap}
use Rattle.std.proofs.Common.{◌∙◌, subst, drop-drop, lt-ltb, ltb-true, eqb-true, eq-eqb}
use mathlib.Core.List.{List, [], ◌∷◌, ◌++◌, append_assoc}
use Rattle.std.proofs.Math.Option.{some}
use Prim.Native.Nat.{ℕ, zero, suc, ◌+◌, ◌-◌, ◌*◌, ◌≤◌, ◌<◌, ◌^◌}
use Rattle.std.proofs.Math.Nat.{mul-suc}
use Rattle.std.proofs.Math.Decide.{ℕ_discrete}
use native.Mathlib.Omega.{arith}
use Rattle.std.proofs.Math.ListN.{length, take, drop, length-append, length-drop, take-append-drop}
use Rattle.std.proofs.Math.Seq.{drop_at, take_at}
use Rattle.octets.specs.Logic.{both_left, both_right, both_yes}
use Rattle.octets.specs.Bytes.{little_order, word, number_in, Octets, word_number, length_bytes_of, number_below}
use Rattle.octets.specs.Put.{cut, length_cut, cut_add}
use Rattle.octets.specs.Field.{field, fields, length_fields, field_first, octets_cut, octets_drop}
use Rattle.form.specs.Form.{Form, and_then, number, byte, pair, counted, each, writes}
use Rattle.form.specs.FormLaws.{Exact}
use Rattle.form.proofs.FormLaws.{some_same, then_some, number_exact, byte_exact, counted_exact, bytes_fit}
use Rattle.form.specs.At.{At, Behind, long, any, fit2, Here, Not}

-- What holds at an index, or at 0, holds of an optional index.
pub behind_map : {P Q : ℕ → Type 0} → ((r : ℕ) → P r → Q r) → (r : Option ℕ) → Behind P r → Behind Q r
behind_map f None p = f 0 p
behind_map f (Some r) p = (f r p.0, p.1)

pub at_zero : {A : Type 0} {f : Form A} {p : A → Bool} {s : List ℕ} {at r : ℕ} → r ≡ 0 → At f p s at r → At f p s at 0
at_zero {f = f} {p = p} {s = s} {at = at} e F = subst (λ (k : ℕ). At f p s at k) e F

-- ---- ONE LAW for sections one behind the other

module _ {A B : Type 0} (f : Form A) (g : Form B) (p : A → Bool) (q : B → Bool) (s : List ℕ) (at : ℕ) where
  -- where the first is missing, both are
  pub at_none : At f p s at 0 → At (pair f g) (fit2 p q) s at 0
  at_none F = record {
    there = λ z. absurd (z refl);
    missing = λ z x y e t.
        let m = then_some (f.read (drop at s)) (λ p. and_then (g.read p.1) (λ q. some ((p.0, q.0), q.1))) e in
        let n = then_some (g.read m.0.1) (λ q. some ((m.0.0, q.0), q.1)) m.2 in
        let a : x.0 ≡ m.0.0 = ap (λ t. t.0.0) (some_same n.2) in
        F.missing refl m.0.0 m.0.1 m.1 (ap p (sym a) ∙ both_left _ _ t);
  }

  -- and where it stands, the second decides
  pub at_pair : (r r' : ℕ) → At f p s at r → (r ≡ 0 → ⊥) → At g q s r r' → At (pair f g) (fit2 p q) s at r'
  unfolding and_then
  at_pair r r' F h G = record {
    there = λ z. (let a = F.there h in let b = G.there z in
        ((a.0, b.0), ap (λ t. and_then t (λ q. some ((a.0, q.0), q.1))) b.1 ∙ ap (λ t. and_then t (λ p. and_then (g.read p.1) (λ q. some ((p.0, q.0), q.1)))) a.1, both_yes _ _ a.2 b.2, b.3));
    missing = λ z x y e t.
        let a = F.there h in
        let m = then_some (f.read (drop at s)) (λ p. and_then (g.read p.1) (λ q. some ((p.0, q.0), q.1))) e in
        let n = then_some (g.read m.0.1) (λ q. some ((m.0.0, q.0), q.1)) m.2 in
        let k : m.0.1 ≡ drop r s = ap (λ t. t.1) (some_same (m.1 ∙ sym a.1)) in
        let b : x.1 ≡ n.0.0 = ap (λ t. t.0.1) (some_same n.2) in
        G.missing z n.0.0 n.0.1 (n.1 ∙ ap g.read k) (ap q (sym b) ∙ both_right _ _ t);
  }

-- ---- a count, and what follows it, in the fields' words

module _ (x : List ℕ) (o : Octets x) where
  abbrev count : ℕ
  count = field little_order 0 4 x

  module _ {A : Type 0} (f : Form A) (F : Exact f) where
    -- what is read has the count, and its bytes are there
    pub counted_fields : (l : List A) (y : List ℕ) → some (l, y) ≡ (counted 4 f).read x → (count ≡ length l) × (4 + length (writes f l) ≤ length x)
    counted_fields l y e =
        let m = (counted_exact f F 4).only x o l y e in
        let w : word 4 (length l) ++ (writes f l ++ y) ≡ x = sym (append_assoc (word 4 (length l)) (writes f l) y) ∙ m.1 in (
          ap (field little_order 0 4) (sym w) ∙ field_first 4 (length l) _ (ltb-true _ _ (both_left _ _ m.0)),
          omega (arith, ap length (sym w), length-append (word 4 (length l)) (writes f l ++ y), length-append (writes f l) y, length_bytes_of little_order 4 (length l)),
        )

    -- and what is written as the bytes there is read
    pub counted_reads : (l : List A) (n : ℕ) → (counted 4 f).fits l ≡ true → length l ≡ count → writes f l ≡ cut 4 n x → 4 + n ≤ length x → some (l, drop (4 + n) x) ≡ (counted 4 f).read x
    unfolding field cut
    counted_reads l n t e w h =
        let l4 : length (cut 0 4 x) ≡ 4 = length_cut 0 4 x (omega arith) in
        let a : word 4 (length l) ≡ cut 0 4 x = ap (word 4) e ∙ word_number (cut 0 4 x) 4 l4 (octets_cut 0 4 x o) in
        let k : word 4 (length l) ++ writes f l ++ drop (4 + n) x ≡ x = (λ i. a i ++ w i ++ drop (4 + n) x) ∙ ap (λ (y : List ℕ). y ++ drop (4 + n) x) (sym (cut_add 0 4 n x)) ∙ take-append-drop (4 + n) x in
        (counted_exact f F 4).back l (drop (4 + n) x) t ∙ ap (counted 4 f).read k

  below : 4 ≤ length x → count < 2 ^ 32
  unfolding field
  below h = number_below (cut 0 4 x) 4 (length_cut 0 4 x h) (octets_cut 0 4 x o)

pub bytes_written : (l : List ℕ) → writes byte l ≡ l
unfolding writes
bytes_written [] = refl
bytes_written (b ∷ l) = ap (λ (x : List ℕ). b ∷ x) (bytes_written l)

pub length_numbers : (l : List ℕ) → length (writes (number 8) l) ≡ 8 * length l
unfolding writes
length_numbers [] = refl
length_numbers (x ∷ l) = omega (arith, length-append (word 8 x) (writes (number 8) l), length_bytes_of little_order 8 x, length_numbers l, mul-suc 8 (length l))

module _ (x : List ℕ) (o : Octets x) where
  fields_written : (at k : ℕ) → at + 8 * k ≤ length x → writes (number 8) (fields little_order 8 at k x) ≡ cut at (8 * k) x
  unfolding fields writes cut field
  fields_written at zero h = refl
  fields_written at (suc k) h =
      let m : 8 + 8 * k ≡ 8 * suc k = omega (arith, mul-suc 8 k) in
      let a : word 8 (field little_order at 8 x) ≡ cut at 8 x = word_number (cut at 8 x) 8 (length_cut at 8 x (omega arith)) (octets_cut at 8 x o) in
      (λ i. a i ++ fields_written (at + 8) k (omega arith) i) ∙ sym (cut_add at 8 (8 * k) x) ∙ ap (λ (n : ℕ). cut at n x) m

  fields_fit : (at k : ℕ) → at + 8 * k ≤ length x → each (number 8).fits (fields little_order 8 at k x) ≡ true
  unfolding fields field each
  fields_fit at zero h = refl
  fields_fit at (suc k) h =
      both_yes _ _ (lt-ltb _ (2 ^ 64) (number_below (cut at 8 x) 8 (length_cut at 8 x (omega (arith, mul-suc 8 k))) (octets_cut at 8 x o))) (fields_fit (at + 8) k (omega (arith, mul-suc 8 k)))

-- ---- a section of so many numbers, and one of bytes

module _ (s : List ℕ) (o : Octets s) (at : ℕ) (h : at ≤ length s) where
  abbrev x : List ℕ
  x = drop at s

  -- the count where it stands
  abbrev n : ℕ
  n = field little_order at 4 s

  n_is : field little_order 0 4 x ≡ n
  unfolding field cut
  n_is = refl

  ox : Octets x
  ox = octets_drop at s o

  size : length x ≡ length s - at
  size = length-drop at s

  pub numbers_none : (k : ℕ) → (n ≡ k → 4 + 8 * k ≤ length s - at → ⊥) → At (counted 4 (number 8)) (long k) s at 0
  numbers_none k z = record {
    there = λ e. absurd (e refl);
    missing = λ e l y r t. (let q = counted_fields x ox (number 8) (number_exact 8) l y r in let g : length l ≡ k = eqb-true (length l) k t in z (sym n_is ∙ q.0 ∙ g) (omega (arith, q.1, length_numbers l, size)));
  }

  -- the numbers where they stand, k of them
  numbers_stand : (k : ℕ) → k ≤ 8 → n ≡ k → 4 + 8 * k ≤ length s - at → some (fields little_order 8 4 k x, drop (at + (4 + 8 * k)) s) ≡ (counted 4 (number 8)).read x
  numbers_stand k b e w =
      let l : List ℕ = fields little_order 8 4 k x in
      let g : length l ≡ k = length_fields little_order 8 4 k x in
      ap (λ (y : List ℕ). some (l, y)) (sym (drop-drop (4 + 8 * k) at s))
      ∙ counted_reads x ox (number 8) (number_exact 8) l (8 * k) (both_yes _ _ (lt-ltb (length l) (2 ^ 32) (omega arith)) (fields_fit x ox 4 k (omega (arith, size)))) (g ∙ sym e ∙ sym n_is) (fields_written x ox 4 k (omega (arith, size))) (omega (arith, size))

  pub numbers_some : (k : ℕ) → k ≤ 8 → n ≡ k → 4 + 8 * k ≤ length s - at → At (counted 4 (number 8)) (long k) s at (at + (4 + 8 * k))
  numbers_some k b e w = record {
    there = λ z. (fields little_order 8 4 k x, numbers_stand k b e w, eq-eqb _ k (length_fields little_order 8 4 k x), omega arith);
    missing = λ z. absurd (omega arith);
  }

  -- what is read there are they, and they take 4 and 8 × k bytes
  pub numbers_are : (k : ℕ) → k ≤ 8 → (l y : List ℕ) → some (l, y) ≡ (counted 4 (number 8)).read x → length l ≡ k → (l ≡ fields little_order 8 4 k x) × (y ≡ drop (at + (4 + 8 * k)) s) × (at + (4 + 8 * k) ≤ length s)
  numbers_are k b l y e g =
      let q = counted_fields x ox (number 8) (number_exact 8) l y e in
      let w : 4 + 8 * k ≤ length s - at = omega (arith, q.1, length_numbers l, ap (λ (i : ℕ). 8 * i) g, size) in
      let z = some_same (e ∙ sym (numbers_stand k b (sym n_is ∙ q.0 ∙ g) w)) in
      (ap (λ (p : List ℕ × List ℕ). p.0) z, ap (λ (p : List ℕ × List ℕ). p.1) z, omega arith)

  pub run_none : (4 + n ≤ length s - at → ⊥) → At (counted 4 byte) any s at 0
  run_none z = record {
    there = λ e. absurd (e refl);
    missing = λ e l y r t. (let q = counted_fields x ox byte byte_exact l y r in z (omega (arith, q, n_is, ap length (bytes_written l), size)));
  }

  pub run_some : (m : ℕ) → m ≡ n → 4 + m ≤ length s - at → At (counted 4 byte) any s at (at + (4 + m))
  run_some m e w =
      let l : List ℕ = cut 4 m x in
      let g : length l ≡ m = length_cut 4 m x (omega (arith, size)) in
      let r = counted_reads x ox byte byte_exact l m (bytes_fit l (omega (arith, g, n_is, below x ox (omega (arith, size))))) (g ∙ e ∙ sym n_is) (bytes_written l) (omega (arith, size)) in
      record {
        there = λ z. (l, ap (λ (y : List ℕ). some (l, y)) (sym (drop-drop (4 + m) at s)) ∙ r, refl, omega arith);
        missing = λ z. absurd (omega arith);
      }

module _ {A : Type 0} (f : Form A) (F : Exact f) (s : List ℕ) (o : Octets s) (at end : ℕ) (w : end ≤ length s) (h : at ≤ length s) where
  -- what is read up to an index stands there
  pub here : (l : List A) → some (l, drop end s) ≡ (counted 4 f).read (drop at s) → Here f s at end
  unfolding cut field
  here l e =
      let m = (counted_exact f F 4).only (drop at s) (octets_drop at s o) l (drop end s) e in
      let n : length (writes f l) ≡ end - (at + 4) × (at + 4 ≤ end) = sizes (ap length m.1) in
      let c : word 4 (length l) ++ (writes f l ++ drop end s) ≡ drop at s = sym (append_assoc (word 4 (length l)) (writes f l) (drop end s)) ∙ m.1 in
      let d : drop (at + 4) s ≡ writes f l ++ drop end s = sym (drop-drop 4 at s) ∙ ap (drop 4) (sym c) ∙ drop_at (word 4 (length l)) (writes f l ++ drop end s) 4 (length_bytes_of little_order 4 (length l)) in
      record {
        items = l;
        reads = e;
        fit = m.0;
        count = ap (λ (x : List ℕ). number_in little_order (take 4 x)) (sym c) ∙ field_first 4 (length l) _ (ltb-true _ _ (both_left _ _ m.0));
        bytes = ap (λ (x : List ℕ). take (end - (at + 4)) x) d ∙ take_at (writes f l) (drop end s) (end - (at + 4)) n.0;
        order = n.1;
        within = w;
      }
    where
      sizes : length (word 4 (length l) ++ writes f l ++ drop end s) ≡ length (drop at s) → (length (writes f l) ≡ end - (at + 4)) × (at + 4 ≤ end)
      sizes e =
          let a = length-append (word 4 (length l) ++ writes f l) (drop end s) in
          let b = length-append (word 4 (length l)) (writes f l) in
          let c = length_bytes_of little_order 4 (length l) in
          let d = length-drop at s in
          let g = length-drop end s in
          (omega arith, omega arith)

-- what a test found stands there
pub stands : {A : Type 0} (f : Form A) → Exact f → (ok : List A → Bool) (s : List ℕ) → Octets s → (at r : ℕ) → at ≤ length s → At (counted 4 f) ok s at r → (r ≡ 0 → ⊥) → (h : Here f s at r) × (ok h.items ≡ true)
unfolding here
stands f E ok s o at r h F z = let a = F.there z in (here f E s o at r a.3 h a.0 a.1, a.2)

-- a section of k numbers has 4 and 8 × k bytes
pub numbers_end : (s : List ℕ) → Octets s → (at k r : ℕ) → k ≤ 8 → at ≤ length s → At (counted 4 (number 8)) (long k) s at r → (r ≡ 0 → ⊥) → r ≡ at + (4 + 8 * k)
numbers_end s o at k r b h F z =
    let a = F.there z in
    let n = numbers_are s o at h k b a.0 (drop r s) a.1 (eqb-true _ _ a.2) in
    omega (arith, ap length n.1, length-drop r s, length-drop (at + (4 + 8 * k)) s, n.2, a.3)

-- what stands one behind the other is read as a pair
pub pair_reads : {A B : Type 0} (f : Form A) (g : Form B) (s : List ℕ) (at : ℕ) (a : A) (b : B) (r : ℕ) (y : List ℕ) → some (a, drop r s) ≡ f.read (drop at s) → some (b, y) ≡ g.read (drop r s) → some ((a, b), y) ≡ (pair f g).read (drop at s)
unfolding and_then
pair_reads f g s at a b r y e h = ap (λ t. and_then t (λ q. some ((a, q.0), q.1))) h ∙ ap (λ t. and_then t (λ p. and_then (g.read p.1) (λ q. some ((p.0, q.0), q.1)))) e

module _ {A B : Type 0} (f : Form A) (g : Form B) (p : A → Bool) (q : B → Bool) (s : List ℕ) (at : ℕ) where
  -- where the first is missing, both are,
  pub not_first : At f p s at 0 → Not (pair f g) (fit2 p q) s at
  not_first F x e t = (at_none f g p q s at F).missing refl x [] e t

  -- and where it stands, the second decides
  pub not_then : (r : ℕ) → At f p s at r → (r ≡ 0 → ⊥) → Not g q s r → Not (pair f g) (fit2 p q) s at
  not_then r F h N x e t =
      let a = F.there h in
      let m = then_some (f.read (drop at s)) (λ p. and_then (g.read p.1) (λ q. some ((p.0, q.0), q.1))) e in
      let n = then_some (g.read m.0.1) (λ q. some ((m.0.0, q.0), q.1)) m.2 in
      let k : m.0.1 ≡ drop r s = ap (λ t. t.1) (some_same (m.1 ∙ sym a.1)) in
      let z = some_same n.2 in
      let b : x.1 ≡ n.0.0 = ap (λ t. t.0.1) z in
      let c : n.0.1 ≡ [] = ap (λ t. t.1) (sym z) in
      N n.0.0 (ap (λ (y : List ℕ). some (n.0.0, y)) (sym c) ∙ n.1 ∙ ap g.read k) (ap q (sym b) ∙ both_right _ _ t)

-- one that ends elsewhere
pub not_last : {A : Type 0} (f : Form A) (p : A → Bool) (s : List ℕ) (at r : ℕ) → At f p s at r → (r ≡ length s → ⊥) → Not f p s at
not_last f p s at r F h a e t = go (ℕ_discrete r 0)
  where
    go : Dec (r ≡ 0) → ⊥
    go (yes z) = F.missing z a [] e t
    go (no z) =
        let b = F.there z in
        let k : [] ≡ drop r s = ap (λ x. x.1) (some_same (e ∙ sym b.1)) in
        h (omega (arith, ap length k, length-drop r s, b.3))
