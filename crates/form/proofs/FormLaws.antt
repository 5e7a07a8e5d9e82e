-- Laws of `specs/FormLaws.antt`. Assumes nothing.
use Rattle.std.specs.Prelude.{◌≡◌, Bool, true, false, ltb, take}
use Rattle.std.proofs.Math.Path.{refl, ap, subst}
use Rattle.std.proofs.Common.{sym, ◌∙◌, arith, length-append, take_at, drop_at}
use mathlib.Core.List.{List, [], ◌∷◌, ◌++◌, append_assoc}
use Rattle.std.proofs.Math.Option.{Option, none, some}
use Prim.Native.Nat.{ℕ, zero, suc, ◌*◌, ◌<◌, ◌≤◌, ◌^◌}
use Rattle.std.proofs.Math.ListN.{length, drop, take-append-drop}
use Rattle.std.proofs.Math.Seq.{length-take-le}
use borrow.Author.Tests.{ltb-true, lt-ltb, leb-true, le-leb}
use Rattle.octets.specs.Logic.{both_left, both_right, both_yes}
use Rattle.octets.specs.Bytes.{little_order, word, number_in, Octets, length_bytes_of, number_bytes, word_number, number_below}
use Rattle.octets.specs.Put.{cut}
use Rattle.octets.specs.Field.{octets_cut, octets_drop}
use Rattle.form.specs.Form.{Form, when, and_then, number, byte, read_byte, pair, each, writes, read_some, counted}
use Rattle.form.specs.FormLaws.{Exact}

-- ---- what was read

pub some_same : {A : Type 0} {x y : A} → some x ≡ some y → x ≡ y
some_same e = cc

pub none_some : {A B : Type 0} {x : A} → none ≡ some x → B
none_some e = absurd (let z : ◌≡◌ {A = ℕ} 0 1 = cc in omega arith)

pub when_some : {A : Type 0} {x : A} (b : Bool) (a : Option A) → some x ≡ when b a → (b ≡ true) × (some x ≡ a)
unfolding when
when_some true a e = (refl, e)
when_some false a e = none_some (sym e)

pub when_yes : {A : Type 0} (b : Bool) (a : Option A) → b ≡ true → a ≡ when b a
unfolding when
when_yes b a h = ap (λ (t : Bool). when t a) (sym h)

pub then_some : {A B : Type 0} {y : B} (a : Option A) (f : A → Option B) → some y ≡ and_then a f → (x : A) × (some x ≡ a) × (some y ≡ f x)
unfolding and_then
then_some none f e = none_some (sym e)
then_some (some x) f e = (x, refl, e)

-- bytes behind bytes
behind : (a b s : List ℕ) → a ++ b ≡ s → Octets s → Octets b
behind a b s e h = subst Octets (ap (drop (length a)) (sym e) ∙ drop_at a b (length a) refl) (octets_drop (length a) s h)

-- what stands behind one thing, cut in two
joins : (u v m rest s : List ℕ) → u ++ m ≡ s → v ++ rest ≡ m → u ++ v ++ rest ≡ s
joins u v m rest s e f = append_assoc u v rest ∙ ap (λ (l : List ℕ). u ++ l) f ∙ e

-- ---- numbers

module _ (n : ℕ) where
  number_back : (x : ℕ) (rest : List ℕ) → ltb x (2 ^ (8 * n)) ≡ true → some (x, rest) ≡ (number n).read (word n x ++ rest)
  number_back x rest h =
      let l : length (word n x) ≡ n = length_bytes_of little_order n x in
      let k : n ≤ length (word n x ++ rest) = omega (arith, length-append (word n x) rest) in
      let e : number_in little_order (take n (word n x ++ rest)) ≡ x = ap (number_in little_order) (take_at (word n x) rest n l) ∙ number_bytes little_order n x (ltb-true _ _ h) in
      (λ i. some (sym e i, sym (drop_at (word n x) rest n l) i)) ∙ when_yes _ _ (le-leb n (length (word n x ++ rest)) k)

  number_only : (s : List ℕ) → Octets s → (x : ℕ) (rest : List ℕ) → some (x, rest) ≡ (number n).read s → (ltb x (2 ^ (8 * n)) ≡ true) × (word n x ++ rest ≡ s)
  unfolding cut
  number_only s o x rest e =
      let p = when_some _ _ e in
      let k : n ≤ length s = leb-true _ _ p.0 in
      let q = some_same p.1 in
      let l : length (take n s) ≡ n = length-take-le n s k in
      let c : Octets (take n s) = octets_cut 0 n s o in
      let a : x ≡ number_in little_order (take n s) = ap (λ p. p.0) q in
      let b : rest ≡ drop n s = ap (λ p. p.1) q in (
        lt-ltb x _ (subst (λ (y : ℕ). y < 2 ^ (8 * n)) (sym a) (number_below (take n s) n l c)),
        (λ i. word n (a i) ++ b i) ∙ ap (λ (y : List ℕ). y ++ drop n s) (word_number (take n s) n l c) ∙ take-append-drop n s,
      )

pub number_exact : (n : ℕ) → Exact (number n)
number_exact n = record { back = number_back n; only = number_only n }

-- ---- bytes

byte_only : (s : List ℕ) → Octets s → (b : ℕ) (rest : List ℕ) → some (b, rest) ≡ read_byte s → (true ≡ true) × (b ∷ rest ≡ s)
unfolding read_byte
byte_only [] o b rest e = none_some (sym e)
byte_only (c ∷ s) o b rest e = let q = some_same e in (refl, λ i. (q i).0 ∷ (q i).1)

byte_back : (b : ℕ) (rest : List ℕ) → true ≡ true → some (b, rest) ≡ read_byte (b ∷ rest)
unfolding read_byte
byte_back b rest h = refl

pub byte_exact : Exact byte
byte_exact = record { back = byte_back; only = byte_only }

-- ---- pairs

module _ {A B : Type 0} (f : Form A) (g : Form B) (F : Exact f) (G : Exact g) where
  pair_back : (x : A × B) (rest : List ℕ) → (pair f g).fits x ≡ true → some (x, rest) ≡ (pair f g).read ((pair f g).write x ++ rest)
  unfolding and_then
  pair_back x rest h =
      rw (append_assoc (f.write x.0) (g.write x.1) rest, ← (F.back x.0 (g.write x.1 ++ rest) (both_left _ _ h)), ← (G.back x.1 rest (both_right _ _ h)))

  pair_only : (s : List ℕ) → Octets s → (x : A × B) (rest : List ℕ) → some (x, rest) ≡ (pair f g).read s → ((pair f g).fits x ≡ true) × ((pair f g).write x ++ rest ≡ s)
  pair_only s o x rest e =
      let p = then_some (f.read s) (λ p. and_then (g.read p.1) (λ q. some ((p.0, q.0), q.1))) e in
      let q = then_some (g.read p.0.1) (λ q. some ((p.0.0, q.0), q.1)) p.2 in
      let m = F.only s o p.0.0 p.0.1 p.1 in
      let n = G.only p.0.1 (behind (f.write p.0.0) p.0.1 s m.1 o) q.0.0 q.0.1 q.1 in
      subst (λ (y : (A × B) × List ℕ). ((pair f g).fits y.0 ≡ true) × ((pair f g).write y.0 ++ y.1 ≡ s)) (sym (some_same q.2))
      (both_yes _ _ m.0 n.0, joins (f.write p.0.0) (g.write q.0.0) p.0.1 q.0.1 s m.1 n.1)

  pub pair_exact : Exact (pair f g)
  pair_exact = record { back = pair_back; only = pair_only }

-- ---- a count and its items

module _ {A : Type 0} (f : Form A) (F : Exact f) where
  some_back : (l : List A) (rest : List ℕ) → each f.fits l ≡ true → some (l, rest) ≡ read_some f (length l) (writes f l ++ rest)
  unfolding and_then each writes read_some
  some_back [] rest h = refl
  some_back (x ∷ l) rest h =
      rw (append_assoc (f.write x) (writes f l) rest, ← (F.back x (writes f l ++ rest) (both_left _ _ h)), ← (some_back l rest (both_right _ _ h)))

  some_only : (n : ℕ) (s : List ℕ) → Octets s → (l : List A) (rest : List ℕ) → some (l, rest) ≡ read_some f n s → (length l ≡ n) × (each f.fits l ≡ true) × (writes f l ++ rest ≡ s)
  unfolding each writes read_some
  some_only zero s o l rest e =
      let z = some_same e in
      let a : l ≡ [] = ap (λ y. y.0) z in
      let c : rest ≡ s = ap (λ y. y.1) z in
      (ap length a, ap (each f.fits) a, (λ i. writes f (a i) ++ c i))
  some_only (suc n) s o l rest e =
      let p = then_some (f.read s) (λ p. and_then (read_some f n p.1) (λ q. some (p.0 ∷ q.0, q.1))) e in
      let q = then_some (read_some f n p.0.1) (λ q. some (p.0.0 ∷ q.0, q.1)) p.2 in
      let m = F.only s o p.0.0 p.0.1 p.1 in
      let r = some_only n p.0.1 (behind (f.write p.0.0) p.0.1 s m.1 o) q.0.0 q.0.1 q.1 in
      subst (λ (y : List A × List ℕ). (length y.0 ≡ suc n) × (each f.fits y.0 ≡ true) × (writes f y.0 ++ y.1 ≡ s)) (sym (some_same q.2))
      (ap suc r.0, both_yes _ _ m.0 r.1, joins (f.write p.0.0) (writes f q.0.0) p.0.1 q.0.1 s m.1 r.2)

  module _ (w : ℕ) where
    counted_back : (l : List A) (rest : List ℕ) → (counted w f).fits l ≡ true → some (l, rest) ≡ (counted w f).read ((counted w f).write l ++ rest)
    unfolding and_then
    counted_back l rest h =
        rw (append_assoc (word w (length l)) (writes f l) rest, ← ((number_exact w).back (length l) (writes f l ++ rest) (both_left _ _ h))) (some_back l rest (both_right _ _ h))

    counted_only : (s : List ℕ) → Octets s → (l : List A) (rest : List ℕ) → some (l, rest) ≡ (counted w f).read s → ((counted w f).fits l ≡ true) × ((counted w f).write l ++ rest ≡ s)
    counted_only s o l rest e =
        let p = then_some ((number w).read s) (λ p. read_some f p.0 p.1) e in
        let m = (number_exact w).only s o p.0.0 p.0.1 p.1 in
        let r = some_only p.0.0 p.0.1 (behind (word w p.0.0) p.0.1 s m.1 o) l rest p.2 in (
          both_yes _ _ (ap (number w).fits r.0 ∙ m.0) r.1,
          joins (word w (length l)) (writes f l) p.0.1 rest s (ap (λ (k : ℕ). word w k ++ p.0.1) r.0 ∙ m.1) r.2,
        )

    pub counted_exact : Exact (counted w f)
    counted_exact = record { back = counted_back; only = counted_only }

-- ---- what fits, item by item

pub each_so : {A : Type 0} (t : A → Bool) → ((x : A) → t x ≡ true) → (l : List A) → each t l ≡ true
unfolding each
each_so t h [] = refl
each_so t h (x ∷ l) = both_yes _ _ (h x) (each_so t h l)

-- a section of bytes has any
pub bytes_fit : (l : List ℕ) → length l < 2 ^ 32 → (counted 4 byte).fits l ≡ true
bytes_fit l h = both_yes _ _ (lt-ltb (length l) (2 ^ 32) h) (each_so byte.fits (λ b. refl) l)
