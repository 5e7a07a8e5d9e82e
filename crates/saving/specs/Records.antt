-- So many records of a kind, tested where they stand. Assumes nothing.
use Rattle.std.specs.Prelude.{◌≡◌, refl, Bool, true, false, not, ℕ, zero, suc, ◌+◌, ◌-◌, ◌≤◌, ◌<◌, leb, eqb, take}
use Rattle.std.proofs.Math.Path.{sym, ap}
use Rattle.std.proofs.Common.{◌∙◌, subst, drop-drop}
use mathlib.Core.List.{List, [], ◌∷◌}
use Rattle.std.proofs.Math.Option.{Option, none, some}
use native.Mathlib.Omega.{arith}
use Rattle.std.proofs.Math.ListN.{length, drop, length-drop, length-take}
use Rattle.std.proofs.Math.Seq.{take-length}
use borrow.Author.Tests.{le-leb, lt-leb, eq-eqb, ne_eqb, not-true, not-false}
use Rattle.octets.specs.Logic.{choose, both, both_left, both_right, both_yes}
use Rattle.octets.specs.Put.{cut}
use Rattle.held.specs.General.{same_is, same_yes}
use Rattle.held.specs.Head.{header_size, cost, fits_is, fits_so, decoded, length_encoded, num_of, fds_of, kind_of}
use Rattle.held.specs.Front.{Begins, Sized}
use Rattle.model.specs.Client.{Held}
use Rattle.form.specs.Form.{when, and_then, read_some}
use Rattle.form.proofs.FormLaws.{some_same, when_some, when_yes, then_some}
use Rattle.savepoint.specs.Saved.{held_of, begins, held}

-- ---- what is asked of the numbers: from one on and up to the last, and, where they rise, each from the one before on

abbrev pub good_number : ℕ → ℕ → ℕ → Bool
good_number from last n = both (leb from n) (leb n last)

unfoldable pub ok_rows : Bool → ℕ → ℕ → List Held → Bool
ok_rows rising from last [] = true
ok_rows rising from last (h ∷ l) = both (good_number from last h.number) (ok_rows rising (choose rising h.number 0) last l)

-- the test, record by record: what is left behind n of them
unfoldable pub checked : Bool → ℕ → ℕ → ℕ → ℕ → List ℕ → Option (List ℕ)
checked rising kind from last zero x = some x
checked rising kind from last (suc n) x = and_then ((held kind).read x) (λ p. when (good_number from last p.0.number) (checked rising kind (choose rising p.0.number 0) last n p.1))

-- it is what reading and asking come to
pub checked_is : (rising : Bool) (kind from last n : ℕ) (x y : List ℕ) → some y ≡ checked rising kind from last n x → (l : List Held) × (some (l, y) ≡ read_some (held kind) n x) × (ok_rows rising from last l ≡ true)
unfolding checked read_some ok_rows and_then
checked_is rising kind from last zero x y e = ([], (λ i. some ([], some_same e i)), refl)
checked_is rising kind from last (suc n) x y e =
    let p = then_some ((held kind).read x) (λ p. when (good_number from last p.0.number) (checked rising kind (choose rising p.0.number 0) last n p.1)) e in
    let q = when_some _ _ p.2 in
    let r = checked_is rising kind (choose rising p.0.0.number 0) last n p.0.1 y q.1 in (
      p.0.0 ∷ r.0,
      ap (λ t. and_then t (λ q. some (p.0.0 ∷ q.0, q.1))) r.1 ∙ ap (λ t. and_then t (λ p. and_then (read_some (held kind) n p.1) (λ q. some (p.0 ∷ q.0, q.1)))) p.1,
      both_yes _ _ q.0 r.2,
    )

pub is_checked : (rising : Bool) (kind from last n : ℕ) (x : List ℕ) (l : List Held) (y : List ℕ) → some (l, y) ≡ read_some (held kind) n x → ok_rows rising from last l ≡ true → some y ≡ checked rising kind from last n x
unfolding checked read_some ok_rows and_then
is_checked rising kind from last zero x l y e t = ap (λ p. some p.1) (some_same e)
is_checked rising kind from last (suc n) x l y e t =
    let p = then_some ((held kind).read x) (λ p. and_then (read_some (held kind) n p.1) (λ q. some (p.0 ∷ q.0, q.1))) e in
    let q = then_some (read_some (held kind) n p.0.1) (λ q. some (p.0.0 ∷ q.0, q.1)) p.2 in
    let z = some_same q.2 in
    let a : l ≡ p.0.0 ∷ q.0.0 = ap (λ x. x.0) z in
    let b : y ≡ q.0.1 = ap (λ x. x.1) z in
    let u : ok_rows rising from last (p.0.0 ∷ q.0.0) ≡ true = ap (ok_rows rising from last) (sym a) ∙ t in
    ap some b
    ∙ is_checked rising kind (choose rising p.0.0.number 0) last n p.0.1 q.0.0 q.0.1 q.1 (both_right _ _ u)
    ∙ when_yes _ _ (both_left _ _ u)
    ∙ ap (λ t. and_then t (λ p. when (good_number from last p.0.number) (checked rising kind (choose rising p.0.number 0) last n p.1))) p.1

-- ---- one record

-- by its fields
unfoldable pub good_at : ℕ → ℕ → ℕ → List ℕ → Bool
good_at kind from last x = both (good_number from last (num_of x)) (both (eqb (kind_of x) kind) (eqb (fds_of x) 0))

two_tests : {A : Type 0} (g b : Bool) (a : Option A) → when b (when g a) ≡ when (both g b) a
unfolding when both
two_tests true true a = refl
two_tests true false a = refl
two_tests false true a = refl
two_tests false false a = refl

passes : {A B : Type 0} (b : Bool) (x : A) (f : A → Option B) → and_then (when b (some x)) f ≡ when b (f x)
unfolding when and_then
passes true x f = refl
passes false x f = refl

not_begins : (kind : ℕ) (x : List ℕ) → (Begins x → ⊥) → begins kind x ≡ false
unfolding begins cut
not_begins kind x h = go (begins kind x) refl
  where
    go : (b : Bool) → begins kind x ≡ b → b ≡ false
    go true e = absurd (h (record { fit = fits_is _ (both_left _ _ (both_left _ _ e)); bytes = same_is _ _ (both_right _ _ (both_left _ _ e)) }))
    go false e = refl

is_begins : (kind : ℕ) (x : List ℕ) → Begins x → begins kind x ≡ both (eqb (kind_of x) kind) (eqb (fds_of x) 0)
unfolding begins cut both decoded
is_begins kind x b = simp (fits_so _ b.fit, same_yes _ _ b.bytes)

module _ (rising : Bool) (kind from last n : ℕ) (x : List ℕ) where
  -- none stands there
  stop_none : (Begins x → ⊥) → none ≡ checked rising kind from last (suc n) x
  unfolding checked when and_then
  stop_none h = ap (λ (b : Bool). and_then {A = Held × List ℕ} (when b (some (held_of (decoded x), drop (cost (decoded x)) x))) (λ p. when (good_number from last p.0.number) (checked rising kind (choose rising p.0.number 0) last n p.1))) (sym (not_begins kind x h))

  -- one does
  read_on : Begins x → when (good_at kind from last x) (checked rising kind (choose rising (num_of x) 0) last n (drop (cost (decoded x)) x)) ≡ checked rising kind from last (suc n) x
  unfolding checked good_at decoded
  read_on b =
      sym (two_tests (good_number from last (num_of x)) (both (eqb (kind_of x) kind) (eqb (fds_of x) 0)) _)
      ∙ ap (λ (t : Bool). when t (when (good_number from last (num_of x)) (checked rising kind (choose rising (num_of x) 0) last n (drop (cost (decoded x)) x)))) (sym (is_begins kind x b))
      ∙ sym (passes (begins kind x) (held_of (decoded x), drop (cost (decoded x)) x) _)

-- ---- the loop: what is left says what the whole says

-- an index, or 0
pub record EndSays (s : List ℕ) (r : ℕ) (a : Option (List ℕ)) : Type 0 where
  pub there : (r ≡ 0 → ⊥) → (some (drop r s) ≡ a) × (r ≤ length s)
  pub missing : r ≡ 0 → none ≡ a

all_of : (s : List ℕ) (at : ℕ) → cut at (length s - at) s ≡ drop at s
unfolding cut
all_of s at = ap (λ (n : ℕ). take n (drop at s)) (sym (length-drop at s)) ∙ take-length (drop at s)

pub record Inv (s : List ℕ) (rising : Bool) (kind last : ℕ) (whole : Option (List ℕ)) (at left from : ℕ) : Type 0 where
  pub some_at : 1 ≤ at
  pub order : at ≤ length s
  pub says : checked rising kind from last left (drop at s) ≡ whole

module _ (s : List ℕ) (rising : Bool) (kind last : ℕ) (whole : Option (List ℕ)) (at left from : ℕ) (I : Inv s rising kind last whole at left from) where
  pub ends : left ≤ 0 → EndSays s at whole
  unfolding checked
  ends h =
      let z : left ≡ 0 = omega arith in
      record { there = λ e. (ap (λ (n : ℕ). checked rising kind from last n (drop at s)) (sym z) ∙ I.says, I.order); missing = λ e. absurd (omega (arith, I.some_at)) }

  module _ (more : 0 < left) (size : ℕ) (S : Sized (cut at (length s - at) s) size) where
    abbrev x : List ℕ
    x = drop at s

    stands : Sized x size
    stands = subst (λ (l : List ℕ). Sized l size) (all_of s at) S

    count : left ≡ suc (left - 1)
    count = omega arith

    whole_is : checked rising kind from last (suc (left - 1)) x ≡ whole
    whole_is = ap (λ (n : ℕ). checked rising kind from last n x) (sym count) ∙ I.says

    pub lacking : size ≡ 0 → EndSays s 0 whole
    lacking z = record { there = λ e. absurd (e refl); missing = λ e. stop_none rising kind from last (left - 1) x (stands.none z) ∙ whole_is }

    module _ (z : size ≡ 0 → ⊥) where
      is_size : size ≡ cost (decoded x)
      is_size = (stands.some z).1

      pub room : at + size ≤ length s
      unfolding cut
      room =
          let b = (stands.some z).0 in
          omega (arith, is_size, length-drop at s, I.order, enough (cost (decoded x)) x (ap length b.bytes ∙ length_encoded (decoded x)))
        where
          enough : (n : ℕ) (l : List ℕ) → length (take n l) ≡ n → n ≤ length l
          enough n l e = omega (arith, length-take n l)

      pub head : at + header_size ≤ length s
      head = omega (arith, room, is_size)

      pub wrong : (b : Bool) → b ≡ good_at kind from last x → not b ≡ true → EndSays s 0 whole
      unfolding when
      wrong b e t = record {
        there = λ k. absurd (k refl);
        missing = λ k.
            ap (λ (g : Bool). when g (checked rising kind (choose rising (num_of x) 0) last (left - 1) (drop (cost (decoded x)) x))) (sym (not-true b t) ∙ e)
            ∙ read_on rising kind from last (left - 1) x (stands.some z).0
            ∙ whole_is;
      }

      pub again : (b : Bool) → b ≡ good_at kind from last x → not b ≡ false → (number next : ℕ) → number ≡ num_of x → next ≡ choose rising number 0 → (rest : ℕ) → rest ≡ left - 1 → Inv s rising kind last whole (at + size) rest next
      again b e t number next f g rest r =
          let d : drop (cost (decoded x)) x ≡ drop (at + size) s = drop-drop (cost (decoded x)) at s ∙ ap (λ (k : ℕ). drop (at + k) s) (sym is_size) in
          let h : choose rising (num_of x) 0 ≡ next = ap (λ (k : ℕ). choose rising k 0) (sym f) ∙ sym g in
          record {
            some_at = omega (arith, I.some_at);
            order = room;
            says = (λ i. checked rising kind (sym h i) last (r i) (sym d i)) ∙ when_yes _ _ (sym e ∙ not-false b t) ∙ read_on rising kind from last (left - 1) x (stands.some z).0 ∙ whole_is;
          }

-- the test by its fields
module _ (kind from last : ℕ) (x : List ℕ) where
  pub good_low : num_of x < from → false ≡ good_at kind from last x
  unfolding good_at both
  good_low h = rw (lt-leb _ _ h)

  module _ (a : from ≤ num_of x) where
    pub good_high : last < num_of x → false ≡ good_at kind from last x
    unfolding good_at both
    good_high h = rw (le-leb _ _ a, lt-leb _ _ h)

    module _ (b : num_of x ≤ last) where
      pub good_other : (kind_of x ≡ kind → ⊥) → false ≡ good_at kind from last x
      unfolding good_at both
      good_other h = rw (le-leb _ _ a, le-leb _ _ b, ne_eqb _ _ h)

      pub good_last : kind_of x ≡ kind → (c : ℕ) → c ≡ fds_of x → eqb c 0 ≡ good_at kind from last x
      unfolding good_at both
      good_last h c e = rw (le-leb _ _ a, le-leb _ _ b, eq-eqb _ _ h, e)
