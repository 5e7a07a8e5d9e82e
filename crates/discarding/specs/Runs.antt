-- A row of replies, split by a number: its numbers never fall, so those of one number stand side by side. Assumes nothing.
use Rattle.std.specs.Prelude.{◌≡◌, Bool, true, false, ℕ, suc, ◌≤◌, ◌<◌, eqb, ltb, length, take, drop}
use Rattle.std.proofs.Math.Path.{refl, ap}
use Rattle.std.proofs.Common.{sym, ◌∙◌, arith, eq-eqb, ne_eqb, lt-ltb, le-ltb, eqb-true, ltb-true}
use mathlib.Core.List.{List, [], ◌∷◌, ◌++◌, append-nil}
use Rattle.std.proofs.Math.Decide.{dec_lt}
use Rattle.octets.specs.Logic.{choose}
use Rattle.held.specs.General.{choose_yes, choose_no, choose_either}
use Rattle.held.specs.Head as Head
use Rattle.held.specs.Reading.{All, Rising, fds_in}
use Rattle.held.specs.Rows.{all_map}
use Rattle.held.specs.Tally.{own, lower, higher}
use Rattle.model.specs.Client.{Held}
use Rattle.model.specs.Model.{of_number, not_of, above}
use Rattle.model.specs.Reading.{held_with, with_descriptors}
use Rattle.model.specs.ReadingLaws.{with_append}

-- one step of each
module _ (n : ℕ) (h : Head.Record) (l : List Head.Record) where
  pub own_is : h.number ≡ n → own n (h ∷ l) ≡ h ∷ own n l
  unfolding own
  own_is e = choose_yes (eqb h.number n) (h ∷ own n l) (own n l) (eq-eqb h.number n e)

  pub own_not : (h.number ≡ n → ⊥) → own n (h ∷ l) ≡ own n l
  unfolding own
  own_not e = choose_no (eqb h.number n) (h ∷ own n l) (own n l) (ne_eqb h.number n e)

  pub lower_is : h.number < n → lower n (h ∷ l) ≡ h ∷ lower n l
  unfolding lower
  lower_is e = choose_yes (ltb h.number n) (h ∷ lower n l) (lower n l) (lt-ltb h.number n e)

  pub lower_not : n ≤ h.number → lower n (h ∷ l) ≡ lower n l
  unfolding lower
  lower_not e = choose_no (ltb h.number n) (h ∷ lower n l) (lower n l) (le-ltb h.number n e)

  pub higher_is : n < h.number → higher n (h ∷ l) ≡ h ∷ higher n l
  unfolding higher
  higher_is e = choose_yes (ltb n h.number) (h ∷ higher n l) (higher n l) (lt-ltb n h.number e)

  pub higher_not : h.number ≤ n → higher n (h ∷ l) ≡ higher n l
  unfolding higher
  higher_not e = choose_no (ltb n h.number) (h ∷ higher n l) (higher n l) (le-ltb n h.number e)

-- from the number on there are no lower ones, and behind it none of it
pub no_lower : (n from : ℕ) (l : List Head.Record) → n ≤ from → Rising from l → lower n l ≡ []
unfolding Rising lower
no_lower n from [] h R = refl
no_lower n from (x ∷ l) h R = lower_not n x l (omega (arith, R.0)) ∙ no_lower n x.number l (omega (arith, R.0)) R.1

no_own : (n from : ℕ) (l : List Head.Record) → n < from → Rising from l → own n l ≡ []
unfolding Rising own
no_own n from [] h R = refl
no_own n from (x ∷ l) h R = own_not n x l (λ e. omega (arith, R.0)) ∙ no_own n x.number l (omega (arith, R.0)) R.1

split_step : (n : ℕ) (x : Head.Record) (l : List Head.Record) → Rising x.number l → l ≡ lower n l ++ (own n l ++ higher n l) → x ∷ l ≡ lower n (x ∷ l) ++ (own n (x ∷ l) ++ higher n (x ∷ l))
split_step n x l R IH = elim (dec_lt x.number n) [
  | yes p ↦ ap (λ (k : List Head.Record). x ∷ k) IH
      ∙ (λ k. sym (lower_is n x l p) k ++ (sym (own_not n x l (λ e. omega arith)) k ++ sym (higher_not n x l (omega arith)) k))
  | no q ↦ elim (dec_lt n x.number) [
    | yes p ↦
        let a : lower n l ≡ [] = no_lower n x.number l (omega arith) R in
        let b : own n l ≡ [] = no_own n x.number l p R in
        ap (λ (k : List Head.Record). x ∷ k) (IH ∙ (λ k. a k ++ (b k ++ higher n l)))
        ∙ (λ k. (sym a ∙ sym (lower_not n x l (omega arith))) k ++ ((sym b ∙ sym (own_not n x l (λ e. omega arith))) k ++ sym (higher_is n x l p) k))
    | no r ↦
        let e : x.number ≡ n = omega (arith, q, r) in
        let a : lower n l ≡ [] = no_lower n x.number l (omega arith) R in
        ap (λ (k : List Head.Record). x ∷ k) (IH ∙ (λ k. a k ++ (own n l ++ higher n l)))
        ∙ (λ k. (sym a ∙ sym (lower_not n x l (omega arith))) k ++ (sym (own_is n x l e) k ++ sym (higher_not n x l (omega arith)) k))
  ]
]

-- THE SPLIT: lower ones, those of the number, higher ones.
pub rising_split : (n from : ℕ) (l : List Head.Record) → Rising from l → l ≡ lower n l ++ (own n l ++ higher n l)
unfolding Rising lower own higher
rising_split n from [] R = refl
rising_split n from (x ∷ l) R = split_step n x l R.1 (rising_split n x.number l R.1)

-- what each part has
pub own_all : (n : ℕ) (l : List Head.Record) → All (λ h. h.number ≡ n) (own n l)
unfolding All own
own_all n [] = tt
own_all n (x ∷ l) = choose_either (All (λ h. h.number ≡ n)) (eqb x.number n) (x ∷ own n l) (own n l) (λ e. (eqb-true x.number n e, own_all n l)) (λ e. own_all n l)

pub lower_all : (n : ℕ) (l : List Head.Record) → All (λ h. h.number < n) (lower n l)
unfolding All lower
lower_all n [] = tt
lower_all n (x ∷ l) = choose_either (All (λ h. h.number < n)) (ltb x.number n) (x ∷ lower n l) (lower n l) (λ e. (ltb-true x.number n e, lower_all n l)) (λ e. lower_all n l)

pub higher_all : (n : ℕ) (l : List Head.Record) → All (λ h. n < h.number) (higher n l)
unfolding All higher
higher_all n [] = tt
higher_all n (x ∷ l) = choose_either (All (λ h. n < h.number)) (ltb n x.number) (x ∷ higher n l) (higher n l) (λ e. (ltb-true n x.number e, higher_all n l)) (λ e. higher_all n l)

-- ---- the model's parts of a row

pub of_append : (n : ℕ) (a b : List Held) → of_number n (a ++ b) ≡ of_number n a ++ of_number n b
unfolding of_number choose
of_append n [] b = refl
of_append n (h ∷ a) b = go (eqb h.number n) (of_append n a b)
  where
    go : (t : Bool) → of_number n (a ++ b) ≡ of_number n a ++ of_number n b → choose t (h ∷ of_number n (a ++ b)) (of_number n (a ++ b)) ≡ choose t (h ∷ of_number n a) (of_number n a) ++ of_number n b
    go true e = ap (λ (k : List Held). h ∷ k) e
    go false e = e

pub not_append : (n : ℕ) (a b : List Held) → not_of n (a ++ b) ≡ not_of n a ++ not_of n b
unfolding not_of choose
not_append n [] b = refl
not_append n (h ∷ a) b = go (eqb h.number n) (not_append n a b)
  where
    go : (t : Bool) → not_of n (a ++ b) ≡ not_of n a ++ not_of n b → choose t (not_of n (a ++ b)) (h ∷ not_of n (a ++ b)) ≡ choose t (not_of n a) (h ∷ not_of n a) ++ not_of n b
    go true e = e
    go false e = ap (λ (k : List Held). h ∷ k) e

pub above_append : (n : ℕ) (a b : List Held) → above n (a ++ b) ≡ above n a ++ above n b
unfolding above choose
above_append n [] b = refl
above_append n (h ∷ a) b = go (ltb n h.number) (above_append n a b)
  where
    go : (t : Bool) → above n (a ++ b) ≡ above n a ++ above n b → choose t (h ∷ above n (a ++ b)) (above n (a ++ b)) ≡ choose t (h ∷ above n a) (above n a) ++ above n b
    go true e = ap (λ (k : List Held). h ∷ k) e
    go false e = e

-- of a row of which all, or none, are of the number
module _ (n : ℕ) where
  of_all : (a : List Head.Record) (fds : List ℕ) → All (λ h. h.number ≡ n) a → of_number n (with_descriptors a fds) ≡ with_descriptors a fds
  unfolding of_number with_descriptors All
  of_all [] fds p = refl
  of_all (x ∷ a) fds p = choose_yes (eqb x.number n) _ _ (eq-eqb x.number n p.0) ∙ ap (λ (k : List Held). held_with x (take x.fds fds) ∷ k) (of_all a (drop x.fds fds) p.1)

  of_none : (a : List Head.Record) (fds : List ℕ) → All (λ h. h.number ≡ n → ⊥) a → of_number n (with_descriptors a fds) ≡ []
  unfolding of_number with_descriptors All
  of_none [] fds p = refl
  of_none (x ∷ a) fds p = choose_no (eqb x.number n) _ _ (ne_eqb x.number n p.0) ∙ of_none a (drop x.fds fds) p.1

  not_all : (a : List Head.Record) (fds : List ℕ) → All (λ h. h.number ≡ n) a → not_of n (with_descriptors a fds) ≡ []
  unfolding not_of with_descriptors All
  not_all [] fds p = refl
  not_all (x ∷ a) fds p = choose_yes (eqb x.number n) _ _ (eq-eqb x.number n p.0) ∙ not_all a (drop x.fds fds) p.1

  not_none : (a : List Head.Record) (fds : List ℕ) → All (λ h. h.number ≡ n → ⊥) a → not_of n (with_descriptors a fds) ≡ with_descriptors a fds
  unfolding not_of with_descriptors All
  not_none [] fds p = refl
  not_none (x ∷ a) fds p = choose_no (eqb x.number n) _ _ (ne_eqb x.number n p.0) ∙ ap (λ (k : List Held). held_with x (take x.fds fds) ∷ k) (not_none a (drop x.fds fds) p.1)

  above_none : (a : List Head.Record) (fds : List ℕ) → All (λ h. h.number ≤ n) a → above n (with_descriptors a fds) ≡ []
  unfolding above with_descriptors All
  above_none [] fds p = refl
  above_none (x ∷ a) fds p = choose_no (ltb n x.number) _ _ (le-ltb n x.number p.0) ∙ above_none a (drop x.fds fds) p.1

  above_all : (a : List Head.Record) (fds : List ℕ) → All (λ h. n < h.number) a → above n (with_descriptors a fds) ≡ with_descriptors a fds
  unfolding above with_descriptors All
  above_all [] fds p = refl
  above_all (x ∷ a) fds p = choose_yes (ltb n x.number) _ _ (lt-ltb n x.number p.0) ∙ ap (λ (k : List Held). held_with x (take x.fds fds) ∷ k) (above_all a (drop x.fds fds) p.1)

pub length_with : (a : List Head.Record) (fds : List ℕ) → length (with_descriptors a fds) ≡ length a
unfolding with_descriptors
length_with [] fds = refl
length_with (x ∷ a) fds = ap suc (length_with a (drop x.fds fds))

-- A row of replies, as it is read: those of the number, the others, and how many stand above.
module _ (n from : ℕ) (l : List Head.Record) (fds : List ℕ) (R : Rising from l) where
  abbrev L : List Head.Record
  L = lower n l

  abbrev O : List Head.Record
  O = own n l

  abbrev H : List Head.Record
  H = higher n l

  abbrev b : ℕ
  b = fds_in L

  split_read : with_descriptors l fds ≡ with_descriptors L fds ++ (with_descriptors O (drop b fds) ++ with_descriptors H (drop (fds_in O) (drop b fds)))
  split_read =
      ap (λ x. with_descriptors x fds) (rising_split n from l R)
      ∙ with_append L (O ++ H) fds
      ∙ ap (λ (x : List Held). with_descriptors L fds ++ x) (with_append O H (drop b fds))

  lows : All (λ h. h.number ≡ n → ⊥) L
  lows = all_map (λ h p e. omega arith) L (lower_all n l)

  highs : All (λ h. h.number ≡ n → ⊥) H
  highs = all_map (λ h p e. omega arith) H (higher_all n l)

  pub of_read : of_number n (with_descriptors l fds) ≡ with_descriptors O (drop b fds)
  of_read =
      ap (of_number n) split_read ∙ of_append n _ _ ∙ ap (λ (x : List Held). of_number n (with_descriptors L fds) ++ x) (of_append n _ _)
      ∙ (λ k. of_none n L fds lows k ++ (of_all n O (drop b fds) (own_all n l) k ++ of_none n H (drop (fds_in O) (drop b fds)) highs k))
      ∙ append-nil _

  pub not_read : not_of n (with_descriptors l fds) ≡ with_descriptors L fds ++ with_descriptors H (drop (fds_in O) (drop b fds))
  not_read =
      ap (not_of n) split_read ∙ not_append n _ _ ∙ ap (λ (x : List Held). not_of n (with_descriptors L fds) ++ x) (not_append n _ _)
      ∙ (λ k. not_none n L fds lows k ++ (not_all n O (drop b fds) (own_all n l) k ++ not_none n H (drop (fds_in O) (drop b fds)) highs k))

  pub above_read : length (above n (with_descriptors l fds)) ≡ length H
  above_read =
      ap (λ (x : List Held). length (above n x)) split_read ∙ ap length (above_append n _ _ ∙ ap (λ (x : List Held). above n (with_descriptors L fds) ++ x) (above_append n _ _)
      ∙ (λ k. above_none n L fds (all_map (λ h p. omega arith) L (lower_all n l)) k ++ (above_none n O (drop b fds) (all_map (λ h p. omega arith) O (own_all n l)) k ++ above_all n H (drop (fds_in O) (drop b fds)) (higher_all n l) k)))
      ∙ length_with H (drop (fds_in O) (drop b fds))
