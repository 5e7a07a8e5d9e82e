-- What a walk over the window answers. Assumes nothing.
use Rattle.std.specs.Prelude.{◌≡◌, refl, true, false, ℕ, ◌+◌, ◌≤◌, ◌<◌, length, drop, Option, Some, None}
use Rattle.std.proofs.Math.Path.{sym, ap}
use Rattle.std.proofs.Common.{◌∙◌, zero-add, add-zero, add_assoc, arith, take-append-drop}
use Rattle.std.proofs.Math.Bool.{Bool}
use mathlib.Core.List.{List, [], ◌∷◌, ◌++◌}
use Rattle.std.proofs.Math.Dec.{eqb}
use Rattle.std.proofs.Math.ListN.{take}
use Rattle.std.proofs.Math.Seq.{take_at}
use borrow.Author.Tests.{leb-true, le-leb}
use Rattle.octets.specs.Logic.{choose, both, both_left, both_right}
use Rattle.octets.specs.Put.{cut}
use Rattle.held.specs.General.{choose_no, not_so, same, same_is, same_append}
use Rattle.held.specs.Head.{Record, fits, fits_is, fits_so, cost, encoded, decoded, length_encoded, most_store, reply}
use Rattle.held.specs.Front.{Begins}
use Rattle.held.specs.Reading.{inside, flat, read_up_to, read_all, records, replies, only, fds_in, all, rising, known, fine, soundb, Sound}
use Rattle.held.specs.Rows.{read_step, fds_step}
use Rattle.held.specs.Soundness.{sound_is}
use Rattle.held.specs.declared.Window.{Window}

-- Sound with the descriptors of the replies in all, or unsound.
unfoldable pub walked : ℕ → Window → List ℕ → Option ℕ
walked last w s = choose (soundb last w s) (Some (fds_in (replies w s))) None

-- ---- laws

-- the same of the bytes that are left, with the least number of the next reply and the descriptors so far
unfoldable pub walked_on : ℕ → ℕ → ℕ → List ℕ → Option ℕ
walked_on from last sum x = choose (fine from last x (read_all x)) (Some (sum + fds_in (only reply (read_all x)))) None

-- the least number of the next reply after a record of a kind and a number
abbrev pub raised : ℕ → ℕ → ℕ → ℕ
raised kind number from = choose (eqb kind reply) number from

pub walk_unsound : (last : ℕ) (w : Window) (s : List ℕ) → (Sound last w s → ⊥) → None ≡ walked last w s
unfolding walked
walk_unsound last w s h = sym (choose_no _ _ _ (not_so (soundb last w s) (λ t. h (sound_is last w s t))))

pub walk_enter : (last : ℕ) (w : Window) (s : List ℕ) → length s ≤ most_store → w.start ≤ w.end → w.end ≤ length s → walked_on 0 last 0 (inside w s) ≡ walked last w s
unfolding walked walked_on soundb records both
walk_enter last w s m o i =
    let a = le-leb (length s) most_store m in
    let b = le-leb w.start w.end o in
    let c = le-leb w.end (length s) i in
    sym
    (λ k.
    choose (both (a k) (both (b k) (both (c k) (fine 0 last (inside w s) (records w s))))) (Some (sym (zero-add (fds_in (replies w s))) k)) None)

pub walk_end : (from last sum : ℕ) (x : List ℕ) → length x ≡ 0 → Some sum ≡ walked_on from last sum x
unfolding walked_on read_all read_up_to fine flat same all rising only fds_in both choose
walk_end from last sum [] e = ap Some (sym (add-zero sum))
walk_end from last sum (b ∷ x) e = absurd (omega arith)

-- a record at the front, a reply or not, and the replies l behind it
rising_front : (t : Bool) (h : Record) (l : List Record) (from : ℕ) → rising from (choose t (h ∷ l) l) ≡ true → from ≤ choose t h.number from
unfolding rising choose
rising_front true h l from e = leb-true from h.number (both_left _ _ e)
rising_front false h l from e = omega arith

rising_on : (t : Bool) (h : Record) (l : List Record) (from : ℕ) → from ≤ choose t h.number from → rising from (choose t (h ∷ l) l) ≡ rising (choose t h.number from) l
unfolding rising choose both
rising_on true h l from e = ap (λ (b : Bool). both b (rising h.number l)) (le-leb from h.number e)
rising_on false h l from e = refl

module _ (from last sum : ℕ) (x : List ℕ) (some : 0 < length x) where
  abbrev h : Record
  h = decoded x

  abbrev y : List ℕ
  y = drop (cost h) x

  -- Bytes that aren't fine stop a walk,
  fine_front : fine from last x (h ∷ read_all y) ≡ true → Begins x × (h.number ≤ last) × (from ≤ raised h.kind h.number from)
  unfolding fine flat all rising only cut
  fine_front t =
      let e : x ≡ encoded h ++ flat (read_all y) = same_is _ _ (both_left _ _ t) in
      let t₁ = both_right _ _ t in
      let t₂ = both_right _ _ t₁ in
      let b : take (cost h) x ≡ encoded h = ap (λ (l : List ℕ). take (cost h) l) e ∙ take_at (encoded h) (flat (read_all y)) (cost h) (length_encoded h) in
      (record { fit = fits_is h (both_left _ _ (both_left _ _ t₁)); bytes = b }, leb-true h.number last (both_left _ _ (both_right _ _ t₂)), rising_front (eqb h.kind reply) h (only reply (read_all y)) from (both_left _ _ t₂))

  pub walk_stop : (Begins x → h.number ≤ last → from ≤ raised h.kind h.number from → ⊥) → None ≡ walked_on from last sum x
  unfolding walked_on
  walk_stop n =
      sym
      (choose_no _ _ _
      (not_so _
      (λ t. let f = fine_front (sym (ap (fine from last x) (read_step x some)) ∙ t) in n f.0 f.1 f.2)))

  -- and a record that is fine lets it go on behind.
  pub walk_step : Begins x → h.number ≤ last → from ≤ raised h.kind h.number from → walked_on from last sum x ≡ walked_on (raised h.kind h.number from) last (sum + h.fds) y
  unfolding walked_on fine flat all only both cut
  walk_step b k r =
      let hs : List Record = read_all y in
      let t : Bool = eqb h.kind reply in
      let e : x ≡ encoded h ++ y = sym (take-append-drop (cost h) x) ∙ ap (λ (l : List ℕ). l ++ y) b.bytes in
      let p : same x (encoded h ++ flat hs) ≡ same y (flat hs) = ap (λ (l : List ℕ). same l (encoded h ++ flat hs)) e ∙ same_append (encoded h) y (flat hs) in
      let q = rising_on t h (only reply hs) from r in
      let f = fits_so h b.fit in
      let g = le-leb h.number last k in
      let d = ap (λ (n : ℕ). sum + n) (fds_step h hs b.fit) ∙ sym (add_assoc sum h.fds (fds_in (only reply hs))) in
      ap (λ (l : List Record). choose (fine from last x l) (Some (sum + fds_in (only reply l))) None) (read_step x some)
      ∙ (λ j. choose (both (p j) (both (both (f j) (all fits hs)) (both (q j) (both (g j) (all (known last) hs))))) (Some (d j)) None)
