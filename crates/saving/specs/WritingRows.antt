-- The records of a window, those of a kind in their order, copied and counted. Assumes nothing.
use Rattle.std.specs.Prelude.{◌≡◌, refl, Bool, true, false, ℕ, suc, ◌+◌, ◌-◌, ◌≤◌, ◌<◌, eqb, take, drop}
use Rattle.std.specs.Coded.{×_prop, Unit-prop, le_prop}
use Rattle.std.proofs.Math.Path.{sym, ap}
use Rattle.std.proofs.Common.{◌∙◌, subst, length-append}
use mathlib.Core.List.{List, [], ◌∷◌, ◌++◌, append_assoc, append-nil}
use Rattle.std.proofs.Math.Decide.{ℕ_discrete}
use native.Mathlib.Omega.{arith}
use Rattle.std.proofs.Math.ListN.{length}
use borrow.Author.Tests.{eq-eqb, ne_eqb}
use Rattle.octets.specs.Logic.{choose}
use Rattle.octets.specs.Bytes.{little_order, word, length_bytes_of}
use Rattle.octets.specs.Put.{put, cut, length_cut, length_put, put_none, put_next, put_ahead}
use Rattle.octets.specs.Field.{put_field}
use Rattle.held.specs.Head.{Record, Fits, header_size, most_store, reply, event, encoded, len_of, kind_of}
use Rattle.held.specs.Reading.{Readable, All, records, only, flat}
use Rattle.held.specs.Front.{Stands}
use Rattle.held.specs.Rows.{only_is, only_other}
use Rattle.held.specs.declared.Window.{Window}
use Rattle.held.specs.Rest.{Rest, Turn, turn, turn_behind, turn_room, rest_none}
use Rattle.saving.specs.declared.writing.Passed.{Passed}

-- that records fit has one proof at most
fits_one : (h : Record) → IsProp (Fits h)
fits_one h = Prim.hlevel le_prop

pub fits_prop : (hs : List Record) → IsProp (All Fits hs)
unfolding All
fits_prop [] = Unit-prop
fits_prop (h ∷ hs) = ×_prop (fits_one h) (fits_prop hs)

-- the bytes of the record at an index of a store, if it is of the kind, and how many records these are
unfoldable pub copied : ℕ → List ℕ → ℕ → List ℕ
copied kind s at = choose (eqb (kind_of (drop at s)) kind) (cut at (header_size + len_of (drop at s)) s) []

unfoldable pub hits : ℕ → List ℕ → ℕ → ℕ
hits kind s at = choose (eqb (kind_of (drop at s)) kind) 1 0

-- what a walk over records counted: those of a kind, and all
pub record Counts (hs : List Record) (kind : ℕ) (r : Passed) : Type 0 where
  pub counts : r.count ≡ length (only kind hs)
  pub all_of : r.all ≡ length hs
  pub few : r.count ≤ most_store
  pub few_all : r.all ≤ most_store

-- what a copy of those of a kind to an index leaves: where it ends, what was counted, and the output
pub record Copies (hs : List Record) (kind start : ℕ) (out : List ℕ) (r : Passed) (out' : List ℕ) : Type 0 where
  pub ends : r.end ≡ start + length (flat (only kind hs))
  pub counted : Counts hs kind r
  pub bytes : out' ≡ put out start (flat (only kind hs))

-- ---- one record

module _ (kind : ℕ) (s : List ℕ) (at : ℕ) where
  copied_none : (kind_of (drop at s) ≡ kind → ⊥) → ([] ≡ copied kind s at) × (0 ≡ hits kind s at)
  unfolding copied hits choose
  copied_none h = let e = ne_eqb _ _ h in (rw e, rw e)

  copied_some : kind_of (drop at s) ≡ kind → (cut at (header_size + len_of (drop at s)) s ≡ copied kind s at) × (1 ≡ hits kind s at)
  unfolding copied hits choose
  copied_some h = let e = eq-eqb _ _ h in (rw e, rw e)

-- of another kind: nothing is copied
pub copy_none : (kind : ℕ) (o : List ℕ) (to count : ℕ) (s : List ℕ) (at : ℕ) → (kind_of (drop at s) ≡ kind → ⊥)
    → (to ≡ to + length (copied kind s at)) × (count ≡ count + hits kind s at) × (o ≡ put o to (copied kind s at))
copy_none kind o to count s at h =
    let e = copied_none kind s at h in (omega (arith, ap length e.0), omega (arith, e.1), sym (put_none o to) ∙ ap (put o to) e.0)

-- of the kind
module _ (kind : ℕ) (o : List ℕ) (to : ℕ) (s : List ℕ) (at : ℕ) (h : kind_of (drop at s) ≡ kind) (w : at + (header_size + len_of (drop at s)) ≤ length s) where
  pub copy_long : length (copied kind s at) ≡ header_size + len_of (drop at s)
  copy_long = ap length (sym (copied_some kind s at h).0) ∙ length_cut at (header_size + len_of (drop at s)) s w

  pub copy_some : (len count : ℕ) (y : List ℕ) → len ≡ len_of (drop at s) → y ≡ put o to (take (at + (header_size + len) - at) (drop at s))
      → (to + (header_size + len) ≡ to + length (copied kind s at)) × (count + 1 ≡ count + hits kind s at) × (y ≡ put o to (copied kind s at))
  unfolding cut
  copy_some len count y e f =
      let c = copied_some kind s at h in
      let k : at + (header_size + len) - at ≡ header_size + len_of (drop at s) = omega arith in
      (omega (arith, copy_long), omega (arith, c.1), f ∙ ap (λ (n : ℕ). put o to (take n (drop at s))) k ∙ ap (put o to) c.0)

-- a record that stands at an index is the first of those that are left
front : (b : Bool) (h : Record) (hs : List Record) → (flat (choose b (h ∷ hs) hs) ≡ choose b (encoded h) [] ++ flat hs) × (length (choose b (h ∷ hs) hs) ≡ choose b 1 0 + length hs)
unfolding choose flat
front true h hs = (refl, omega arith)
front false h hs = (refl, omega arith)

module _ (kind : ℕ) (s : List ℕ) (at n : ℕ) (h : Record) (hs : List Record) (S : Stands s at n h (flat hs)) where
  copied_front : flat (only kind (h ∷ hs)) ≡ copied kind s at ++ flat (only kind hs)
  unfolding only copied
  copied_front =
      let e : encoded h ≡ cut at (header_size + len_of (drop at s)) s = sym (ap (λ (k : ℕ). cut at (header_size + k) s) S.len ∙ S.here) in
      (front (eqb h.kind kind) h (only kind hs)).0 ∙ (λ i. choose (eqb (sym S.kind i) kind) (e i) [] ++ flat (only kind hs))

  counted_front : length (only kind (h ∷ hs)) ≡ hits kind s at + length (only kind hs)
  unfolding only hits
  counted_front = (front (eqb h.kind kind) h (only kind hs)).1 ∙ (λ i. choose (eqb (sym S.kind i) kind) 1 0 + length (only kind hs))

hits_most : (kind : ℕ) (s : List ℕ) (at : ℕ) → hits kind s at ≤ 1
unfolding hits choose
hits_most kind s at = go (eqb (kind_of (drop at s)) kind)
  where
    go : (b : Bool) → choose b 1 0 ≤ 1
    go true = omega arith
    go false = omega arith

-- ---- the loop: what was copied and the records that are left are the whole

pub record Inv (o₀ : List ℕ) (start : ℕ) (s : List ℕ) (kind end : ℕ) (whole : List Record) (o : List ℕ) (at to count all : ℕ) : Type 0 where
  pub hs : List Record
  pub bytes : List ℕ
  pub rest : Rest s at end hs
  pub small : length s ≤ most_store
  pub room : start + length (flat (only kind whole)) ≤ length o₀
  pub now : o ≡ put o₀ start bytes
  pub there : to ≡ start + length bytes
  pub few : (count ≤ at) × (all ≤ at)
  pub whole_is : flat (only kind whole) ≡ bytes ++ flat (only kind hs)
  pub whole_many : length (only kind whole) ≡ count + length (only kind hs)
  pub whole_all : length whole ≡ all + length hs

module _ (o₀ : List ℕ) (start : ℕ) (s : List ℕ) (kind end : ℕ) (whole : List Record) (o : List ℕ) (at to count all : ℕ) (I : Inv o₀ start s kind end whole o at to count all) where
  fits : start + length I.bytes ≤ length o₀
  fits = omega (arith, I.room, ap length I.whole_is, length-append I.bytes (flat (only kind I.hs)))

  pub same : length o ≡ length o₀
  same = ap length I.now ∙ length_put o₀ start I.bytes fits

  pub all_done : end ≤ at → Copies whole kind start o₀ (record { end = to; count = count; all = all }) o
  unfolding only flat
  all_done h =
      let z = rest_none s at end I.hs I.rest h in
      let e : flat (only kind whole) ≡ I.bytes = I.whole_is ∙ ap (λ (l : List Record). I.bytes ++ flat (only kind l)) z ∙ append-nil I.bytes in
      let m : length (only kind whole) ≡ count + 0 = I.whole_many ∙ ap (λ (l : List Record). count + length (only kind l)) z in
      let n : length whole ≡ all + 0 = I.whole_all ∙ ap (λ (l : List Record). all + length l) z in
      record {
        ends = omega (arith, I.there, ap length e);
        counted = record { counts = omega arith; all_of = omega arith; few = omega (arith, I.few.0, I.small, I.rest.within, I.rest.order); few_all = omega (arith, I.few.1, I.small, I.rest.within, I.rest.order) };
        bytes = I.now ∙ ap (put o₀ start) (sym e);
      }

  module _ (below : at < end) where
    abbrev T : Turn s at end I.hs
    T = turn s at end I.hs I.rest below

    abbrev one : List ℕ
    one = copied kind s at

    longer : flat (only kind whole) ≡ I.bytes ++ (one ++ flat (only kind T.others))
    longer = I.whole_is ∙ ap (λ (l : List ℕ). I.bytes ++ l) (ap (λ (l : List Record). flat (only kind l)) T.is ∙ copied_front kind s at (end - at) T.it T.others T.here)

    next_fits : start + length I.bytes + length one ≤ length o₀
    next_fits = omega (arith, I.room, ap length longer, length-append I.bytes (one ++ flat (only kind T.others)), length-append one (flat (only kind T.others)))

    pub ready : (at + (header_size + len_of (drop at s)) ≤ length s) × (to + length one ≤ length o) × (count ≤ at)
    ready = (omega (arith, turn_room s at end I.hs I.rest below, I.rest.within), omega (arith, I.there, same, next_fits), I.few.0)

    pub again : (len r n : ℕ) (x : List ℕ) → len ≡ len_of (drop at s) → (r ≡ to + length one) × (n ≡ count + hits kind s at) × (x ≡ put o to one) → Inv o₀ start s kind end whole x (at + (header_size + len)) r n (all + 1)
    again len r n x l e =
        let m : length (only kind I.hs) ≡ hits kind s at + length (only kind T.others) = ap (λ (l : List Record). length (only kind l)) T.is ∙ counted_front kind s at (end - at) T.it T.others T.here in
        let k : length I.hs ≡ suc (length T.others) = ap length T.is in
        record {
          hs = T.others;
          bytes = I.bytes ++ one;
          rest = turn_behind s at end I.hs I.rest below len l;
          small = I.small;
          room = I.room;
          now = put_next o₀ o x start (length I.bytes) I.bytes one I.now refl (e.2 ∙ ap (λ (n : ℕ). put o n one) I.there) next_fits;
          there = omega (arith, e.0, I.there, length-append I.bytes one);
          few = (omega (arith, e.1, I.few.0, hits_most kind s at), omega (arith, I.few.1));
          whole_is = longer ∙ sym (append_assoc I.bytes one (flat (only kind T.others)));
          whole_many = omega (arith, e.1, I.whole_many);
          whole_all = omega (arith, I.whole_all);
        }

-- ---- the count before them

pub records_put : (hs : List Record) (kind : ℕ) (s s₁ s₂ : List ℕ) (to : ℕ) (r : Passed) → Copies hs kind (to + 4) s r s₁ → s₂ ≡ put_field little_order s₁ to 4 r.count → to + (4 + length (flat (only kind hs))) ≤ length s
    → (r.end ≡ to + (4 + length (flat (only kind hs)))) × (s₂ ≡ put s to (word 4 (length (only kind hs)) ++ flat (only kind hs))) × Counts hs kind r
unfolding put_field
records_put hs kind s s₁ s₂ to r C p h = (
  omega (arith, C.ends),
  p ∙ ap (λ (x : List ℕ). put x to (word 4 r.count)) C.bytes
      ∙ put_ahead s to 4 (word 4 r.count) (flat (only kind hs)) (length_bytes_of little_order 4 r.count) (omega arith)
      ∙ ap (λ (n : ℕ). put s to (word 4 n ++ flat (only kind hs))) C.counted.counts,
  C.counted,
)

-- ---- a window without replies: its events are all of it

pub events_alone : (hs : List Record) → All Fits hs → length (only reply hs) ≡ 0 → only event hs ≡ hs
unfolding All only
events_alone [] f e = refl
events_alone (h ∷ hs) f e = elim (ℕ_discrete h.kind reply) [ yes k ↦ absurd (omega (arith, ap length (only_is reply h hs k))) | no k ↦ other k (events_alone hs f.1 (ap length (sym (only_other reply h hs k)) ∙ e)) ]
  where
    other : (h.kind ≡ reply → ⊥) → only event hs ≡ hs → only event (h ∷ hs) ≡ h ∷ hs
    other k r =
        let m : h.kind ≡ event = omega (arith, f.0.kind) in
        only_is event h hs m ∙ ap (λ (l : List Record). h ∷ l) r

pub window_long : (w : Window) (s : List ℕ) → Readable w s → length (flat (records w s)) ≡ w.end - w.start
window_long w s R = ap length (sym R.bytes) ∙ length_cut w.start (w.end - w.start) s (omega (arith, R.order, R.within))

pub window_part : (w : Window) (s : List ℕ) → Readable w s → length (take (w.end - w.start) (drop w.start s)) ≡ w.end - w.start
unfolding cut
window_part w s R = length_cut w.start (w.end - w.start) s (omega (arith, R.order, R.within))

-- the whole of it behind its count
pub window_put : (w : Window) (s : List ℕ) → Readable w s → (o o₁ o₂ : List ℕ) (to count : ℕ) → count ≡ length (records w s) → to + (4 + length (flat (records w s))) ≤ length o
    → o₁ ≡ put_field little_order o to 4 count → o₂ ≡ put o₁ (to + 4) (take (w.end - w.start) (drop w.start s)) → o₂ ≡ put o to (word 4 (length (records w s)) ++ flat (records w s))
unfolding put_field cut
window_put w s R o o₁ o₂ to count c h p q =
    let b : take (w.end - w.start) (drop w.start s) ≡ flat (records w s) = R.bytes in
    put_next o o₁ o₂ to 4 (word 4 count) (flat (records w s)) p (length_bytes_of little_order 4 count) (q ∙ ap (put o₁ (to + 4)) b) (omega arith)
    ∙ ap (λ (n : ℕ). put o to (word 4 n ++ flat (records w s))) c

-- what is put for a whole window is put for its events
pub all_events : (w : Window) (s : List ℕ) → Readable w s → length (only reply (records w s)) ≡ 0 → (o : List ℕ) (to r : ℕ) (o' : List ℕ)
    → (r ≡ to + (4 + length (flat (records w s)))) × (o' ≡ put o to (word 4 (length (records w s)) ++ flat (records w s)))
    → (r ≡ to + (4 + length (flat (only event (records w s))))) × (o' ≡ put o to (word 4 (length (only event (records w s))) ++ flat (only event (records w s))))
all_events w s R z o to r o' p =
    let e = events_alone (records w s) R.fit z in
    subst (λ (l : List Record). (r ≡ to + (4 + length (flat l))) × (o' ≡ put o to (word 4 (length l) ++ flat l))) (sym e) p

pub all_room : (w : Window) (s : List ℕ) → Readable w s → length (only reply (records w s)) ≡ 0 → (to n : ℕ) → to + (4 + length (flat (only event (records w s)))) ≤ n → to + (4 + length (flat (records w s))) ≤ n
all_room w s R z to n h = subst (λ (l : List Record). to + (4 + length (flat l)) ≤ n) (events_alone (records w s) R.fit z) h
