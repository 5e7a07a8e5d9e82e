-- The test of soundness is the paper's sentence, and what keeps a state sound. Assumes nothing.
use Rattle.std.specs.Prelude.{◌≡◌, true, List, [], ◌∷◌, ◌++◌, ℕ, ◌≤◌, length}
use Rattle.std.proofs.Common.{sym, ap, ◌∙◌, subst, append-nil, arith, leb-true, le-leb}
use Rattle.std.proofs.Math.Decide.{ℕ_discrete}
use Rattle.octets.specs.Logic.{both_left, both_right, both_yes}
use Rattle.octets.specs.Put.{length_cut}
use Rattle.held.specs.General.{same_is, same_yes}
use Rattle.held.specs.Head.{Record, Fits, fits_is, fits_so, reply, most_store}
use Rattle.held.specs.Reading.{inside, used, flat, read_all, records, replies, only, costs, All, Rising, Known, Readable, Sound, known, fine, soundb}
use Rattle.held.specs.Rows.{length_flat, read_flat, only_append, only_is, only_other, all_is, all_so, all_map, all_append, all_without, rising_is, rising_so, rising_without, rising_last}
use Rattle.held.specs.declared.Window.{Window}

-- ---- the test

known_is : (last : ℕ) (h : Record) → known last h ≡ true → Known last h
known_is last h t = leb-true h.number last t

known_so : (last : ℕ) (h : Record) → Known last h → known last h ≡ true
known_so last h k = le-leb h.number last k

-- The test holds exactly for a sound state.
pub sound_is : (last : ℕ) (w : Window) (s : List ℕ) → soundb last w s ≡ true → Sound last w s
unfolding soundb fine
sound_is last w s t =
    let t₁ = both_right _ _ t in
    let t₂ = both_right _ _ t₁ in
    let t₃ = both_right _ _ t₂ in
    let t₄ = both_right _ _ t₃ in
    let t₅ = both_right _ _ t₄ in
    record {
      readable = record {
        room = leb-true (length s) most_store (both_left _ _ t);
        order = leb-true w.start w.end (both_left _ _ t₁);
        within = leb-true w.end (length s) (both_left _ _ t₂);
        bytes = same_is (inside w s) (flat (records w s)) (both_left _ _ t₃);
        fit = all_is fits_is (records w s) (both_left _ _ t₄);
      };
      rising = rising_is 0 (replies w s) (both_left _ _ t₅);
      known = all_is (known_is last) (records w s) (both_right _ _ t₅);
    }

pub sound_so : (last : ℕ) (w : Window) (s : List ℕ) → Sound last w s → soundb last w s ≡ true
unfolding soundb fine
sound_so last w s S =
    let R = S.readable in
    both_yes _ _ (le-leb (length s) most_store R.room)
    (both_yes _ _ (le-leb w.start w.end R.order)
    (both_yes _ _ (le-leb w.end (length s) R.within)
    (both_yes _ _ (same_yes (inside w s) (flat (records w s)) R.bytes)
    (both_yes _ _ (all_so fits_so (records w s) R.fit)
    (both_yes _ _ (rising_so 0 (replies w s) S.rising) (all_so (known_so last) (records w s) S.known))))))

-- ---- what a sound state's records are, whatever their bytes

pub record Fine (last : ℕ) (hs : List Record) : Type 0 where
  pub fit : All Fits hs
  pub rising : Rising 0 (only reply hs)
  pub known : All (Known last) hs

pub sound_fine : (last : ℕ) (w : Window) (s : List ℕ) → Sound last w s → Fine last (records w s)
sound_fine last w s S = record { fit = S.readable.fit; rising = S.rising; known = S.known }

-- The last read may rise.
pub fine_later : (last n : ℕ) (hs : List Record) → last ≤ n → Fine last hs → Fine n hs
fine_later last n hs h F = record { fit = F.fit; rising = F.rising; known = all_map (λ x k. omega arith) hs F.known }

-- A record may go.
pub fine_without : (last : ℕ) (a : List Record) (h : Record) (b : List Record) → Fine last (a ++ (h ∷ b)) → Fine last (a ++ b)
fine_without last a h b F =
    record {
      fit = all_without Fits a h b F.fit;
      rising = subst (Rising 0) (sym (only_append reply a b)) (elim (ℕ_discrete h.kind reply) [ yes e ↦ one e | no n ↦ other n ]);
      known = all_without (Known last) a h b F.known;
    }
  where
    one : h.kind ≡ reply → Rising 0 (only reply a ++ only reply b)
    one e =
        rising_without 0 (only reply a) h (only reply b)
        (subst (Rising 0) (only_append reply a (h ∷ b) ∙ ap (λ (l : List Record). only reply a ++ l) (only_is reply h b e)) F.rising)

    other : (h.kind ≡ reply → ⊥) → Rising 0 (only reply a ++ only reply b)
    other n = subst (Rising 0) (only_append reply a (h ∷ b) ∙ ap (λ (l : List Record). only reply a ++ l) (only_other reply h b n)) F.rising

-- A record of a known number may come last: an event, or a reply whose number no other reply's is above.
pub fine_last : (last : ℕ) (hs : List Record) (h : Record) → Fine last hs → Fits h → Known last h → (h.kind ≡ reply → All (Known h.number) (only reply hs)) → Fine last (hs ++ (h ∷ []))
unfolding All only
fine_last last hs h F f k r =
    record {
      fit = all_append Fits hs (h ∷ []) F.fit (f, tt);
      rising = subst (Rising 0) (sym (only_append reply hs (h ∷ []))) (elim (ℕ_discrete h.kind reply) [ yes e ↦ one e | no n ↦ other n ]);
      known = all_append (Known last) hs (h ∷ []) F.known (k, tt);
    }
  where
    one : h.kind ≡ reply → Rising 0 (only reply hs ++ only reply (h ∷ []))
    one e =
        subst (λ (l : List Record). Rising 0 (only reply hs ++ l)) (sym (only_is reply h [] e))
        (rising_last 0 (only reply hs) h (omega arith) F.rising (r e))

    other : (h.kind ≡ reply → ⊥) → Rising 0 (only reply hs ++ only reply (h ∷ []))
    other n = subst (λ (l : List Record). Rising 0 (only reply hs ++ l)) (sym (only_other reply h [] n)) (subst (Rising 0) (sym (append-nil (only reply hs))) F.rising)

-- ---- a state whose bytes are those of fine records

pub record Holds (last : ℕ) (w : Window) (s : List ℕ) (hs : List Record) : Type 0 where
  pub sound : Sound last w s
  pub reads : records w s ≡ hs

-- A window whose bytes are fine records is sound and reads as them.
pub holds : (last : ℕ) (w : Window) (s : List ℕ) (hs : List Record) → length s ≤ most_store → w.start ≤ w.end → w.end ≤ length s → inside w s ≡ flat hs → Fine last hs → Holds last w s hs
unfolding records
holds last w s hs m o i e F =
    let r : records w s ≡ hs = ap read_all e ∙ read_flat hs F.fit in
    record {
      sound = record {
        readable = record { room = m; order = o; within = i; bytes = e ∙ ap flat (sym r); fit = subst (All Fits) (sym r) F.fit };
        rising = subst (λ (l : List Record). Rising 0 (only reply l)) (sym r) F.rising;
        known = subst (All (Known last)) (sym r) F.known;
      };
      reads = r;
    }

-- The costs of the records add up to what is used.
pub used_costs : (w : Window) (s : List ℕ) → Readable w s → used w ≡ costs (records w s)
used_costs w s R =
    sym (length_cut w.start (used w) s (omega (arith, R.order, R.within))) ∙ ap length R.bytes ∙ length_flat (records w s)
