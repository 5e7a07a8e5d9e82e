-- A move leaves a sound state that reads as the records it should. Assumes nothing.
use Rattle.std.specs.Prelude.{◌≡◌, refl, ℕ, ◌+◌, ◌-◌, ◌≤◌, length}
use Rattle.std.proofs.Common.{sym, ◌∙◌, arith}
use Rattle.std.proofs.Math.Path.{ap, subst}
use mathlib.Core.List.{List, [], ◌∷◌, ◌++◌, append_assoc, append-nil}
use Rattle.held.specs.Head.{Record, Fits, cost, encoded, as_event, reply, fits_event}
use Rattle.held.specs.Front.{Stands, stands}
use Rattle.held.specs.Reading.{used, flat, records, replies, costs, All, Known, Sound}
use Rattle.held.specs.Rows.{length_flat, flat_append, all_here}
use Rattle.held.specs.Soundness.{Fine, sound_fine, fine_without, fine_last, Holds, holds}
use Rattle.held.specs.Moves.{Left, left, Within, appended, removed, demoted}
use Rattle.held.specs.Shows.{Shows, shows_used, shows_appended, Between, place_within, rest_is, shows_removed, shows_demoted}
use Rattle.held.specs.Lies.{Lies}
use Rattle.held.specs.declared.Window.{Window}
use Rattle.held.specs.declared.Spot.{Spot}

-- a sound state whose store has n bytes, which reads as hs
pub record Kept (last n : ℕ) (l : Left) (hs : List Record) : Type 0 where
  pub holds : Holds last l.window l.store hs
  pub long : length l.store ≡ n
  pub used : used l.window ≡ costs hs

module _ (last : ℕ) (w : Window) (s : List ℕ) (S : Sound last w s) where
  shown : Shows (length s) (left w s) (flat (records w s))
  shown = record { long = refl; order = S.readable.order; within = S.readable.within; bytes = S.readable.bytes }

  kept : (m : ℕ) (l : Left) (hs : List Record) (x : List ℕ) → Shows (length s) l x → x ≡ flat hs → Fine m hs → Kept m (length s) l hs
  kept m l hs x H e F =
      record {
        holds = holds m l.window l.store hs (omega (arith, H.long, S.readable.room)) H.order (omega (arith, H.long, H.within)) (H.bytes ∙ e) F;
        long = H.long;
        used = shows_used (length s) l x H ∙ ap length e ∙ length_flat hs;
      }

  pub kept_appended : (h : Record) → Fits h → Known last h → (h.kind ≡ reply → All (Known h.number) (replies w s)) → used w + cost h ≤ length s → Kept last (length s) (appended w s h) (records w s ++ (h ∷ []))
  unfolding flat
  kept_appended h f k n r =
      let hs : List Record = records w s in
      kept last (appended w s h) (hs ++ (h ∷ [])) (flat hs ++ encoded h) (shows_appended (length s) w s (flat hs) h shown r)
      (sym (flat_append hs (h ∷ []) ∙ ap (λ (l : List ℕ). flat hs ++ l) (append-nil (encoded h))))
      (fine_last last hs h (sound_fine last w s S) f k n)

  module _ (kind : ℕ) (p : Spot) (before : List Record) (it : Record) (after : List Record) (L : Lies kind w s p before it after) where
    was : Fine last (L.front ++ (it ∷ L.back))
    was = subst (Fine last) L.split (sound_fine last w s S)

    pub between : Between (length s) w s p (flat L.front) it (flat L.back)
    unfolding flat
    between = record {
      shows = subst (Shows (length s) (left w s)) (ap flat L.split ∙ flat_append L.front (it ∷ L.back)) shown;
      at = L.at ∙ ap (λ (n : ℕ). w.start + n) (sym (length_flat L.front));
      len = L.len;
    }

    pub fits_it : Fits it
    fits_it = all_here Fits L.front it L.back was.fit

    -- its fields and its packet are read at the place
    pub stands_it : Stands s p.at (w.end - p.at) it (flat L.back)
    stands_it =
        let I : Within w s p = place_within (length s) w s p (flat L.front) it (flat L.back) between in
        stands s p.at (w.end - p.at) it (flat L.back) (omega (arith, I.fits, I.within)) (rest_is (length s) w s p (flat L.front) it (flat L.back) between) fits_it

    pub kept_removed : Kept last (length s) (removed w s p) (L.front ++ L.back)
    kept_removed =
        kept last (removed w s p) (L.front ++ L.back) (flat L.front ++ flat L.back) (shows_removed (length s) w s p (flat L.front) it (flat L.back) between)
        (sym (flat_append L.front L.back))
        (fine_without last L.front it L.back was)

    pub kept_demoted : Kept last (length s) (left w (demoted w s p)) (L.front ++ L.back ++ (as_event it ∷ []))
    unfolding flat
    kept_demoted =
        let a : List Record = L.front ++ L.back in
        kept last (left w (demoted w s p)) (a ++ (as_event it ∷ [])) (flat L.front ++ (flat L.back ++ encoded (as_event it)))
        (shows_demoted (length s) w s p (flat L.front) it (flat L.back) between)
        (sym
        (flat_append a (as_event it ∷ [])
        ∙ (λ k. flat_append L.front L.back k ++ append-nil (encoded (as_event it)) k)
        ∙ append_assoc (flat L.front) (flat L.back) (encoded (as_event it))))
        (fine_last last a (as_event it) (fine_without last L.front it L.back was) (fits_event it.number it.packet fits_it.number fits_it.least fits_it.most) (all_here (Known last) L.front it L.back was.known)
        (λ e. absurd (omega arith)))
