-- What the floors above may count on: when a state is sound, and what each call does to the two lists. Assumes nothing.
use Rattle.std.specs.Prelude.{◌≡◌, refl, true, ◌↔◌, ℕ, ◌+◌, ◌-◌, ◌≤◌, ◌<◌, length, get_or, Option, Some, None}
use Rattle.std.proofs.Math.Path.{sym, ap}
use Rattle.std.proofs.Common.{◌∙◌, arith}
use mathlib.Core.List.{List, [], ◌∷◌, ◌++◌, append-nil}
use Rattle.octets.specs.Logic.{choose, apart}
use Rattle.octets.specs.Put.{put, cut, cut_none, get_d_cut}
use Rattle.held.specs.General.{choose_either}
use Rattle.held.specs.Head.{Record, Fits, cost, as_event, reply, event, header_size, most_store}
use Rattle.held.specs.Front.{Stands}
use Rattle.held.specs.Reading.{used, flat, records, replies, events, only, fds_in, costs, All, Known, Rising, Sound, soundb}
use Rattle.held.specs.Rows.{only_append, only_is, only_other, costs_append, costs_kinds, all_only}
use Rattle.held.specs.Soundness.{sound_is, sound_so, sound_fine, Fine, fine_later, Holds, holds, used_costs}
use Rattle.held.specs.Walk.{walked}
use Rattle.held.specs.Find.{found_reply, found_event}
use Rattle.held.specs.Moves.{Left, left, Within, appended, removed, handed, demoted}
use Rattle.held.specs.Shows.{place_within}
use Rattle.held.specs.Lies.{Lies, lies_others, FindsReply, FindsEvent, finds_reply, finds_event}
use Rattle.held.specs.Keeps.{Kept, kept_appended, between, fits_it, stands_it, kept_removed, kept_demoted}
use Rattle.held.specs.declared.Window.{Window}
use Rattle.held.specs.declared.Spot.{Spot}

-- ---- soundness

-- The test of soundness holds exactly for the states that are sound.
pub sound_exactly : (last : ℕ) (w : Window) (s : List ℕ) → (soundb last w s ≡ true) ↔ Sound last w s
sound_exactly last w s = (sound_is last w s, sound_so last w s)

-- what a walk says
abbrev pub Walks : ℕ → Window → List ℕ → Option ℕ → Type 0
Walks last w s (Some n) = Sound last w s × (n ≡ fds_in (replies w s))
Walks last w s None = Sound last w s → ⊥

-- A walk says whether the state is sound and, if so, how many descriptors the replies have in all.
pub walks : (last : ℕ) (w : Window) (s : List ℕ) → Walks last w s (walked last w s)
unfolding walked
walks last w s =
    choose_either (Walks last w s) (soundb last w s) (Some (fds_in (replies w s))) None (λ t. (sound_is last w s t, refl)) (λ f S. apart (sound_so last w s S) f)

-- The costs of the records of both lists add up to what is used.
pub sound_used : (last : ℕ) (w : Window) (s : List ℕ) → Sound last w s → used w ≡ costs (replies w s) + costs (events w s)
sound_used last w s S = used_costs w s S.readable ∙ costs_kinds (records w s) S.readable.fit

-- The last read may rise.
pub sound_later : (last n : ℕ) (w : Window) (s : List ℕ) → last ≤ n → Sound last w s → Sound n w s
sound_later last n w s h S =
    let F : Fine n (records w s) = fine_later last n (records w s) h (sound_fine last w s S) in
    record { readable = S.readable; rising = F.rising; known = F.known }

-- An empty window is sound and holds nothing.
pub sound_empty : (last : ℕ) (w : Window) (s : List ℕ) → length s ≤ most_store → w.start ≡ w.end → w.end ≤ length s → Holds last w s []
unfolding flat only All Rising
sound_empty last w s m e i =
    let z : w.end - w.start ≡ 0 = omega arith in
    holds last w s [] m (omega arith) i (ap (λ (n : ℕ). cut w.start n s) z ∙ cut_none s w.start) (record { fit = tt; rising = tt; known = tt })

-- ---- append

-- The new record is the last of its list, the other list is as it was, its cost is used, and the state is sound with the last read given.
pub record AppendedUnder (last : ℕ) (w : Window) (s : List ℕ) (h : Record) (l : Left) : Type 0 where
  pub sound : Sound last l.window l.store
  pub all : records l.window l.store ≡ records w s ++ (h ∷ [])
  pub own : only h.kind (records l.window l.store) ≡ only h.kind (records w s) ++ (h ∷ [])
  pub other : (kind : ℕ) → (h.kind ≡ kind → ⊥) → only kind (records l.window l.store) ≡ only kind (records w s)
  pub used : used l.window ≡ used w + cost h
  pub long : length l.store ≡ length s

-- so with the new record's number as the last read
abbrev pub Appended : Window → List ℕ → Record → Left → Type 0
Appended w s h = AppendedUnder h.number w s h

module _ (last : ℕ) (w : Window) (s : List ℕ) (S : Sound last w s) (h : Record) (f : Fits h) (r : used w + cost h ≤ length s) where
  -- A record that fits is appended if its number is not above the last read, and for a reply not below another reply's; an event's may be lower than those of the records before it. The last read stays.
  pub append_known_law : Known last h → (h.kind ≡ reply → All (Known h.number) (replies w s)) → AppendedUnder last w s h (appended w s h)
  unfolding only costs
  append_known_law k n =
      let K : Kept last (length s) (appended w s h) (records w s ++ (h ∷ [])) = kept_appended last w s S h f k n r in
      record {
        sound = K.holds.sound;
        all = K.holds.reads;
        own = ap (only h.kind) K.holds.reads ∙ only_append h.kind (records w s) (h ∷ [])
            ∙ ap (λ (l : List Record). only h.kind (records w s) ++ l) (only_is h.kind h [] refl);
        other = λ kind d.
            ap (only kind) K.holds.reads ∙ only_append kind (records w s) (h ∷ []) ∙ ap (λ (l : List Record). only kind (records w s) ++ l) (only_other kind h [] d)
            ∙ append-nil (only kind (records w s));
        used = K.used ∙ costs_append (records w s) (h ∷ []) ∙ omega (arith, used_costs w s S.readable);
        long = K.long;
      }

-- A record that fits, of a number at or above the last read, is appended; its number is then the last read.
pub append_law : (last : ℕ) (w : Window) (s : List ℕ) → Sound last w s → (h : Record) → Fits h → used w + cost h ≤ length s → last ≤ h.number → Appended w s h (appended w s h)
append_law last w s S h f r n =
    let T : Sound h.number w s = sound_later last h.number w s n S in
    append_known_law h.number w s T h f r (omega arith) (λ e. all_only (Known h.number) reply (records w s) T.known)

-- ---- find

-- The oldest reply of a number is found exactly where the list of replies has one of that number, and then it is the first such.
pub find_reply_law : (n last : ℕ) (w : Window) (s : List ℕ) → Sound last w s → FindsReply n w s (found_reply n w s)
find_reply_law n last w s S = finds_reply n w s S.readable

-- The oldest event is found exactly where the list of events has one, and then it is the first of it.
pub find_event_law : (w : Window) (s : List ℕ) → FindsEvent w s (found_event w s)
find_event_law w s = finds_event w s

-- ---- at a place that was found

-- The record leaves its list, the others stay in order, the other list is as it was, and its cost is given back.
pub record Removed (last kind : ℕ) (w : Window) (s : List ℕ) (before : List Record) (it : Record) (after : List Record) (l : Left) : Type 0 where
  pub sound : Sound last l.window l.store
  pub own : only kind (records l.window l.store) ≡ before ++ after
  pub other : (k : ℕ) → (kind ≡ k → ⊥) → only k (records l.window l.store) ≡ only k (records w s)
  pub used : used l.window + cost it ≡ used w
  pub long : length l.store ≡ length s

-- The reply leaves the replies and is the last of the events, without descriptors; what is used stays.
pub record Demoted (last : ℕ) (w : Window) (s : List ℕ) (before : List Record) (it : Record) (after : List Record) (s' : List ℕ) : Type 0 where
  pub sound : Sound last w s'
  pub replies : replies w s' ≡ before ++ after
  pub events : events w s' ≡ events w s ++ (as_event it ∷ [])
  pub long : length s' ≡ length s

module _ (last : ℕ) (w : Window) (s : List ℕ) (S : Sound last w s) (kind : ℕ) (p : Spot) (before : List Record) (it : Record) (after : List Record) (L : Lies kind w s p before it after) where
  -- A place that was found lies in the window.
  pub place_law : Within w s p
  place_law = place_within (length s) w s p (flat L.front) it (flat L.back) (between last w s S kind p before it after L)

  -- The record there fits.
  pub fits_law : Fits it
  fits_law = fits_it last w s S kind p before it after L

  stand : Stands s p.at (w.end - p.at) it (flat L.back)
  stand = stands_it last w s S kind p before it after L

  -- The packet that is taken is its packet.
  pub take_law : (out : List ℕ) → handed s p out ≡ put out 0 it.packet
  unfolding handed
  take_law out = ap (put out 0) (ap (λ (n : ℕ). cut (p.at + header_size) n s) L.len ∙ stand.packet)

  -- The first byte there is its packet's.
  pub first_law : (p.at + header_size < length s) × (get_or s (p.at + header_size) 0 ≡ get_or it.packet 0 0)
  first_law =
      let z : p.at + header_size ≡ p.at + header_size + 0 = omega arith in (
        omega (arith, stand.least, stand.most, place_law.within, place_law.from),
        ap (λ (n : ℕ). get_or s n 0) z
            ∙ sym (get_d_cut s (p.at + header_size) (length it.packet) 0 (omega (arith, fits_law.least)))
            ∙ ap (λ (l : List ℕ). get_or l 0 0) stand.packet,
      )

  -- Removing, with its packet handed out or not.
  pub remove_law : Removed last kind w s before it after (removed w s p)
  unfolding costs
  remove_law =
      let K : Kept last (length s) (removed w s p) (L.front ++ L.back) = kept_removed last w s S kind p before it after L in
      let u : used w ≡ costs (L.front ++ (it ∷ L.back)) = used_costs w s S.readable ∙ ap costs L.split in
      record {
        sound = K.holds.sound;
        own = ap (only kind) K.holds.reads ∙ only_append kind L.front L.back ∙ (λ k. L.before_is k ++ L.after_is k);
        other = λ k d. ap (only k) K.holds.reads ∙ sym (lies_others kind w s p before it after L k d);
        used = omega (arith, K.used, u, costs_append L.front L.back, costs_append L.front (it ∷ L.back));
        long = K.long;
      }

-- Moving a reply to the end of the events.
pub demote_law : (last : ℕ) (w : Window) (s : List ℕ) → Sound last w s → (p : Spot) (before : List Record) (it : Record) (after : List Record) → Lies reply w s p before it after → Demoted last w s before it after (demoted w s p)
unfolding only choose
demote_law last w s S p before it after L =
    let K : Kept last (length s) (left w (demoted w s p)) (L.front ++ L.back ++ (as_event it ∷ [])) = kept_demoted last w s S reply p before it after L in
    let a : List Record = L.front ++ L.back in
    record {
      sound = K.holds.sound;
      replies = ap (only reply) K.holds.reads ∙ only_append reply a (as_event it ∷ []) ∙ append-nil (only reply a) ∙ only_append reply L.front L.back
          ∙ (λ k. L.before_is k ++ L.after_is k);
      events = ap (only event) K.holds.reads ∙ only_append event a (as_event it ∷ [])
          ∙ ap (λ (l : List Record). l ++ (as_event it ∷ [])) (sym (lies_others reply w s p before it after L event (λ q. omega arith)));
      long = K.long;
    }
