-- What discarding does to the rows of records and to the descriptors. Assumes nothing.
use Rattle.std.specs.Prelude.{◌≡◌, Bool, true, false, ltb, length, get_or, Option, Some, None}
use Rattle.std.proofs.Math.Path.{refl, sym, ap}
use Rattle.std.proofs.Common.{◌∙◌, drop_at, drop-drop, length-take-le}
use mathlib.Core.List.{List, [], ◌∷◌, ◌++◌, append_assoc, append-nil}
use Prim.Native.Nat.{ℕ, zero, suc, ◌+◌, ◌-◌, ◌≤◌}
use native.Mathlib.Omega.{arith}
use Rattle.std.proofs.Math.ListN.{take, drop}
use Rattle.std.proofs.lemmas.List.{take-append-le}
use Rattle.std.proofs.Math.Seq.{take-take}
use Rattle.octets.specs.Logic.{choose}
use Rattle.octets.specs.Put.{cut, cut_append, take_drop}
use Rattle.held.specs.General.{choose_yes, choose_no, choose_either}
use Rattle.held.specs.Head as Head
use Rattle.held.specs.Head.{header_size}
use Rattle.held.specs.Reading as Store
use Rattle.held.specs.Reading.{All, fds_in}
use Rattle.held.specs.Find.{found_reply}
use Rattle.held.specs.Moves.{Left, left, removed, demoted}
use Rattle.held.specs.Lies.{Other, FirstReply, FindsReply}
use Rattle.held.specs.Theorems as Held
use Rattle.held.specs.declared.Spot.{Spot}
use Rattle.held.specs.Tally.{own, lower, higher}
use Rattle.descriptors.specs.Room as Slots
use Rattle.descriptors.specs.Theorems as Fds
use Rattle.model.specs.Client.{descriptors_of}
use Rattle.model.specs.Client as Client
use Rattle.packet.specs.Packet.{class_of, is_error}
use Rattle.model.specs.Reading.{held_with, with_descriptors}
use Rattle.model.specs.ReadingLaws.{descriptors_with}
use Rattle.model.specs.declared.DiscardMode.{DiscardMode}
use Rattle.discarding.specs.Runs.{own_is, own_not, lower_not, higher_not, rising_split}
use Rattle.discarding.specs.Exact.{closed_round, cleared_at, cleared_from, cleared}

-- ---- descriptors of a part of a row

pub take_with : (m : ℕ) (a : List Head.Record) (fds : List ℕ) → take m (with_descriptors a fds) ≡ with_descriptors (take m a) fds
unfolding with_descriptors
take_with zero a fds = refl
take_with (suc m) [] fds = refl
take_with (suc m) (h ∷ a) fds = ap (λ (l : List Client.Held). held_with h (take h.fds fds) ∷ l) (take_with m a (drop h.fds fds))

pub drop_with : (m : ℕ) (a : List Head.Record) (fds : List ℕ) → drop m (with_descriptors a fds) ≡ with_descriptors (drop m a) (drop (fds_in (take m a)) fds)
unfolding with_descriptors fds_in
drop_with zero a fds = refl
drop_with (suc m) [] fds = refl
drop_with (suc m) (h ∷ a) fds = drop_with m a (drop h.fds fds) ∙ ap (with_descriptors (drop m a)) (drop-drop (fds_in (take m a)) h.fds fds)

descriptors_append : (a b : List Client.Held) → descriptors_of (a ++ b) ≡ descriptors_of a ++ descriptors_of b
unfolding descriptors_of
descriptors_append [] b = refl
descriptors_append (h ∷ a) b = ap (λ (l : List ℕ). h.descriptors ++ l) (descriptors_append a b) ∙ sym (append_assoc h.descriptors (descriptors_of a) (descriptors_of b))

-- a row from record m on and then round
pub descriptors_round : (m : ℕ) (a : List Head.Record) (fds : List ℕ)
    → descriptors_of (drop m (with_descriptors a fds) ++ take m (with_descriptors a fds)) ≡ take (fds_in (drop m a)) (drop (fds_in (take m a)) fds) ++ take (fds_in (take m a)) fds
descriptors_round m a fds =
    descriptors_append _ _
    ∙ (λ k. descriptors_of (drop_with m a fds k) ++ descriptors_of (take_with m a fds k))
    ∙ (λ k. descriptors_with (drop m a) (drop (fds_in (take m a)) fds) k ++ descriptors_with (take m a) fds k)

-- ---- two runs closed, the second first

module _ (d : Slots.Room) (S : Slots.Sound d) (at u v : ℕ) (some : at + u + v ≤ d.counts.held) where
  abbrev h : List ℕ
  h = Slots.holding d

  abbrev d₁ : Slots.Room
  d₁ = Slots.close_held (at + u) v d

  abbrev x : List ℕ
  x = take (at + u) h

  abbrev y : List ℕ
  y = drop (at + u + v) h

  one : Slots.Lists d₁ (Slots.closing d ++ Slots.held_run (at + u) v d) (x ++ y) (Slots.waiting d)
  one = Fds.close_held_lists d S (at + u) v some

  sound₁ : Slots.Sound d₁
  sound₁ = Fds.close_held_sound d S (at + u) v some

  held₁ : d₁.counts.held ≡ d.counts.held - v
  unfolding Slots.close_held
  held₁ = refl

  long : length x ≡ at + u
  long = length-take-le (at + u) h (omega (arith, Fds.length_holding d S))

  two : Slots.Lists (closed_round at u v d) (Slots.closing d₁ ++ Slots.held_run at u d₁) (take at (Slots.holding d₁) ++ drop (at + u) (Slots.holding d₁)) (Slots.waiting d₁)
  unfolding closed_round
  two = Fds.close_held_lists d₁ sound₁ at u (omega (arith, held₁))

  run₁ : Slots.held_run at u d₁ ≡ take u (drop at h)
  unfolding Slots.held_run cut
  run₁ =
      ap (cut at u) one.holding_is ∙ cut_append at u x y (omega (arith, long)) ∙ take_drop at u x ∙ ap (drop at) (take-take (at + u) (at + u) h (omega arith)) ∙ sym (take_drop at u h)

  pub round_lists : Slots.Lists (closed_round at u v d) (Slots.closing d ++ (take v (drop (at + u) h) ++ take u (drop at h))) (take at h ++ drop (at + (u + v)) h) (Slots.waiting d)
  unfolding Slots.held_run cut
  round_lists =
      let e : at + u + v ≡ at + (u + v) = omega arith in
      record {
        closing_is = two.closing_is ∙ (λ k. one.closing_is k ++ run₁ k) ∙ append_assoc (Slots.closing d) _ _;
        holding_is = two.holding_is ∙ (λ k. take at (one.holding_is k) ++ drop (at + u) (one.holding_is k))
            ∙ (λ k. (take-append-le at x y (omega (arith, long)) ∙ take-take at (at + u) h (omega arith)) k ++ (drop_at x y (at + u) long ∙ ap (λ (n : ℕ). drop n h) e) k);
        waiting_is = two.waiting_is ∙ one.waiting_is;
      }

  pub round_sound : Slots.Sound (closed_round at u v d)
  unfolding closed_round
  round_sound = Fds.close_held_sound d₁ sound₁ at u (omega (arith, held₁))

  pub round_held : (closed_round at u v d).counts.held ≡ d.counts.held - (u + v)
  unfolding closed_round Slots.close_held
  round_held = omega arith

-- ---- the packets of a number, one after the other

-- the errors of a row, as events; what discarding makes events
unfoldable pub errors_in : List Head.Record → List Head.Record
errors_in [] = []
errors_in (h ∷ l) = choose (is_error (class_of (get_or h.packet 0 0))) (Head.as_event h ∷ errors_in l) (errors_in l)

abbrev pub becoming : DiscardMode → List Head.Record → List Head.Record
becoming DiscardMode.DiscardReply l = errors_in l
becoming DiscardMode.DiscardReplyAndError l = []

errors_first : (h : Head.Record) (l : List Head.Record) → errors_in (h ∷ l) ≡ errors_in (h ∷ []) ++ errors_in l
unfolding errors_in choose
errors_first h l = go (is_error (class_of (get_or h.packet 0 0)))
  where
    go : (t : Bool) → choose t (Head.as_event h ∷ errors_in l) (errors_in l) ≡ choose t (Head.as_event h ∷ []) [] ++ errors_in l
    go true = refl
    go false = refl

becoming_first : (m : DiscardMode) (h : Head.Record) (l : List Head.Record) → becoming m (h ∷ l) ≡ becoming m (h ∷ []) ++ becoming m l
becoming_first DiscardMode.DiscardReply h l = errors_first h l
becoming_first DiscardMode.DiscardReplyAndError h l = refl

becoming_none : (m : DiscardMode) → becoming m [] ≡ []
unfolding errors_in
becoming_none DiscardMode.DiscardReply = refl
becoming_none DiscardMode.DiscardReplyAndError = refl

-- a row with its first of the number, and without it
pub own_none : (n : ℕ) (a : List Head.Record) → All (Other n) a → own n a ≡ []
unfolding All own
own_none n [] p = refl
own_none n (x ∷ a) p = own_not n x a p.0 ∙ own_none n a p.1

module _ (n : ℕ) (it : Head.Record) (b : List Head.Record) (e : it.number ≡ n) where
  pub own_found : (a : List Head.Record) → All (Other n) a → own n (a ++ (it ∷ b)) ≡ it ∷ own n (a ++ b)
  unfolding All
  own_found [] p = own_is n it b e
  own_found (x ∷ a) p = own_not n x (a ++ (it ∷ b)) p.0 ∙ own_found a p.1 ∙ ap (λ (l : List Head.Record). it ∷ l) (sym (own_not n x (a ++ b) p.0))

  lower_found : (a : List Head.Record) → lower n (a ++ (it ∷ b)) ≡ lower n (a ++ b)
  unfolding lower
  lower_found [] = lower_not n it b (omega arith)
  lower_found (x ∷ a) = ap (λ (l : List Head.Record). choose (ltb x.number n) (x ∷ l) l) (lower_found a)

  higher_found : (a : List Head.Record) → higher n (a ++ (it ∷ b)) ≡ higher n (a ++ b)
  unfolding higher
  higher_found [] = higher_not n it b (omega arith)
  higher_found (x ∷ a) = ap (λ (l : List Head.Record). choose (ltb n x.number) (x ∷ l) l) (higher_found a)

-- what one step leaves
pub record One (last : ℕ) (m : DiscardMode) (l : Left) (before : List Head.Record) (it : Head.Record) (after : List Head.Record) (l' : Left) : Type 0 where
  pub sound : Store.Sound last l'.window l'.store
  pub replies : Store.replies l'.window l'.store ≡ before ++ after
  pub events : Store.events l'.window l'.store ≡ Store.events l.window l.store ++ becoming m (it ∷ [])
  pub long : length l'.store ≡ length l.store

module _ (last n : ℕ) (l : Left) (S : Store.Sound last l.window l.store) (p : Spot) (F : FirstReply n l.window l.store p) where
  gone : (m : DiscardMode) → [] ≡ becoming m (F.it ∷ []) → One last m l F.before F.it F.after (removed l.window l.store p)
  gone m e =
      let K = Held.remove_law last l.window l.store S Head.reply p F.before F.it F.after F.lies in
      record { sound = K.sound; replies = K.own; events = K.other Head.event (λ q. omega arith) ∙ sym (append-nil _) ∙ ap (λ x. Store.events l.window l.store ++ x) e; long = K.long }

  turned_one : Head.as_event F.it ∷ [] ≡ errors_in (F.it ∷ []) → One last DiscardMode.DiscardReply l F.before F.it F.after (left l.window (demoted l.window l.store p))
  turned_one e =
      let K = Held.demote_law last l.window l.store S p F.before F.it F.after F.lies in
      record { sound = K.sound; replies = K.replies; events = K.events ∙ ap (λ x. Store.events l.window l.store ++ x) e; long = K.long }

  byte : get_or l.store (p.at + header_size) 0 ≡ get_or F.it.packet 0 0
  byte = (Held.first_law last l.window l.store S Head.reply p F.before F.it F.after F.lies).1

  pub one_step : (m : DiscardMode) → One last m l F.before F.it F.after (cleared_at m l p)
  unfolding errors_in
  one_step DiscardMode.DiscardReply =
      choose_either (One last DiscardMode.DiscardReply l F.before F.it F.after) (is_error (class_of (get_or l.store (p.at + header_size) 0))) _ _
      (λ t. turned_one (sym (choose_yes _ (Head.as_event F.it ∷ []) [] (ap (λ (b : ℕ). is_error (class_of b)) (sym byte) ∙ t))))
      (λ t. gone DiscardMode.DiscardReply (sym (choose_no _ (Head.as_event F.it ∷ []) [] (ap (λ (b : ℕ). is_error (class_of b)) (sym byte) ∙ t))))
  one_step DiscardMode.DiscardReplyAndError = gone DiscardMode.DiscardReplyAndError refl

-- what is left once none of the number is held
pub record Cleared (last n : ℕ) (m : DiscardMode) (l l' : Left) : Type 0 where
  pub sound : Store.Sound last l'.window l'.store
  pub replies : Store.replies l'.window l'.store ≡ lower n (Store.replies l.window l.store) ++ higher n (Store.replies l.window l.store)
  pub events : Store.events l'.window l'.store ≡ Store.events l.window l.store ++ becoming m (own n (Store.replies l.window l.store))
  pub long : length l'.store ≡ length l.store

module _ (last n : ℕ) (m : DiscardMode) where
  none_left : (l : Left) → Store.Sound last l.window l.store → length (own n (Store.replies l.window l.store)) ≡ 0 → Cleared last n m l l
  none_left l S e =
      let R = Store.replies l.window l.store in
      let z : own n R ≡ [] = empty (own n R) e in
      record {
        sound = S;
        replies = rising_split n 0 R S.rising ∙ (λ k. lower n R ++ (z k ++ higher n R));
        events = sym (append-nil _) ∙ ap (λ x. Store.events l.window l.store ++ x) (sym (becoming_none m) ∙ ap (becoming m) (sym z));
        long = refl;
      }
    where
      empty : (a : List Head.Record) → length a ≡ 0 → a ≡ []
      empty [] h = refl
      empty (x ∷ a) h = absurd (omega arith)

  further : (j : ℕ) (l : Left) (S : Store.Sound last l.window l.store) → length (own n (Store.replies l.window l.store)) ≡ suc j
      → ((l' : Left) → Store.Sound last l'.window l'.store → length (own n (Store.replies l'.window l'.store)) ≡ j → Cleared last n m l' (cleared j m n l'))
      → (x : Option Spot) → FindsReply n l.window l.store x → Cleared last n m l (cleared j m n (cleared_from m l x))
  further j l S e IH None F = absurd (omega (arith, ap length (own_none n (Store.replies l.window l.store) F)))
  further j l S e IH (Some p) F =
      let R = Store.replies l.window l.store in
      let l' : Left = cleared_at m l p in
      let R' = Store.replies l'.window l'.store in
      let O : One last m l F.before F.it F.after l' = one_step last n l S p F m in
      let w : own n R ≡ F.it ∷ own n R' = ap (own n) F.split ∙ own_found n F.it F.after F.is F.before F.none ∙ ap (λ x. F.it ∷ own n x) (sym O.replies) in
      let lo : lower n R ≡ lower n R' = ap (lower n) F.split ∙ lower_found n F.it F.after F.is F.before ∙ ap (lower n) (sym O.replies) in
      let hi : higher n R ≡ higher n R' = ap (higher n) F.split ∙ higher_found n F.it F.after F.is F.before ∙ ap (higher n) (sym O.replies) in
      let K : Cleared last n m l' (cleared j m n l') = IH l' O.sound (omega (arith, ap length w)) in
      record {
        sound = K.sound;
        replies = K.replies ∙ (λ k. sym lo k ++ sym hi k);
        events = K.events ∙ ap (λ x. x ++ becoming m (own n R')) O.events ∙ append_assoc (Store.events l.window l.store) (becoming m (F.it ∷ [])) (becoming m (own n R'))
            ∙ ap (λ x. Store.events l.window l.store ++ x) (sym (becoming_first m F.it (own n R')) ∙ ap (becoming m) (sym w));
        long = K.long ∙ O.long;
      }

  -- As often as there is one of the number, the oldest goes: then none is left.
  pub cleared_law : (j : ℕ) (l : Left) → Store.Sound last l.window l.store → length (own n (Store.replies l.window l.store)) ≡ j → Cleared last n m l (cleared j m n l)
  unfolding cleared
  cleared_law zero l S e = none_left l S e
  cleared_law (suc j) l S e = further j l S e (λ l' S' e'. cleared_law j l' S' e') (found_reply n l.window l.store) (Held.find_reply_law n last l.window l.store S)
