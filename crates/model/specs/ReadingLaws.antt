-- Laws of the reading: what the model's lists, counts and costs are in terms of the rooms. Assumes nothing.
use Rattle.std.specs.Prelude.{◌≡◌, refl, List, [], ◌∷◌, ◌++◌, map, ℕ, ◌+◌, ◌≤◌, take, drop}
use Rattle.std.proofs.Math.Path.{sym}
use Rattle.std.proofs.Common.{ap, ◌∙◌, arith, length-drop, take-append-drop}
use Rattle.std.proofs.Math.ListN.{length}
use lib.Seq.{take-append-le, drop-append-le, drop-drop, drop_at, length-take-le}
use Rattle.requests.specs.Theorems.{length_outstanding}
use Rattle.held.specs.Head as Head
use Rattle.held.specs.Reading as Store
use Rattle.held.specs.Theorems as Held
use Rattle.descriptors.specs.Room as Slots
use Rattle.descriptors.specs.Theorems as Fds
use Rattle.model.specs.Client.{Held, first, costs, used, descriptors_of, inside}
use Rattle.model.specs.Reading.{Rooms, count, held_with, with_descriptors, event_of, slots_of, reads}
use Rattle.model.specs.Sound.{Sound, slots_there}
use Rattle.model.specs.declared.Connection.{Connection}

-- ---- records with their descriptors

-- those of a row are the row's, then those of what follows
pub with_append : (a b : List Head.Record) (fds : List ℕ) → with_descriptors (a ++ b) fds ≡ with_descriptors a fds ++ with_descriptors b (drop (Store.fds_in a) fds)
unfolding with_descriptors Store.fds_in
with_append [] b fds = refl
with_append (h ∷ a) b fds =
    let e : drop (Store.fds_in a) (drop h.fds fds) ≡ drop (h.fds + Store.fds_in a) fds = drop-drop (Store.fds_in a) h.fds fds in
    ap (λ (l : List Held). held_with h (take h.fds fds) ∷ l)
    (with_append a b (drop h.fds fds) ∙ ap (λ (x : List ℕ). with_descriptors a (drop h.fds fds) ++ with_descriptors b x) e)

-- descriptors behind theirs do not matter
pub with_more : (a : List Head.Record) (fds more : List ℕ) → Store.fds_in a ≤ length fds → with_descriptors a (fds ++ more) ≡ with_descriptors a fds
unfolding with_descriptors Store.fds_in
with_more [] fds more h = refl
with_more (x ∷ a) fds more h =
    let t : take x.fds (fds ++ more) ≡ take x.fds fds = take-append-le x.fds fds more (omega arith) in
    let d : drop x.fds (fds ++ more) ≡ drop x.fds fds ++ more = drop-append-le x.fds fds more (omega arith) in
    let l : Store.fds_in a ≤ length (drop x.fds fds) = omega (arith, length-drop x.fds fds) in
    (λ k. held_with x (t k) ∷ with_descriptors a (d k))
    ∙ ap (λ (l : List Held). held_with x (take x.fds fds) ∷ l) (with_more a (drop x.fds fds) more l)

-- a row without records that stood in its midst, and without their k descriptors
pub with_without : (before after : List Head.Record) (fds : List ℕ) (k : ℕ) → Store.fds_in before ≤ length fds
    → with_descriptors (before ++ after) (take (Store.fds_in before) fds ++ drop (Store.fds_in before + k) fds)
    ≡ with_descriptors before fds ++ with_descriptors after (drop (Store.fds_in before + k) fds)
with_without before after fds k h =
    let b : ℕ = Store.fds_in before in
    let x : List ℕ = take b fds in
    let y : List ℕ = drop (b + k) fds in
    let l : length x ≡ b = length-take-le b fds h in
    let u : with_descriptors before (x ++ y) ≡ with_descriptors before x = with_more before x y (omega arith) in
    let v : with_descriptors before fds ≡ with_descriptors before x = ap (with_descriptors before) (sym (take-append-drop b fds)) ∙ with_more before x (drop b fds) (omega arith) in
    with_append before after (x ++ y) ∙ (λ j. (u ∙ sym v) j ++ with_descriptors after (drop_at x y b l j))

-- events, one row behind another
pub events_append : (a b : List Head.Record) → map event_of (a ++ b) ≡ map event_of a ++ map event_of b
events_append [] b = refl
events_append (h ∷ a) b = ap (λ (l : List Held). event_of h ∷ l) (events_append a b)

-- all descriptors of the records are the row itself, as far as they have any
pub descriptors_with : (a : List Head.Record) (fds : List ℕ) → descriptors_of (with_descriptors a fds) ≡ take (Store.fds_in a) fds
unfolding with_descriptors Store.fds_in descriptors_of
descriptors_with [] fds = refl
descriptors_with (h ∷ a) fds =
    ap (λ (l : List ℕ). take h.fds fds ++ l) (descriptors_with a (drop h.fds fds)) ∙ sym (lib.Seq.take-add h.fds (Store.fds_in a) fds)

-- ---- costs

pub costs_with : (a : List Head.Record) (fds : List ℕ) → costs (with_descriptors a fds) ≡ Store.costs a
unfolding with_descriptors costs Store.costs
costs_with [] fds = refl
costs_with (h ∷ a) fds = ap (λ (n : ℕ). Head.header_size + length h.packet + n) (costs_with a (drop h.fds fds))

pub costs_events : (a : List Head.Record) → costs (map event_of a) ≡ Store.costs a
unfolding costs Store.costs
costs_events [] = refl
costs_events (h ∷ a) = ap (λ (n : ℕ). Head.header_size + length h.packet + n) (costs_events a)

-- ---- of a sound state

module _ (c : Connection) (r : Rooms) (S : Sound c r) where
  -- as many requests are outstanding as are counted, and the first has the number that is kept
  pub length_out : length (reads c r).outstanding ≡ count c
  unfolding reads
  length_out = length_outstanding r.requests c.first (count c)

  pub first_read : first (reads c r) ≡ c.first
  unfolding reads
  first_read =
      let n = S.numbers in
      omega (arith, length_outstanding r.requests c.first (count c), n.first_most, n.first_least)

  -- what is used of the store is the sum over both lists
  pub used_read : used (reads c r) ≡ Store.used c.window
  unfolding reads
  used_read =
      (λ k. costs_with (Store.replies c.window r.store) (Slots.holding (slots_of c r)) k + costs_events (Store.events c.window r.store) k)
      ∙ sym (Held.sound_used c.read c.window r.store ((Held.sound_exactly c.read c.window r.store).0 S.held))

  -- the descriptors of the replies are those that are held
  pub descriptors_read : descriptors_of (reads c r).replies ≡ Slots.holding (slots_of c r)
  unfolding reads
  descriptors_read =
      let l : length (Slots.holding (slots_of c r)) ≡ c.counts.held = Fds.length_holding (slots_of c r) (slots_there c r S) in
      descriptors_with (Store.replies c.window r.store) (Slots.holding (slots_of c r))
      ∙ lib.Seq.take_all (Store.fds_in (Store.replies c.window r.store)) (Slots.holding (slots_of c r)) (omega (arith, S.descriptors))

  -- as many wait, and are to be closed, as are counted
  pub length_wait : length (reads c r).waiting ≡ c.counts.waiting
  unfolding reads
  length_wait = Fds.length_waiting (slots_of c r) (slots_there c r S)

  pub length_close : length (reads c r).closing ≡ c.counts.closed
  unfolding reads
  length_close = Fds.length_closing (slots_of c r) (slots_there c r S)

  -- and as many are inside
  pub inside_read : inside (reads c r) ≡ Slots.total c.counts
  inside_read =
      let b : length (descriptors_of (reads c r).replies) ≡ c.counts.held = ap length descriptors_read ∙ Fds.length_holding (slots_of c r) (slots_there c r S) in
      omega (arith, length_wait, length_close)
