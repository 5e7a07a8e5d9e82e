-- A packet that is filed: the state as it is read, and that it is sound. Assumes nothing.
use Rattle.std.specs.Prelude.{◌≡◌, true, take, drop}
use Rattle.std.proofs.Math.Path.{refl, sym, ap}
use Rattle.std.proofs.Common.{◌∙◌, arith, drop_at, take-take}
use mathlib.Core.List.{List, [], ◌∷◌, ◌++◌, map, map-append}
use Prim.Native.Nat.{ℕ, ◌+◌, ◌≤◌}
use Rattle.std.proofs.Math.ListN.{length}
use Rattle.octets.specs.Logic.{choose}
use Rattle.held.specs.Head as Head
use Rattle.held.specs.Reading as Store
use Rattle.held.specs.Moves.{appended}
use Rattle.held.specs.Rows.{fds_in_append}
use Rattle.held.specs.Theorems as Held
use Rattle.descriptors.specs.Room as Slots
use Rattle.descriptors.specs.Theorems as Fds
use Rattle.model.specs.Client.{held_packet, arriving, set_waiting}
use Rattle.model.specs.Model.{is_held, filed}
use Rattle.model.specs.Reading.{Rooms, with_descriptors, event_of, slots_of, reads}
use Rattle.model.specs.ReadingLaws.{with_append, with_more}
use Rattle.model.specs.Sound.{Sound, slots_there}
use Rattle.model.specs.declared.Connection.{Connection}
use Rattle.model.specs.declared.Place.{Place}
use Rattle.model.specs.Moved.{moved_read, moved_sound}
use Rattle.packet.specs.Packet.{least_packet, most_packet}
use Rattle.intake.specs.Exact.{filed_as}

-- what is known of a packet that is filed with k descriptors: its length is allowed, they wait, their count is a byte, and it has room where it is held
pub record Fine (c : Connection) (place : Place) (k n : ℕ) : Type 0 where
  pub least : least_packet ≤ n
  pub most : n ≤ most_packet
  pub some : k ≤ c.counts.waiting
  pub byte : k ≤ 255
  pub room : is_held place ≡ true → Store.used c.window + (Head.header_size + n) ≤ c.room

-- one record more, with the descriptors that stand behind all others
with_one : (a : List Head.Record) (h : Head.Record) (fds more : List ℕ) → Store.fds_in a ≡ length fds
    → with_descriptors (a ++ (h ∷ [])) (fds ++ more) ≡ with_descriptors a fds ++ (held_packet h.number h.packet (take h.fds more) ∷ [])
unfolding with_descriptors
with_one a h fds more e =
    with_append a (h ∷ []) (fds ++ more)
    ∙ (λ i. with_more a fds more (omega arith) i ++ with_descriptors (h ∷ []) (drop_at fds more (Store.fds_in a) (sym e) i))

fds_one : (a : List Head.Record) (h : Head.Record) → Store.fds_in (a ++ (h ∷ [])) ≡ Store.fds_in a + h.fds
unfolding Store.fds_in
fds_one a h = fds_in_append a (h ∷ []) ∙ omega arith

module _ (c : Connection) (r : Rooms) (S : Sound c r) where
  store_sound : Store.Sound c.read c.window r.store
  store_sound = (Held.sound_exactly c.read c.window r.store).0 S.held

  -- ---- held

  module _ (p : List ℕ) (least : least_packet ≤ length p) (most : length p ≤ most_packet) (room : Store.used c.window + (Head.header_size + length p) ≤ c.room) where
    append_done : (h : Head.Record) → h.number ≡ c.read → h.packet ≡ p → h.kind ≤ Head.event → h.fds ≤ Head.most_fds h.kind
        → Held.Appended c.window r.store h (appended c.window r.store h)
    append_done h n e kind count =
        let l : length h.packet ≡ length p = ap length e in
        Held.append_law c.read c.window r.store store_sound h
        (record { number = omega (arith, S.numbers.read_most); least = omega arith; most = omega arith; kind = kind; count = count })
        (omega (arith, S.store)) (omega arith)

    module _ (k : ℕ) (some : k ≤ c.counts.waiting) (byte : k ≤ 255) where
      abbrev rec : Head.Record
      rec = Head.held c.read k Head.reply p

      reply_done : Held.Appended c.window r.store rec (appended c.window r.store rec)
      unfolding Head.most_fds choose
      reply_done = append_done rec refl refl (omega arith) byte

      reply_sound : Sound (filed_as Place.Replies c r k p).state (filed_as Place.Replies c r k p).left
      unfolding Slots.hold
      reply_sound =
          moved_sound c r S (appended c.window r.store rec) (Slots.hold k (slots_of c r)) reply_done.long reply_done.sound (Fds.hold_sound (slots_of c r) (slots_there c r S) k some)
          (ap Store.fds_in reply_done.own ∙ fds_one (Store.replies c.window r.store) rec ∙ ap (λ (x : ℕ). x + k) S.descriptors)

      reply_read : reads (filed_as Place.Replies c r k p).state (filed_as Place.Replies c r k p).left
          ≡ filed Place.Replies (arriving (reads c r) p c.read k) (set_waiting (reads c r) (drop k (reads c r).waiting))
      unfolding reads
      reply_read =
          let L = Fds.hold_lists (slots_of c r) (slots_there c r S) k some in
          let fds : List ℕ = Slots.holding (slots_of c r) in
          let wait : List ℕ = Slots.waiting (slots_of c r) in
          let old : List Head.Record = Store.replies c.window r.store in
          let f : Store.fds_in old ≡ length fds = S.descriptors ∙ sym (Fds.length_holding (slots_of c r) (slots_there c r S)) in
          moved_read c r (appended c.window r.store rec) (Slots.hold k (slots_of c r)) _ _ _ _
          ((λ i. with_descriptors (reply_done.own i) (L.holding_is i))
          ∙ with_one old rec fds (take k wait) f
          ∙ ap (λ (x : List ℕ). with_descriptors old fds ++ (held_packet c.read p x ∷ [])) (take-take k k wait (omega arith)))
          (ap (map event_of) (reply_done.other Head.event (λ q. omega arith)))
          L.waiting_is L.closing_is

    abbrev ev : Head.Record
    ev = Head.held c.read 0 Head.event p

    event_done : Held.Appended c.window r.store ev (appended c.window r.store ev)
    event_done = append_done ev refl refl (omega arith) (omega arith)

    event_sound : (k : ℕ) → Sound (filed_as Place.Events c r k p).state (filed_as Place.Events c r k p).left
    event_sound k =
        moved_sound c r S (appended c.window r.store ev) (slots_of c r) event_done.long event_done.sound (slots_there c r S)
        (ap Store.fds_in (event_done.other Head.reply (λ q. omega arith)) ∙ S.descriptors)

    event_read : (k : ℕ) → reads (filed_as Place.Events c r k p).state (filed_as Place.Events c r k p).left
        ≡ filed Place.Events (arriving (reads c r) p c.read 0) (set_waiting (reads c r) (drop 0 (reads c r).waiting))
    unfolding reads
    event_read k =
        moved_read c r (appended c.window r.store ev) (slots_of c r) _ _ _ _
        (ap (λ (l : List Head.Record). with_descriptors l (Slots.holding (slots_of c r))) (event_done.other Head.reply (λ q. omega arith)))
        (ap (map event_of) event_done.own ∙ map-append event_of (Store.events c.window r.store) (ev ∷ []))
        refl refl

  -- ---- dropped

  module _ (p : List ℕ) (k : ℕ) (some : k ≤ c.counts.waiting) where
    dropped_sound : Sound (filed_as Place.Dropped c r k p).state (filed_as Place.Dropped c r k p).left
    unfolding Slots.close_waiting
    dropped_sound =
        moved_sound c r S (record { window = c.window; store = r.store }) (Slots.close_waiting k (slots_of c r)) refl store_sound (Fds.close_waiting_sound (slots_of c r) (slots_there c r S) k some) S.descriptors

    dropped_read : reads (filed_as Place.Dropped c r k p).state (filed_as Place.Dropped c r k p).left
        ≡ filed Place.Dropped (arriving (reads c r) p c.read k) (set_waiting (reads c r) (drop k (reads c r).waiting))
    unfolding reads
    dropped_read =
        let L = Fds.close_waiting_lists (slots_of c r) (slots_there c r S) k some in
        moved_read c r (record { window = c.window; store = r.store }) (Slots.close_waiting k (slots_of c r)) _ _ _ _
        (ap (with_descriptors (Store.replies c.window r.store)) L.holding_is) refl L.waiting_is L.closing_is

  -- ---- any place

  module _ (p : List ℕ) (k : ℕ) where
    -- Filing leaves a sound state,
    pub filed_sound : (place : Place) → Fine c place k (length p) → Sound (filed_as place c r k p).state (filed_as place c r k p).left
    filed_sound Place.Replies F = reply_sound p F.least F.most (F.room refl) k F.some F.byte
    filed_sound Place.Events F = event_sound p F.least F.most (F.room refl) k
    filed_sound Place.Dropped F = dropped_sound p k F.some

    -- and does as the model; an event claims nothing.
    pub filed_read : (place : Place) → (place ≡ Place.Events → k ≡ 0) → Fine c place k (length p) → reads (filed_as place c r k p).state (filed_as place c r k p).left
        ≡ filed place (arriving (reads c r) p c.read k) (set_waiting (reads c r) (drop k (reads c r).waiting))
    filed_read Place.Replies z F = reply_read p F.least F.most (F.room refl) k F.some F.byte
    filed_read Place.Events z F =
        event_read p F.least F.most (F.room refl) k
        ∙ ap (λ (m : ℕ). filed Place.Events (arriving (reads c r) p c.read m) (set_waiting (reads c r) (drop m (reads c r).waiting))) (sym (z refl))
    filed_read Place.Dropped z F = dropped_read p k F.some
