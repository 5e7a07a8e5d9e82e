-- What the polls leave: as it is read, and that it is sound. Assumes nothing.
use Rattle.std.specs.Prelude.{◌≡◌, ℕ, ◌+◌, ◌-◌, ◌≤◌, length, take, drop, get_or}
use Rattle.std.proofs.Math.Path.{refl, sym}
use Rattle.std.proofs.Common.{ap, ◌∙◌, arith}
use mathlib.Core.List.{List, [], ◌∷◌, ◌++◌, map}
use Rattle.octets.specs.Put.{cut, put_empty, length_cut}
use Rattle.held.specs.Head as Head
use Rattle.held.specs.Reading as Store
use Rattle.held.specs.Rows.{fds_in_append}
use Rattle.held.specs.Moves.{Left, demoted, handed}
use Rattle.held.specs.Lies.{FirstReply, FirstEvent}
use Rattle.held.specs.Theorems as Held
use Rattle.held.specs.declared.Spot.{Spot}
use Rattle.descriptors.specs.Room as Slots
use Rattle.descriptors.specs.Theorems as Fds
use Rattle.model.specs.Client.{held_packet, set_replies, set_events}
use Rattle.model.specs.Model as Model
use Rattle.packet.specs.Packet.{class_of, is_error}
use Rattle.model.specs.Model.{find}
use Rattle.model.specs.Reading.{Rooms, rooms, slots_of, held_with, with_descriptors, event_of, reads}
use Rattle.model.specs.ReadingLaws.{with_without, events_append}
use Rattle.model.specs.Sound.{Sound, Ready, ready}
use Rattle.model.specs.declared.Connection.{Connection}
use Rattle.model.specs.Moved.{moved_state, moved_read, moved_sound}
use Rattle.polling.specs.Exact.{packet_at, event_at, reply_at, without, turned_event, handing_out, closing, error_at}
use Rattle.polling.specs.Rows.{find_at, with_split}

module _ (c : Connection) (r : Rooms) (S : Sound c r) where
  -- the part that a poll needs
  abbrev parts : Ready c r.store r.slots
  parts = ready c r S

  -- ---- the oldest event

  module _ (p : Spot) (F : FirstEvent c.window r.store p) where
    event_removed : Held.Removed c.read Head.event c.window r.store [] F.it F.after (without c r p)
    event_removed = Held.remove_law c.read c.window r.store parts.held Head.event p [] F.it F.after F.lies

    event_packet : packet_at r.store p ≡ F.it.packet
    unfolding handed
    event_packet = sym (put_empty _) ∙ Held.take_law c.read c.window r.store parts.held Head.event p [] F.it F.after F.lies [] ∙ put_empty _

    pub event_is : event_at r p ≡ event_of F.it
    event_is = λ k. held_packet (F.number k) (event_packet k) []

    pub event_left : reads (moved_state c (without c r p).window c.counts) (rooms r.requests (without c r p).store r.slots) ≡ set_events (reads c r) (map event_of F.after)
    unfolding reads
    event_left =
        moved_read c r (without c r p) (slots_of c r) _ _ _ _
        (ap (λ l. with_descriptors l (Slots.holding (slots_of c r))) (event_removed.other Head.reply (λ q. omega arith)))
        (ap (map event_of) event_removed.own) refl refl

    pub event_sound : Sound (moved_state c (without c r p).window c.counts) (rooms r.requests (without c r p).store r.slots)
    event_sound = moved_sound c r S (without c r p) (slots_of c r) event_removed.long event_removed.sound parts.slots
        (ap Store.fds_in (event_removed.other Head.reply (λ q. omega arith)) ∙ S.descriptors)

  -- ---- the oldest reply of a number

  module _ (n : ℕ) (p : Spot) (F : FirstReply n c.window r.store p) where
    abbrev it : Head.Record
    it = F.it

    abbrev others : List Head.Record
    others = F.before ++ F.after

    abbrev fds : List ℕ
    fds = Slots.holding (slots_of c r)

    -- those that stay held
    abbrev keep : List ℕ
    keep = take p.before fds ++ drop (p.before + p.fds) fds

    reply_removed : Held.Removed c.read Head.reply c.window r.store F.before it F.after (without c r p)
    reply_removed = Held.remove_law c.read c.window r.store parts.held Head.reply p F.before it F.after F.lies

    reply_demoted : Held.Demoted c.read c.window r.store F.before it F.after (demoted c.window r.store p)
    reply_demoted = Held.demote_law c.read c.window r.store parts.held p F.before it F.after F.lies

    reply_packet : packet_at r.store p ≡ it.packet
    unfolding handed
    reply_packet = sym (put_empty _) ∙ Held.take_law c.read c.window r.store parts.held Head.reply p F.before it F.after F.lies [] ∙ put_empty _

    -- all that the replies have, are counted as held
    all_fds : Store.fds_in F.before + (it.fds + Store.fds_in F.after) ≡ c.counts.held
    unfolding Store.fds_in
    all_fds = sym (fds_in_append F.before (it ∷ F.after)) ∙ sym (ap Store.fds_in F.split) ∙ S.descriptors

    in_run : p.before + p.fds ≤ c.counts.held
    in_run = omega (arith, all_fds, F.count, F.fds)

    others_fds : Store.fds_in others ≡ c.counts.held - p.fds
    others_fds = omega (arith, all_fds, F.fds, fds_in_append F.before F.after)

    -- the replies, as they are read: this one, and the others without it
    reply_is : reply_at c r p ≡ held_with it (cut (Store.fds_in F.before) it.fds fds)
    unfolding Slots.held_run
    reply_is = λ k. held_packet ((F.number ∙ sym F.is) k) (reply_packet k) (cut (F.count k) (F.fds k) fds)

    pub found_read : find n (with_descriptors (Store.replies c.window r.store) fds) ≡ Model.at (reply_at c r p) (with_descriptors others keep)
    found_read =
        let l : length fds ≡ c.counts.held = Fds.length_holding (slots_of c r) parts.slots in
        let b : Store.fds_in F.before ≤ length fds = omega (arith, all_fds) in
        ap (λ x. find n (with_descriptors x fds)) F.split
        ∙ ap (find n) (with_split F.before it F.after fds)
        ∙ find_at n F.before fds _ _ F.none F.is
        ∙ (λ k. Model.at (sym reply_is k) (sym (with_without F.before F.after fds it.fds b) k))
        ∙ (λ k. Model.at (reply_at c r p) (with_descriptors others (take (sym F.count k) fds ++ drop (sym F.count k + sym F.fds k) fds)))

    handed_lists : Slots.Lists (handing_out c r p) (Slots.closing (slots_of c r)) keep (Slots.waiting (slots_of c r))
    handed_lists = Fds.hand_out_lists (slots_of c r) parts.slots p.before p.fds in_run

    closed_lists : Slots.Lists (closing c r p) (Slots.closing (slots_of c r) ++ (reply_at c r p).descriptors) keep (Slots.waiting (slots_of c r))
    closed_lists = Fds.close_held_lists (slots_of c r) parts.slots p.before p.fds in_run

    -- what is left, as it is read
    replies_left : (l : Left) (d : Slots.Room) → Store.replies l.window l.store ≡ others → Slots.holding d ≡ keep
        → with_descriptors (Store.replies l.window l.store) (Slots.holding d) ≡ with_descriptors others keep
    replies_left l d a b = λ k. with_descriptors (a k) (b k)

    pub taken_left : reads (moved_state c (without c r p).window (handing_out c r p).counts) (rooms r.requests (without c r p).store (handing_out c r p).slots)
        ≡ set_replies (reads c r) (with_descriptors others keep)
    unfolding reads
    taken_left =
        moved_read c r (without c r p) (handing_out c r p) _ _ _ _ (replies_left (without c r p) (handing_out c r p) reply_removed.own handed_lists.holding_is)
        (ap (map event_of) (reply_removed.other Head.event (λ q. omega arith))) handed_lists.waiting_is handed_lists.closing_is

    pub closed_left : reads (moved_state c (without c r p).window (closing c r p).counts) (rooms r.requests (without c r p).store (closing c r p).slots)
        ≡ Model.close (reply_at c r p).descriptors (set_replies (reads c r) (with_descriptors others keep))
    unfolding reads
    closed_left =
        moved_read c r (without c r p) (closing c r p) _ _ _ _ (replies_left (without c r p) (closing c r p) reply_removed.own closed_lists.holding_is)
        (ap (map event_of) (reply_removed.other Head.event (λ q. omega arith))) closed_lists.waiting_is closed_lists.closing_is

    pub turned_left : reads (moved_state c c.window (closing c r p).counts) (rooms r.requests (demoted c.window r.store p) (closing c r p).slots)
        ≡ Model.close (reply_at c r p).descriptors (set_events (set_replies (reads c r) (with_descriptors others keep)) ((reads c r).events ++ (Model.as_event (reply_at c r p) ∷ [])))
    unfolding reads
    turned_left =
        moved_read c r (turned_event c r p) (closing c r p) _ _ _ _ (replies_left (turned_event c r p) (closing c r p) reply_demoted.replies closed_lists.holding_is)
        (ap (map event_of) reply_demoted.events ∙ events_append (Store.events c.window r.store) (Head.as_event it ∷ [])
        ∙ (λ k. map event_of (Store.events c.window r.store) ++ (Model.as_event (sym reply_is k) ∷ [])))
        closed_lists.waiting_is closed_lists.closing_is

    -- and it is sound
    handed_held : (handing_out c r p).counts.held ≡ c.counts.held - p.fds
    unfolding Slots.hand_out
    handed_held = refl

    closed_held : (closing c r p).counts.held ≡ c.counts.held - p.fds
    unfolding Slots.close_held
    closed_held = refl

    pub taken_sound : Sound (moved_state c (without c r p).window (handing_out c r p).counts) (rooms r.requests (without c r p).store (handing_out c r p).slots)
    taken_sound = moved_sound c r S (without c r p) (handing_out c r p) reply_removed.long reply_removed.sound (Fds.hand_out_sound (slots_of c r) parts.slots p.before p.fds in_run)
        (ap Store.fds_in reply_removed.own ∙ others_fds ∙ sym handed_held)

    pub closed_sound : Sound (moved_state c (without c r p).window (closing c r p).counts) (rooms r.requests (without c r p).store (closing c r p).slots)
    closed_sound = moved_sound c r S (without c r p) (closing c r p) reply_removed.long reply_removed.sound (Fds.close_held_sound (slots_of c r) parts.slots p.before p.fds in_run)
        (ap Store.fds_in reply_removed.own ∙ others_fds ∙ sym closed_held)

    pub turned_sound : Sound (moved_state c c.window (closing c r p).counts) (rooms r.requests (demoted c.window r.store p) (closing c r p).slots)
    turned_sound = moved_sound c r S (turned_event c r p) (closing c r p) reply_demoted.long reply_demoted.sound (Fds.close_held_sound (slots_of c r) parts.slots p.before p.fds in_run)
        (ap Store.fds_in reply_demoted.replies ∙ others_fds ∙ sym closed_held)

    -- its first byte in the store is its packet's
    pub same_error : error_at r p ≡ Model.is_error (reply_at c r p)
    same_error =
        ap (λ (b : ℕ). is_error (class_of b)) ((Held.first_law c.read c.window r.store parts.held Head.reply p F.before it F.after F.lies).1
        ∙ ap (λ (l : List ℕ). get_or l 0 0) (sym reply_packet))

    pub bytes_is : p.len ≡ length (reply_at c r p).packet
    bytes_is = F.len ∙ ap length (sym reply_packet)

    pub places_is : p.fds ≡ length (reply_at c r p).descriptors
    unfolding Slots.held_run
    places_is = sym (length_cut p.before p.fds fds (omega (arith, in_run, Fds.length_holding (slots_of c r) parts.slots)))
