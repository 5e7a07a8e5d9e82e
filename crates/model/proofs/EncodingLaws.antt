-- A state is sound exactly where it encodes one whose parts are in range, and it is read as that one. Assumes nothing.
use Rattle.std.specs.Prelude.{true, ◌↔◌, ◌≡◌, ℕ, ◌+◌, ◌≤◌, take, drop}
use mathlib.Core.List.{List, [], ◌∷◌, ◌++◌, map}
use Rattle.std.proofs.Math.Path.{refl, sym, ap, subst}
use Rattle.std.proofs.Common.{◌∙◌, length-drop, length-append, length-take-le}
use Rattle.std.proofs.Math.Decide.{ℕ_discrete}
use native.Mathlib.Omega.{arith}
use Rattle.std.proofs.Math.ListN.{length, length-take}
use Rattle.std.proofs.lemmas.List.{take-append-le, drop-append-le}
use Rattle.std.proofs.Math.Seq.{take-length, drop-length}
use Rattle.octets.specs.Logic.{choose}
use Rattle.sequence.specs.Numbering.{last_number}
use Rattle.requests.specs.Room as Requests
use Rattle.requests.specs.Room.{outstanding, legals}
use Rattle.requests.specs.Theorems.{sized_is, legals_exactly, encoded_read as requests-read}
use Rattle.held.specs.Head as Head
use Rattle.held.specs.Head.{Fits, most_fds, most_fds_byte, fits_reply, fits_event}
use Rattle.held.specs.Reading as Store
use Rattle.held.specs.Rows.{only_is, only_other, all_only}
use Rattle.held.specs.Soundness.{Fine, Holds, holds}
use Rattle.held.specs.Theorems as Stores
use Rattle.descriptors.specs.Room as Slots
use Rattle.descriptors.specs.Parts as Parts
use Rattle.descriptors.specs.Theorems as Fds
use Rattle.model.specs.Client.{Held, Client, first, descriptors_of, set_descriptors}
use Rattle.model.specs.Reading.{Rooms, count, with_descriptors, event_of, slots_of, reads, held_with}
use Rattle.model.specs.ReadingLaws.{length_out, first_read, used_read, descriptors_read, length_wait, length_close, inside_read}
use Rattle.model.specs.Sound.{Sound, soundb, sound_is, is_sound, slots_there}
use Rattle.model.specs.declared.Connection.{Connection}
use Rattle.model.specs.Batch.{Each}
use Rattle.model.specs.Encoding.{ReplyFits, EventFits, NeverFall, InRange, reply_row, event_row, Mixed, none, a_reply_lem, an_event_lem, Encodes}

-- ---- records of two lists

-- those of each kind are the lists'
mixed_replies : {rows : List Head.Record} {rs es : List Held} → Mixed rows rs es → Store.only Head.reply rows ≡ map reply_row rs
unfolding Store.only choose
mixed_replies none = refl
mixed_replies (a_reply_lem h k) = ap (λ (l : List Head.Record). reply_row h ∷ l) (mixed_replies k)
mixed_replies (an_event_lem h k) = mixed_replies k

mixed_events : {rows : List Head.Record} {rs es : List Held} → Mixed rows rs es → Store.only Head.event rows ≡ map event_row es
unfolding Store.only choose
mixed_events none = refl
mixed_events (a_reply_lem h k) = mixed_events k
mixed_events (an_event_lem h k) = ap (λ (l : List Head.Record). event_row h ∷ l) (mixed_events k)

-- what each of either list has, each record has
module _ (P : Held → Type 0) (Q : Held → Type 0) (R : Head.Record → Type 0) (of-reply : (h : Held) → P h → R (reply_row h)) (of_event : (h : Held) → Q h → R (event_row h)) where
  mixed_all : {rows : List Head.Record} {rs es : List Held} → Mixed rows rs es → Each P rs → Each Q es → Store.All R rows
  unfolding Store.All
  mixed_all none p q = tt
  mixed_all (a_reply_lem h k) p q = (of-reply h p.0, mixed_all k p.1 q)
  mixed_all (an_event_lem h k) p q = (of_event h q.0, mixed_all k p q.1)

rising_rows : (from : ℕ) (rs : List Held) → NeverFall from rs → Store.Rising from (map reply_row rs)
unfolding Store.Rising
rising_rows from [] n = tt
rising_rows from (h ∷ rs) n = (n.0, rising_rows h.number rs n.1)

fds_rows : (rs : List Held) → Store.fds_in (map reply_row rs) ≡ length (descriptors_of rs)
unfolding Store.fds_in descriptors_of
fds_rows [] = refl
fds_rows (h ∷ rs) = omega (arith, fds_rows rs, length-append h.descriptors (descriptors_of rs))

-- the rows are read as they were
take_front : (a b : List ℕ) → take (length a) (a ++ b) ≡ a
take_front a b = take-append-le (length a) a b (omega arith) ∙ take-length a

drop_front : (a b : List ℕ) → drop (length a) (a ++ b) ≡ b
drop_front a b = drop-append-le (length a) a b (omega arith) ∙ ap (λ (l : List ℕ). l ++ b) (drop-length a)

read_replies : (rs : List Held) → with_descriptors (map reply_row rs) (descriptors_of rs) ≡ rs
unfolding with_descriptors descriptors_of
read_replies [] = refl
read_replies (h ∷ rs) =
    (λ k. set_descriptors h (take_front h.descriptors (descriptors_of rs) k) ∷ with_descriptors (map reply_row rs) (drop_front h.descriptors (descriptors_of rs) k))
    ∙ ap (λ (l : List Held). h ∷ l) (read_replies rs)

read_events : (last : ℕ) (es : List Held) → Each (EventFits last) es → map event_of (map event_row es) ≡ es
read_events last [] q = refl
read_events last (h ∷ es) q =
    (λ k. set_descriptors h (sym q.0.descriptors k) ∷ map event_of (map event_row es))
    ∙ ap (λ (l : List Held). h ∷ l) (read_events last es q.1)

-- ---- an encoding of what is in range is sound

reply_row_fits : (last : ℕ) → last ≤ last_number → (h : Held) → ReplyFits last h → Fits (reply_row h)
reply_row_fits last l h f = fits_reply h.number (length h.descriptors) h.packet (omega (arith, f.known)) (omega (arith, f.descriptors)) f.least f.most

event_row_fits : (last : ℕ) → last ≤ last_number → (h : Held) → EventFits last h → Fits (event_row h)
event_row_fits last l h f = fits_event h.number h.packet (omega (arith, f.known)) f.least f.most

module _ (m : Client) (c : Connection) (r : Rooms) (E : Encodes m c r) (I : InRange m) where
  counted : count c ≡ length m.outstanding
  counted = omega (arith, E.first_is, E.written, I.run_from_one)

  fine : Fine c.read E.rows
  fine =
      let last : ℕ = m.numbers.read in
      subst (λ (n : ℕ). Fine n E.rows) (sym E.read)
      (record {
        fit = mixed_all (ReplyFits last) (EventFits last) Fits (reply_row_fits last I.read_most) (event_row_fits last I.read_most) E.mixed I.replies I.events;
        rising = subst (Store.Rising 0) (sym (mixed_replies E.mixed)) (rising_rows 0 m.replies I.replies_never_fall);
        known = mixed_all (ReplyFits last) (EventFits last) (Store.Known last) (λ h f. f.known) (λ h f. f.known) E.mixed I.replies I.events;
      })

  stored : Holds c.read c.window r.store E.rows
  stored = holds c.read c.window r.store E.rows (omega (arith, E.store_long, I.store_most)) E.window_order E.window_within E.store fine

  listed : Slots.Lists (slots_of c r) m.closing (descriptors_of m.replies) m.waiting
  listed =
      Parts.read r.slots m.closing (descriptors_of m.replies) m.waiting E.rest c.counts E.slots
      (ap (λ k. k.closed) (sym E.counts)) (ap (λ k. k.held) (sym E.counts)) (ap (λ k. k.waiting) (sym E.counts))

  -- the outstanding requests are the state's
  read_again : outstanding r.requests (first m) (length m.outstanding) ≡ m.outstanding
  read_again = requests-read r.requests (first m) m.outstanding E.requests

  pub encoded_sound : Sound c r
  encoded_sound =
      record {
        order = rw E.order I.order;
        requests = (sized_is c.capacity r.requests).1 (record { least = omega (arith, E.capacity, I.requests_least); most = omega (arith, E.capacity, I.requests_most_lem); holds = E.requests_long ∙ sym E.capacity });
        store = E.store_long ∙ sym E.room;
        numbers = record {
          store_least = omega (arith, E.room, I.store_least);
          store_most = omega (arith, E.room, I.store_most);
          written_most = omega (arith, E.written, I.written_most);
          expected_most = omega (arith, E.expected, I.expected_most);
          read_most = omega (arith, E.read, I.read_most);
          first_least = omega (arith, E.first_is, I.run_from_one);
          first_most = omega (arith, E.first_is, E.written);
          count_most = omega (arith, counted, E.capacity, I.run_most);
        };
        legal_bytes = (λ i. legals r.requests (E.first_is i) (counted i)) ∙ (legals_exactly r.requests (first m) (length m.outstanding)).1 (subst (Requests.Encodes r.requests (first m)) (sym read_again) E.requests);
        slots = (Fds.sound_is (slots_of c r)).1 (record { long = E.slots_long; most = rw E.counts (omega (arith, I.descriptors_most)) });
        held = (Stores.sound_exactly c.read c.window r.store).1 stored.sound;
        descriptors = ap (λ (l : List Head.Record). Store.fds_in (Store.only Head.reply l)) stored.reads ∙ ap Store.fds_in (mixed_replies E.mixed) ∙ fds_rows m.replies ∙ ap (λ k. k.held) (sym E.counts);
      }

  outstanding_read : outstanding r.requests c.first (count c) ≡ m.outstanding
  outstanding_read = (λ i. outstanding r.requests (E.first_is i) (counted i)) ∙ read_again

  replies_read : with_descriptors (Store.replies c.window r.store) (Slots.holding (slots_of c r)) ≡ m.replies
  replies_read =
      ap (λ (l : List Head.Record). with_descriptors (Store.only Head.reply l) (Slots.holding (slots_of c r))) stored.reads
      ∙ (λ i. with_descriptors (mixed_replies E.mixed i) (listed.holding_is i)) ∙ read_replies m.replies

  events_read : map event_of (Store.events c.window r.store) ≡ m.events
  events_read =
      ap (λ (l : List Head.Record). map event_of (Store.only Head.event l)) stored.reads ∙ ap (map event_of) (mixed_events E.mixed) ∙ read_events m.numbers.read m.events I.events

  -- and is read as it
  pub encoded_read : reads c r ≡ m
  unfolding reads
  encoded_read = λ k. record {
    order = E.order k;
    most_requests = E.capacity k;
    most_bytes = E.room k;
    numbers = record { written = E.written k; expected = E.expected k; read = E.read k };
    outstanding = outstanding_read k;
    replies = replies_read k;
    events = events_read k;
    waiting = listed.waiting_is k;
    closing = listed.closing_is k;
  }

-- ---- a sound state is an encoding of what it is read as

module _ (h : Head.Record) (rows : List Head.Record) (fds : List ℕ) where
  row_is : h.kind ≡ Head.reply → h.fds ≤ length fds → reply_row (held_with h (take h.fds fds)) ≡ h
  row_is e l =
      let n : length (take h.fds fds) ≡ h.fds = length-take-le h.fds fds l in
      λ k. record { number = h.number; fds = n k; kind = sym e k; packet = h.packet }

  mix_reply : h.kind ≡ Head.reply → h.fds ≤ length fds → Mixed rows (with_descriptors (Store.only Head.reply rows) (drop h.fds fds)) (map event_of (Store.only Head.event rows))
      → Mixed (h ∷ rows) (with_descriptors (Store.only Head.reply (h ∷ rows)) fds) (map event_of (Store.only Head.event (h ∷ rows)))
  unfolding with_descriptors
  mix_reply e l k =
      rw (only_is Head.reply h rows e, only_other Head.event h rows (λ q. omega arith))
      (subst (λ (x : Head.Record). Mixed (x ∷ rows) (with_descriptors (h ∷ Store.only Head.reply rows) fds) (map event_of (Store.only Head.event rows))) (row_is e l) (a_reply_lem _ k))

  event_row_is : h.kind ≡ Head.event → h.fds ≤ most_fds h.kind → event_row (event_of h) ≡ h
  unfolding most_fds choose
  event_row_is e l =
      let n : h.fds ≤ 0 = subst (λ (x : ℕ). h.fds ≤ most_fds x) e l in
      let z : 0 ≡ h.fds = omega arith in
      λ k. record { number = h.number; fds = z k; kind = sym e k; packet = h.packet }

  mix_event : h.kind ≡ Head.event → h.fds ≤ most_fds h.kind → Mixed rows (with_descriptors (Store.only Head.reply rows) fds) (map event_of (Store.only Head.event rows))
      → Mixed (h ∷ rows) (with_descriptors (Store.only Head.reply (h ∷ rows)) fds) (map event_of (Store.only Head.event (h ∷ rows)))
  mix_event e l k =
      rw (only_other Head.reply h rows (λ q. omega arith), only_is Head.event h rows e)
      (subst (λ (x : Head.Record). Mixed (x ∷ rows) (with_descriptors (Store.only Head.reply rows) fds) (map event_of (h ∷ Store.only Head.event rows))) (event_row_is e l) (an_event_lem (event_of h) k))

mixing : (rows : List Head.Record) (fds : List ℕ) → Store.All Fits rows → Store.fds_in (Store.only Head.reply rows) ≤ length fds → Mixed rows (with_descriptors (Store.only Head.reply rows) fds) (map event_of (Store.only Head.event rows))
unfolding Store.only Store.All Store.fds_in with_descriptors
mixing [] fds f l = none
mixing (h ∷ rows) fds f l = elim (ℕ_discrete h.kind Head.reply) [ yes e ↦ a e (λ n. mixing rows (drop h.fds fds) f.1 n) | no n ↦ b n (λ n. mixing rows fds f.1 n) ]
  where
    a : h.kind ≡ Head.reply → (Store.fds_in (Store.only Head.reply rows) ≤ length (drop h.fds fds) → Mixed rows (with_descriptors (Store.only Head.reply rows) (drop h.fds fds)) (map event_of (Store.only Head.event rows)))
        → Mixed (h ∷ rows) (with_descriptors (Store.only Head.reply (h ∷ rows)) fds) (map event_of (Store.only Head.event (h ∷ rows)))
    a e k =
        let n : Store.fds_in (Store.only Head.reply (h ∷ rows)) ≡ h.fds + Store.fds_in (Store.only Head.reply rows) = ap Store.fds_in (only_is Head.reply h rows e) in
        mix_reply h rows fds e (omega arith) (k (omega (arith, length-drop h.fds fds)))

    b : (h.kind ≡ Head.reply → ⊥) → (Store.fds_in (Store.only Head.reply rows) ≤ length fds → Mixed rows (with_descriptors (Store.only Head.reply rows) fds) (map event_of (Store.only Head.event rows)))
        → Mixed (h ∷ rows) (with_descriptors (Store.only Head.reply (h ∷ rows)) fds) (map event_of (Store.only Head.event (h ∷ rows)))
    b d k =
        let n : Store.fds_in (Store.only Head.reply (h ∷ rows)) ≡ Store.fds_in (Store.only Head.reply rows) = ap Store.fds_in (only_other Head.reply h rows d) in
        mix_event h rows fds (omega (arith, f.0.kind)) f.0.count (k (omega arith))

-- each list is in range
module _ (last : ℕ) where
  replies_fit : (l : List Head.Record) (fds : List ℕ) → Store.All Fits l → Store.All (Store.Known last) l → Each (ReplyFits last) (with_descriptors l fds)
  unfolding Store.All with_descriptors
  replies_fit [] fds f k = tt
  replies_fit (h ∷ l) fds f k = (
    record { least = f.0.least; most = f.0.most; known = k.0; descriptors = omega (arith, f.0.count, most_fds_byte h.kind, length-take h.fds fds) },
    replies_fit l (drop h.fds fds) f.1 k.1,
  )

  events_fit : (l : List Head.Record) → Store.All Fits l → Store.All (Store.Known last) l → Each (EventFits last) (map event_of l)
  unfolding Store.All
  events_fit [] f k = tt
  events_fit (h ∷ l) f k = (record { least = f.0.least; most = f.0.most; known = k.0; descriptors = refl }, events_fit l f.1 k.1)

never_falls : (from : ℕ) (l : List Head.Record) (fds : List ℕ) → Store.Rising from l → NeverFall from (with_descriptors l fds)
unfolding Store.Rising with_descriptors
never_falls from [] fds n = tt
never_falls from (h ∷ l) fds n = (n.0, never_falls h.number l (drop h.fds fds) n.1)

module _ (c : Connection) (r : Rooms) (S : Sound c r) where
  abbrev kept : List Head.Record
  kept = Store.records c.window r.store

  stands : Store.Sound c.read c.window r.store
  stands = (Stores.sound_exactly c.read c.window r.store).0 S.held

  pub sound_range : InRange (reads c r)
  unfolding reads
  sound_range =
      let z = (sized_is c.capacity r.requests).0 S.requests in
      let N = S.numbers in
      record {
        order = S.order;
        requests_least = z.least;
        requests_most_lem = z.most;
        store_least = N.store_least;
        store_most = N.store_most;
        written_most = N.written_most;
        expected_most = N.expected_most;
        read_most = N.read_most;
        run_from_one = omega (arith, length_out c r S, N.first_least);
        run_most = omega (arith, length_out c r S, N.count_most);
        replies = replies_fit c.read (Store.only Head.reply kept) (Slots.holding (slots_of c r)) (all_only Fits Head.reply kept stands.readable.fit) (all_only (Store.Known c.read) Head.reply kept stands.known);
        events = events_fit c.read (Store.only Head.event kept) (all_only Fits Head.event kept stands.readable.fit) (all_only (Store.Known c.read) Head.event kept stands.known);
        replies_never_fall = never_falls 0 (Store.only Head.reply kept) (Slots.holding (slots_of c r)) stands.rising;
        used_most = omega (arith, used_read c r S, stands.readable.within, S.store);
        descriptors_most = omega (arith, inside_read c r S, (slots_there c r S).most);
      }

  pub sound_encodes : Encodes (reads c r) c r
  unfolding reads
  sound_encodes =
      let z = (sized_is c.capacity r.requests).0 S.requests in
      let fit : Slots.total c.counts ≤ length r.slots = omega (arith, (slots_there c r S).long, (slots_there c r S).most) in
      let d = descriptors_read c r S in
      record {
        order = refl;
        capacity = refl;
        room = refl;
        written = refl;
        expected = refl;
        read = refl;
        first_is = sym (first_read c r S);
        requests_long = z.holds;
        store_long = S.store;
        slots_long = (slots_there c r S).long;
        requests = subst (λ (n : ℕ). Requests.Encodes r.requests n (outstanding r.requests c.first (count c))) (sym (first_read c r S)) ((legals_exactly r.requests c.first (count c)).0 S.legal_bytes);
        rows = kept;
        mixed = mixing kept (Slots.holding (slots_of c r)) stands.readable.fit (omega (arith, S.descriptors, Fds.length_holding (slots_of c r) (slots_there c r S)));
        window_order = stands.readable.order;
        window_within = stands.readable.within;
        store = stands.readable.bytes;
        counts = sym (λ i. Slots.counted (length_close c r S i) ((ap length d ∙ Fds.length_holding (slots_of c r) (slots_there c r S)) i) (length_wait c r S i));
        rest = Parts.rest (slots_of c r);
        slots = Parts.parts (slots_of c r) fit ∙ ap (λ (l : List ℕ). Slots.closing (slots_of c r) ++ (l ++ (Slots.waiting (slots_of c r) ++ Parts.rest (slots_of c r)))) (sym d);
      }

-- THE SENTENCE, from the model's side
pub encoded_exactly : (c : Connection) (r : Rooms) → (soundb c r ≡ true) ↔ ((m : Client) × Encodes m c r × InRange m)
encoded_exactly c r = (λ h. (let S = sound_is c r h in (reads c r, sound_encodes c r S, sound_range c r S)), λ e. is_sound c r (encoded_sound e.0 c r e.1 e.2))
