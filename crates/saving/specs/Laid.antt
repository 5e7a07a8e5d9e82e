-- Sections that stand in the bytes, laid into rooms, are the state that the bytes are read as. Assumes nothing.
use Rattle.std.specs.Prelude.{◌≡◌, Bool, true, false, List, [], ◌∷◌, ◌++◌, map, ℕ, zero, suc, ◌+◌, ◌-◌, ◌*◌, ◌≤◌, ◌<◌, eqb, length, get_or}
use Rattle.std.proofs.Math.Path.{refl, sym, ap}
use Rattle.std.proofs.Common.{◌∙◌, mul-suc, arith, length-append, eqb-true, ltb-true}
use Rattle.std.proofs.Math.Bool.{not}
use Rattle.std.proofs.lemmas.Bool.{not-false}
use Rattle.octets.specs.Logic.{both, either, both_left, both_right}
use Rattle.octets.specs.Bytes.{little_order, big_order, legal, word, number_in}
use Rattle.octets.specs.Put.{put, cut, cut_cut, length_cut}
use Rattle.octets.specs.Field.{field, field_first, field_skip}
use Rattle.refusal.specs.Answer.{Answer, gives, refuses, refuse, pass}
use Rattle.packet_reader.specs.Frame.{aim}
use Rattle.requests.specs.Room.{capacity}
use Rattle.requests.specs.declared.Request.{Request}
use Rattle.held.specs.Head as Head
use Rattle.held.specs.Reading as Store
use Rattle.held.specs.Rows.{flat_append}
use Rattle.descriptors.specs.Room.{counted, most_descriptors}
use Rattle.model.specs.Client.{used, first}
use Rattle.model.specs.Reading.{Rooms, rooms}
use Rattle.form.specs.Form.{number, each, writes}
use Rattle.form.specs.At.{Here}
use Rattle.form.proofs.At.{length_numbers as words, bytes_written}
use Rattle.savepoint.specs.Saved.{Saved, target, request, code_request, row_of, build, decode}
use Rattle.savepoint.proofs.Items.{request_code_lem, writes_flat}
use Rattle.savepoint.proofs.SavedLaws.{client_range, partial_fits}
use Rattle.savepoint.proofs.Placed.{rows_long}
use Rattle.savepoint.specs.Calls.{Laid, fitting, put_all, rows_of, connection_of, rooms_of, reader_of, placed, restored, values_of, rooms_after, buffer_after, Restores}
use Rattle.saving.specs.declared.Client.{Client}
use Rattle.saving.specs.declared.finding.Plan.{Plan}
use Rattle.saving.specs.Says.{values_in}
use Rattle.saving.specs.Writing.{length_codes}
use Rattle.saving.specs.Planned.{Found, sections_of, Good, ids_at, good_decodes, here_long}
use Rattle.saving.specs.Laying.{part, first_at, reader_at, connection_at, client_at, fits_at, Places}

-- ---- a section that stands there

-- it ends behind its bytes
-- each of its numbers stands 8 bytes behind the one before
word_at : (l : List ℕ) → each (number 8).fits l ≡ true → (i : ℕ) → i < length l → field little_order (8 * i) 8 (writes (number 8) l) ≡ get_or l i 0
unfolding each writes
word_at [] h i k = absurd (omega arith)
word_at (x ∷ l) h zero k = field_first 8 x (writes (number 8) l) (ltb-true _ _ (both_left _ _ h))
word_at (x ∷ l) h (suc i) k =
    let e : 8 * suc i ≡ 8 + 8 * i = omega (arith, mul-suc 8 i) in
    ap (λ (n : ℕ). field little_order n 8 (word 8 x ++ writes (number 8) l)) e ∙ field_skip 8 x (8 * i) 8 (writes (number 8) l) ∙ word_at l (both_right _ _ h) i (omega arith)

field_cut : (s : List ℕ) (at m a : ℕ) → a + 8 ≤ m → field little_order a 8 (cut at m s) ≡ field little_order (at + a) 8 s
unfolding field
field_cut s at m a h = ap (number_in little_order) (cut_cut s at m a 8 h)

number_at : (s : List ℕ) (at end : ℕ) (H : Here (number 8) s at end) (i k : ℕ) → at + 4 + 8 * i ≡ k → i < length H.items → get_or H.items i 0 ≡ field little_order k 8 s
number_at s at end H i k e h =
    let w : 8 * i + 8 ≤ end - (at + 4) = omega (arith, here_long (number 8) s at end H, words H.items) in
    sym (word_at H.items (both_right _ _ H.fit) i h)
    ∙ ap (field little_order (8 * i) 8) (sym H.bytes)
    ∙ field_cut s (at + 4) (end - (at + 4)) (8 * i) w
    ∙ ap (λ (n : ℕ). field little_order n 8 s) e

-- codes are read as what they are written from
codes_read : (l : List Request) → map code_request (writes request l) ≡ l
unfolding writes
codes_read [] = refl
codes_read (r ∷ l) = λ i. request_code_lem r i ∷ codes_read l i

legal_small : (o : ℕ) → legal o ≡ true → o < 256
unfolding legal either
legal_small o h = go (eqb o little_order) refl h
  where
    go : (b : Bool) → eqb o little_order ≡ b → either b (eqb o big_order) ≡ true → o < 256
    go true e k = omega (arith, eqb-true o little_order e)
    go false e k = omega (arith, eqb-true o big_order k)

-- ---- the state of sections that were found

module _ {s : List ℕ} {p : Plan} (f : Found s p) where
  abbrev state : Saved
  state = build (sections_of f)

  number_is : (i k : ℕ) → 4 + 8 * i ≡ k → i < 3 → get_or f.numbers.items i 0 ≡ field little_order k 8 s
  number_is i k e h = number_at s 0 28 f.numbers i k e (omega (arith, f.three_numbers))

  setting_is : (i k : ℕ) → 32 + 8 * i ≡ k → i < 5 → get_or f.settings.items i 0 ≡ field little_order k 8 s
  setting_is i k e h = number_at s 28 72 f.settings i k e (omega (arith, f.five_settings))

  id_is : (i k : ℕ) → p.ids + 4 + 8 * i ≡ k → i < 3 → get_or f.ids.items i 0 ≡ field little_order k 8 s
  id_is i k e h = number_at s p.ids (length s) f.ids i k e (omega (arith, f.three_ids))

  ids_are : state.ids ≡ ids_at s p.ids
  unfolding build
  ids_are =
      let a = id_is 0 (p.ids + 4) (omega arith) (omega arith) in
      let b = id_is 1 (p.ids + 12) (omega arith) (omega arith) in
      let c = id_is 2 (p.ids + 20) (omega arith) (omega arith) in
      λ i. record { next = a i; last = b i; step = c i }

  -- the requests
  requests_are : map code_request (part s 76 p.replies) ≡ state.client.outstanding
  unfolding build
  requests_are = ap (map code_request) f.requests.bytes ∙ codes_read f.requests.items

  count_is : length state.client.outstanding ≡ p.replies - 76
  unfolding build
  count_is = sym (length_codes f.requests.items) ∙ here_long request s 72 p.replies f.requests

  first_is : first state.client ≡ first_at s p.replies
  unfolding build
  first_is = λ i. number_is 0 4 refl (omega arith) i + 1 - count_is i

  -- the records
  records_are : part s (p.replies + 4) p.events ++ part s (p.events + 4) p.partial ≡ Store.flat (rows_of state.client)
  unfolding build
  records_are =
      (λ i. (f.replies.bytes ∙ writes_flat Head.reply f.replies.items) i ++ (f.events.bytes ∙ writes_flat Head.event f.events.items) i)
      ∙ sym (flat_append (map (row_of Head.reply) f.replies.items) (map (row_of Head.event) f.events.items))

  used_is : used state.client ≡ p.partial - p.replies - 8
  used_is =
      let a = length-append (part s (p.replies + 4) p.events) (part s (p.events + 4) p.partial) in
      let b = length_cut (p.replies + 4) (p.events - (p.replies + 4)) s (omega (arith, f.replies.order, f.replies.within)) in
      let c = length_cut (p.events + 4) (p.partial - (p.events + 4)) s (omega (arith, f.events.order, f.events.within)) in
      omega (arith, rows_long state.client, ap length records_are, a, b, c, f.replies.order, f.events.order)

  connection_is : connection_of state.client ≡ connection_at s p
  unfolding build
  connection_is =
      let a = setting_is 0 32 refl (omega arith) in
      let b = setting_is 1 40 refl (omega arith) in
      let c = setting_is 2 48 refl (omega arith) in
      let d = number_is 0 4 refl (omega arith) in
      let e = number_is 1 12 refl (omega arith) in
      let g = number_is 2 20 refl (omega arith) in
      λ i. record {
        order = a i;
        capacity = b i;
        room = c i;
        written = d i;
        expected = e i;
        read = g i;
        first = first_is i;
        window = record { start = 0; end = used_is i };
        counts = counted 0 0 0;
      }

  -- the partial packet
  filled_is : part s (p.partial + 4) p.ids ≡ state.reader.filled
  unfolding build
  filled_is = f.partial.bytes ∙ bytes_written f.partial.items

  filled_long : length state.reader.filled ≡ p.ids - (p.partial + 4)
  filled_long = ap length (sym filled_is) ∙ length_cut (p.partial + 4) (p.ids - (p.partial + 4)) s (omega (arith, f.partial.order, f.partial.within))

  reader_order : state.reader.order ≡ field little_order 56 8 s
  unfolding build
  reader_order = setting_is 3 56 refl (omega arith)

  target_is : target state.reader ≡ (reader_at s p).target
  target_is = λ i. aim (reader_order i) (sym filled_is i) (length (sym filled_is i))

  reader_is : reader_of state.reader ≡ reader_at s p
  reader_is = λ i. record { order = reader_order i; filled = filled_long i; target = target_is i }

  fits_is : (r : Rooms) (b : List ℕ) → fitting state r b ≡ fits_at s r b
  unfolding fitting fits_at build
  fits_is r b =
      let k = setting_is 1 40 refl (omega arith) in
      let m = setting_is 2 48 refl (omega arith) in
      let n = setting_is 4 64 refl (omega arith) in
      λ i. both (eqb (capacity r.requests) (k i)) (both (eqb (length r.store) (m i)) (both (eqb (length r.slots) most_descriptors) (eqb (length b) (n i))))

-- ---- what was found good

-- what the test of the lengths tells
fitting_tells : (x : Saved) (r : Rooms) (b : List ℕ) → fitting x r b ≡ true
    → (capacity r.requests ≡ x.client.most_requests) × (length r.store ≡ x.client.most_bytes) × (length b ≡ x.reader.room)
unfolding fitting
fitting_tells x r b h =
    let k = both_right _ _ h in
    (eqb-true _ _ (both_left _ _ h), eqb-true _ _ (both_left _ _ k), eqb-true _ _ (both_right _ _ (both_right _ _ k)))

module _ {s : List ℕ} {p : Plan} (g : Good s p) where
  -- the places and numbers that laying asks for
  pub places : Places s p
  unfolding build
  places =
      let f = g.found in
      let C = client_range (state f) g.sound_is in
      let R = partial_fits (state f) g.sound_is in
      let w = number_is f 0 4 refl (omega arith) in
      record {
        requests = record {
          order = f.requests.order;
          within = f.requests.within;
          written_most = omega (arith, w, C.written_most);
          count_most = omega (arith, w, count_is f, C.run_from_one);
        };
        replies = f.replies.order;
        events = f.events.order;
        partial = f.partial.order;
        ids = omega (arith, here_long (number 8) s p.ids (length s) f.ids, words f.ids.items, f.three_ids, f.ids.order);
        orders = omega (arith, setting_is f 0 32 refl (omega arith), legal_small _ C.order);
        reader_orders = omega (arith, reader_order f, legal_small _ R.order);
      }

  decoded : gives (state g.found) ≡ decode s
  decoded = good_decodes g

  module _ (r : Rooms) (b : List ℕ) where
    -- rooms of other lengths
    restore_says : refuse (not (fitting (state g.found) r b)) 9 (gives (placed (state g.found) r b)) ≡ restored s r b
    unfolding restored pass
    restore_says = ap (λ (a : Answer Saved). pass a (λ x. refuse (not (fitting x r b)) 9 (gives (placed x r b)))) decoded

    module _ (t : Bool) (e : t ≡ fits_at s r b) where
      tests : t ≡ fitting (state g.found) r b
      tests = e ∙ sym (fits_is g.found r b)

      pub restore_other : not t ≡ true → Restores s r b (refuses 9) r b
      unfolding refuse values_of rooms_after buffer_after
      restore_other h =
          let a : refuses 9 ≡ restored s r b = ap (λ (k : Bool). refuse k 9 (gives (placed (state g.found) r b))) (sym (ap not (sym tests) ∙ h)) ∙ restore_says in
          record { answers = ap values_of a; leaves = ap (λ (x : Answer Laid). rooms_after x r) a; fills = ap (λ (x : Answer Laid). buffer_after x b) a }

      -- rooms of the lengths saved
      module _ (h : not t ≡ false) where
        same : fitting (state g.found) r b ≡ true
        same = sym tests ∙ not-false t h

        pub room_some : 0 < capacity r.requests
        unfolding fitting
        room_some = omega (arith, (fitting_tells (state g.found) r b same).0, (client_range (state g.found) g.sound_is).requests_least)

        pub store_long : p.partial - p.replies - 8 ≤ length r.store
        store_long = omega (arith, (fitting_tells (state g.found) r b same).1, used_is g.found, (client_range (state g.found) g.sound_is).used_most)

        pub buffer_long : p.ids - (p.partial + 4) ≤ length b
        buffer_long =
            let R = partial_fits (state g.found) g.sound_is in
            omega (arith, (fitting_tells (state g.found) r b same).2, filled_long g.found, R.fits, R.waits)

        pub restore_done : (x : Client) (q st b' : List ℕ) → q ≡ put_all r.requests (first_at s p.replies) (map code_request (part s 76 p.replies))
            → st ≡ put r.store 0 (part s (p.replies + 4) p.events ++ part s (p.events + 4) p.partial) → b' ≡ put b 0 (part s (p.partial + 4) p.ids) → x ≡ client_at s p
            → Restores s r b (gives (values_in x)) (rooms q st r.slots) b'
        unfolding refuse values_of rooms_after buffer_after
        restore_done x q st b' eq es eb ex =
            let f = g.found in
            let a : gives (placed (state f) r b) ≡ restored s r b = ap (λ (k : Bool). refuse k 9 (gives (placed (state f) r b))) (sym (ap not (sym tests) ∙ h)) ∙ restore_says in
            let v : values_in x ≡ values_in (record { connection = connection_of (state f).client; reader = reader_of (state f).reader; ids = (state f).ids }) =
            ap values_in ex ∙ (λ i. (sym (connection_is f) i, (sym (reader_is f) i, sym (ids_are f) i))) in
            let y : rooms q st r.slots ≡ rooms_of (state f).client r = λ i. rooms ((eq ∙ (λ j. put_all r.requests (sym (first_is f) j) (requests_are f j))) i) ((es ∙ ap (put r.store 0) (records_are f)) i) r.slots in
            record {
              answers = ap gives v ∙ ap values_of a;
              leaves = y ∙ ap (λ (z : Answer Laid). rooms_after z r) a;
              fills = eb ∙ ap (put b 0) (filled_is f) ∙ ap (λ (z : Answer Laid). buffer_after z b) a;
            }

-- bytes that are no savepoint
pub restore_bad : (s : List ℕ) (r : Rooms) (b : List ℕ) → refuses 19 ≡ decode s → Restores s r b (refuses 19) r b
unfolding restored pass values_of rooms_after buffer_after
restore_bad s r b e =
    let a : refuses 19 ≡ restored s r b = ap (λ (d : Answer Saved). pass d (λ x. refuse (not (fitting x r b)) 9 (gives (placed x r b)))) e in
    record { answers = ap values_of a; leaves = ap (λ (x : Answer Laid). rooms_after x r) a; fills = ap (λ (x : Answer Laid). buffer_after x b) a }
