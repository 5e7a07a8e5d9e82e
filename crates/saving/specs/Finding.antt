-- The sections of a savepoint, found one behind the other and tested: what each function of `finding` answers, and the laws for its returns. Assumes nothing.
use Rattle.std.specs.Prelude.{◌≡◌, refl, Bool, not, List, [], ◌∷◌, ℕ, ◌+◌, ◌-◌, ◌*◌, ◌≤◌, ◌<◌, leb, eqb, length, take, drop, get_or, Option, None, Some}
use Rattle.std.proofs.Math.Path.{sym, ap, subst}
use Rattle.std.proofs.Common.{◌∙◌, arith, drop-drop, eqb-true, ne_eqb, le-leb}
use Rattle.std.proofs.Math.Bool.{true, false}
use Rattle.std.proofs.Math.Option.{some}
use Rattle.std.proofs.Math.ListN.{length-drop}
use Rattle.std.proofs.lemmas.Bool.{lt-leb, not-true, not-false}
use Rattle.octets.specs.Logic.{choose, both, either, both_left, both_right, both_yes, apart}
use Rattle.octets.specs.Bytes.{little_order, big_order, legal, Octets}
use Rattle.octets.specs.Put.{cut, length_cut}
use Rattle.octets.specs.Field.{field, fields, field_drop, octets_drop}
use Rattle.refusal.specs.Answer.{refuses}
use Rattle.packet.specs.Packet.{least_packet, most_packet}
use Rattle.packet_reader.specs.Frame.{aim}
use Rattle.id_allocator.specs.Ids as Ids
use Rattle.held.specs.Head as Head
use Rattle.model.specs.Client.{Held, Client, used}
use Rattle.form.specs.Form.{and_then, number, byte, each, read_some}
use Rattle.form.proofs.FormLaws.{some_same, none_some, when_yes, then_some, number_exact, byte_exact}
use Rattle.form.specs.At.{At, Here, Not, long, any, fit2}
use Rattle.form.proofs.At.{stands, numbers_end, length_numbers, bytes_written, at_zero, not_first, not_then, not_last, counted_fields, numbers_are}
use Rattle.savepoint.specs.Saved.{Partial, Saved, target, held_fits, never_fall, in_numbers, in_range, sound_partial, sound, Sections, request, row_of, held, file, build, shaped, decode}
use Rattle.savepoint.proofs.Items.{request_exact, held_exact}
use Rattle.savepoint.specs.Ranges.{Numbered, PartialFits}
use Rattle.savepoint.proofs.Ranges.{numbers_are as numbers-are-in, partial_is}
use Rattle.savepoint.proofs.SavedLaws.{decode_none}
use Rattle.saving.specs.declared.finding.Plan.{Plan}
use Rattle.saving.specs.Codes.{any_requests}
use Rattle.saving.specs.Records.{ok_rows, checked, EndSays, checked_is, is_checked}
use Rattle.saving.specs.Writing.{length_codes}
use Rattle.saving.specs.Lengths.{length_helds}
use Rattle.saving.specs.Planned.{numbers, requests, helds, bytes, from_bytes, from_events, from_replies, from_requests, from_settings, Found, sections_of, Good, ids_at, found_read, here_long}
use Rattle.saving.specs.Told.{Planned}

-- ---- numbers of a section

-- three of them, and five, by their fields
module _ (s : List ℕ) (o : Octets s) (at : ℕ) (h : at ≤ length s) (l y : List ℕ) (e : some (l, y) ≡ numbers.read (drop at s)) where
  pub three_are : length l ≡ 3 → l ≡ field little_order (at + 4) 8 s ∷ field little_order (at + 12) 8 s ∷ field little_order (at + 20) 8 s ∷ []
  unfolding fields
  three_are n = (numbers_are s o at h 3 (omega arith) l y e n).0 ∙ (λ i. field_drop little_order s at 4 8 i ∷ field_drop little_order s at 12 8 i ∷ field_drop little_order s at 20 8 i ∷ [])

  pub five_are : length l ≡ 5
      → l ≡ field little_order (at + 4) 8 s ∷ field little_order (at + 12) 8 s ∷ field little_order (at + 20) 8 s ∷ field little_order (at + 28) 8 s ∷ field little_order (at + 36) 8 s ∷ []
  unfolding fields
  five_are n =
      (numbers_are s o at h 5 (omega arith) l y e n).0
      ∙ (λ i. field_drop little_order s at 4 8 i ∷ field_drop little_order s at 12 8 i ∷ field_drop little_order s at 20 8 i ∷ field_drop little_order s at 28 8 i ∷ field_drop little_order s at 36 8 i ∷ [])

-- ---- orders

pub order_wide : (n : ℕ) → 255 < n → false ≡ legal n
unfolding legal either
order_wide n h = sym (simp (ne_eqb n little_order (λ e. omega arith), ne_eqb n big_order (λ e. omega arith)))

pub order_byte : (n : ℕ) → legal n ≡ true → n < 256
unfolding legal either
order_byte n h = go (eqb n little_order) refl h
  where
    go : (b : Bool) → eqb n little_order ≡ b → either b (eqb n big_order) ≡ true → n < 256
    go true e k = omega (arith, eqb-true n little_order e)
    go false e k = omega (arith, eqb-true n big_order k)

-- ---- the connection's numbers

-- a client that has the numbers that stand there, and so many outstanding requests
pub record HeadIs (s : List ℕ) (count : ℕ) (m : Client) : Type 0 where
  pub written : m.numbers.written ≡ field little_order 4 8 s
  pub expected : m.numbers.expected ≡ field little_order 12 8 s
  pub read : m.numbers.read ≡ field little_order 20 8 s
  pub order : m.order ≡ field little_order 32 8 s
  pub requests : m.most_requests ≡ field little_order 40 8 s
  pub bytes : m.most_bytes ≡ field little_order 48 8 s
  pub run : length m.outstanding ≡ count

abbrev pub NumbersSay : List ℕ → ℕ → Bool → Type 0
NumbersSay s count r = (m : Client) → HeadIs s count m → r ≡ in_numbers m

pub numbers_under : (s : List ℕ) (m n : ℕ) (r : Bool) → m ≡ n → NumbersSay s m r → NumbersSay s n r
numbers_under s m n r e N = subst (λ (k : ℕ). NumbersSay s k r) e N

pub not_numbers : (m : Client) → (Numbered m → ⊥) → false ≡ in_numbers m
not_numbers m h = go (in_numbers m) refl
  where
    go : (b : Bool) → in_numbers m ≡ b → false ≡ b
    go true e = absurd (h (numbers-are-in m e))
    go false e = refl

-- ---- the partial packet

pub record PartialIs (s : List ℕ) (at end : ℕ) (p : Partial) : Type 0 where
  pub order : p.order ≡ field little_order 56 8 s
  pub room : p.room ≡ field little_order 64 8 s
  pub filled : p.filled ≡ cut (at + 4) (end - (at + 4)) s

abbrev pub PartialSays : List ℕ → ℕ → ℕ → Bool → Type 0
PartialSays s at end r = (p : Partial) → PartialIs s at end p → r ≡ sound_partial p

pub not_partial : (p : Partial) → (PartialFits p → ⊥) → false ≡ sound_partial p
not_partial p h = go (sound_partial p) refl
  where
    go : (b : Bool) → sound_partial p ≡ b → false ≡ b
    go true e = absurd (h (partial_is p e))
    go false e = refl

module _ (s : List ℕ) (at end : ℕ) (w : at + 4 ≤ end) (v : end ≤ length s) (p : Partial) (P : PartialIs s at end p) where
  pub filled_long : length p.filled ≡ end - (at + 4)
  filled_long = ap length P.filled ∙ length_cut (at + 4) (end - (at + 4)) s (omega arith)

  -- the target is the one that the code finds from those bytes
  pub target_is : (o n : ℕ) → o ≡ field little_order 56 8 s → n ≡ aim o (take (end - (at + 4)) (drop (at + 4) s)) (length (take (end - (at + 4)) (drop (at + 4) s))) → target p ≡ n
  unfolding cut
  target_is o n e f = (λ i. aim ((P.order ∙ sym e) i) (P.filled i) (length (P.filled i))) ∙ sym f

-- ---- the records

-- what is asked of replies is that each fits and that their numbers never fall; of events, that each fits
rows_known : (rising : Bool) (kind from last : ℕ) (l : List Held) → each (held kind).fits l ≡ true → ok_rows rising from last l ≡ true → each (held_fits last) l ≡ true
unfolding each ok_rows held_fits
rows_known rising kind from last [] f t = refl
rows_known rising kind from last (h ∷ l) f t =
    let g = both_left _ _ f in
    let k = Head.fits_is (row_of kind h) (both_left _ _ g) in
    both_yes _ _ (both_yes _ _ (le-leb least_packet _ k.least) (both_yes _ _ (le-leb _ most_packet k.most) (both_yes _ _ (both_right _ _ (both_left _ _ t)) (both_right _ _ g))))
    (rows_known rising kind (choose rising h.number 0) last l (both_right _ _ f) (both_right _ _ t))

rows_fall : (from last : ℕ) (l : List Held) → ok_rows true from last l ≡ true → never_fall from l ≡ true
unfolding ok_rows never_fall choose
rows_fall from last [] t = refl
rows_fall from last (h ∷ l) t = both_yes _ _ (both_left _ _ (both_left _ _ t)) (rows_fall h.number last l (both_right _ _ t))

replies_ok : (from last : ℕ) (l : List Held) → each (held_fits last) l ≡ true → never_fall from l ≡ true → ok_rows true from last l ≡ true
unfolding each ok_rows never_fall choose held_fits
replies_ok from last [] f t = refl
replies_ok from last (h ∷ l) f t =
    both_yes _ _ (both_yes _ _ (both_left _ _ t) (both_left _ _ (both_right _ _ (both_right _ _ (both_left _ _ f))))) (replies_ok h.number last l (both_right _ _ f) (both_right _ _ t))

events_ok : (last : ℕ) (l : List Held) → each (held_fits last) l ≡ true → ok_rows false 0 last l ≡ true
unfolding each ok_rows choose held_fits
events_ok last [] f = refl
events_ok last (h ∷ l) f = both_yes _ _ (both_yes _ _ (le-leb 0 h.number (omega arith)) (both_left _ _ (both_right _ _ (both_right _ _ (both_left _ _ f))))) (events_ok last l (both_right _ _ f))

-- a section of them, from the walk over its records
module _ (s : List ℕ) (o : Octets s) (at : ℕ) (h : at ≤ length s) (kind last : ℕ) (rising : Bool) where
  abbrev x : List ℕ
  x = drop at s

  -- without a count there is none
  pub helds_short : length s - at < 4 → At (helds kind) (ok_rows rising 0 last) s at 0
  helds_short w = record {
    there = λ z. absurd (z refl);
    missing = λ z l y e t. (let q = counted_fields x (octets_drop at s o) (held kind) (held_exact kind) l y e in omega (arith, q.1, length-drop at s));
  }

  module _ (w : 4 ≤ length s - at) (count : ℕ) (c : count ≡ field little_order at 4 s) (r : ℕ) (E : EndSays s r (checked rising kind 0 last count (drop (at + 4) s))) where
    head_reads : some (count, drop (at + 4) s) ≡ (number 4).read x
    unfolding field cut
    head_reads = (λ i. some (c i, sym (drop-drop 4 at s) i)) ∙ when_yes _ _ (le-leb 4 (length x) (omega (arith, length-drop at s)))

    pub helds_at : At (helds kind) (ok_rows rising 0 last) s at r
    unfolding and_then
    helds_at = record {
      there = λ z.
          let a = E.there z in
          let l = checked_is rising kind 0 last count (drop (at + 4) s) (drop r s) a.0 in
          (l.0, l.1 ∙ ap (λ t. and_then t (λ p. read_some (held kind) p.0 p.1)) head_reads, l.2, a.1);
      missing = λ z l y e t.
          let p = then_some ((number 4).read x) (λ p. read_some (held kind) p.0 p.1) e in
          let q = some_same (p.1 ∙ sym head_reads) in
          let g : some (l, y) ≡ read_some (held kind) count (drop (at + 4) s) = p.2 ∙ (λ i. read_some (held kind) (q i).0 (q i).1) in
          none_some (E.missing z ∙ sym (is_checked rising kind 0 last count (drop (at + 4) s) l y g t));
    }

-- ---- what is found

-- what is asked of the records, where the last read stands
abbrev pub last_in : List ℕ → ℕ
last_in s = field little_order 20 8 s

abbrev pub tail_ok : List ℕ → List Held × (List Held × (List ℕ × List ℕ)) → Bool
tail_ok s = fit2 (ok_rows true 0 (last_in s)) (fit2 (ok_rows false 0 (last_in s)) (fit2 any (long 3)))

abbrev pub all_ok : List ℕ → Sections → Bool
all_ok s = fit2 (long 3) (fit2 (long 5) (fit2 any_requests (tail_ok s)))

-- the last four sections
pub record Tail (s : List ℕ) (at : ℕ) (p : Plan) : Type 0 where
  pub start : p.replies ≡ at
  pub replies : Here (held Head.reply) s p.replies p.events
  pub events : Here (held Head.event) s p.events p.partial
  pub partial : Here byte s p.partial p.ids
  pub ids : Here (number 8) s p.ids (length s)
  pub three : length ids.items ≡ 3
  pub rising : ok_rows true 0 (last_in s) replies.items ≡ true
  pub known : ok_rows false 0 (last_in s) events.items ≡ true

abbrev pub HeldFound : List ℕ → ℕ → Option Plan → Type 0
HeldFound s at None = Not from_replies (tail_ok s) s at
HeldFound s at (Some p) = Tail s at p

-- all of them
pub record Known (s : List ℕ) (p : Plan) (f : Found s p) : Type 0 where
  pub rising : ok_rows true 0 (last_in s) f.replies.items ≡ true
  pub known : ok_rows false 0 (last_in s) f.events.items ≡ true

abbrev pub SectionsFound : List ℕ → Option Plan → Type 0
SectionsFound s None = Not file (all_ok s) s 0
SectionsFound s (Some p) = (f : Found s p) × Known s p f

-- where they stand
pub record Bounds (s : List ℕ) (p : Plan) : Type 0 where
  pub head : 76 ≤ p.replies
  pub replies : p.replies + 4 ≤ p.events
  pub events : p.events + 4 ≤ p.partial
  pub partial : p.partial + 4 ≤ p.ids
  pub ids : p.ids + 28 ≡ length s

abbrev pub RangeSays : List ℕ → Plan → Bool → Type 0
RangeSays s p r = (f : Found s p) → Known s p f → r ≡ sound (build (sections_of f))

-- ---- the last four sections, one after the other

module _ (s : List ℕ) (o : Octets s) (at : ℕ) (h : at ≤ length s) (last : ℕ) (e : last ≡ last_in s) where
  under : (kind at r : ℕ) (rising : Bool) → At (helds kind) (ok_rows rising 0 last) s at r → At (helds kind) (ok_rows rising 0 (last_in s)) s at r
  under kind at r rising F = subst (λ (n : ℕ). At (helds kind) (ok_rows rising 0 n) s at r) e F

  module _ (a : ℕ) (F : At (helds Head.reply) (ok_rows true 0 last) s at a) where
    pub no_replies : a ≡ 0 → Not from_replies (tail_ok s) s at
    no_replies z = not_first (helds Head.reply) from_events _ _ s at (at_zero z (under Head.reply at a true F))

    module _ (f : a ≡ 0 → ⊥) where
      pub replies_end : a ≤ length s
      replies_end = (F.there f).3

      past : Not from_events (fit2 (ok_rows false 0 (last_in s)) (fit2 any (long 3))) s a → Not from_replies (tail_ok s) s at
      past N = not_then (helds Head.reply) from_events _ _ s at a (under Head.reply at a true F) f N

      module _ (b : ℕ) (G : At (helds Head.event) (ok_rows false 0 last) s a b) where
        pub no_events : b ≡ 0 → Not from_replies (tail_ok s) s at
        no_events z = past (not_first (helds Head.event) from_bytes _ _ s a (at_zero z (under Head.event a b false G)))

        module _ (g : b ≡ 0 → ⊥) where
          pub events_end : b ≤ length s
          events_end = (G.there g).3

          past_two : Not from_bytes (fit2 any (long 3)) s b → Not from_replies (tail_ok s) s at
          past_two N = past (not_then (helds Head.event) from_bytes _ _ s a b (under Head.event a b false G) g N)

          module _ (c : ℕ) (H : At bytes any s b c) where
            pub no_bytes : c ≡ 0 → Not from_replies (tail_ok s) s at
            no_bytes z = past_two (not_first bytes numbers any (long 3) s b (at_zero z H))

            pub bytes_there : (c ≡ 0 → ⊥) → c ≤ length s
            bytes_there i = (H.there i).3

            module _ (i : c ≡ 0 → ⊥) (d : ℕ) (I : At numbers (long 3) s c d) where
              pub not_ended : (d ≡ length s → ⊥) → Not from_replies (tail_ok s) s at
              not_ended z = past_two (not_then bytes numbers any (long 3) s b c H i (not_last numbers (long 3) s c d I z))

              pub tail_found : 28 ≤ length s → d ≡ length s → HeldFound s at (Some (record { replies = at; events = a; partial = b; ids = c }))
              tail_found w z =
                  let A = stands (held Head.reply) (held_exact Head.reply) _ s o at a h (under Head.reply at a true F) f in
                  let B = stands (held Head.event) (held_exact Head.event) _ s o a b replies_end (under Head.event a b false G) g in
                  let C = stands byte byte_exact any s o b c events_end H i in
                  let D = stands (number 8) (number_exact 8) (long 3) s o c (length s) (bytes_there i) (subst (λ (n : ℕ). At numbers (long 3) s c n) z I) (λ q. omega arith) in
                  record { start = refl; replies = A.0; events = B.0; partial = C.0; ids = D.0; three = eqb-true _ _ D.1; rising = A.1; known = B.1 }

-- ---- all seven

module _ (s : List ℕ) (o : Octets s) (a : ℕ) (F : At numbers (long 3) s 0 a) where
  pub no_numbers : a ≡ 0 → Not file (all_ok s) s 0
  no_numbers z = not_first numbers from_settings (long 3) _ s 0 (at_zero z F)

  module _ (f : a ≡ 0 → ⊥) where
    pub numbers_after : a ≡ 28
    numbers_after = numbers_end s o 0 3 a (omega arith) (omega arith) F f

    pub numbers_within : a ≤ length s
    numbers_within = (F.there f).3

    module _ (b : ℕ) (G : At numbers (long 5) s a b) where
      pub no_settings : b ≡ 0 → Not file (all_ok s) s 0
      no_settings z = not_then numbers from_settings (long 3) _ s 0 a F f (not_first numbers from_requests (long 5) _ s a (at_zero z G))

      module _ (g : b ≡ 0 → ⊥) where
        pub settings_after : b ≡ 72
        settings_after = numbers_end s o a 5 b (omega arith) numbers_within G g ∙ ap (λ (n : ℕ). n + (4 + 8 * 5)) numbers_after

        pub settings_within : b ≤ length s
        settings_within = (G.there g).3

        module _ (c : ℕ) (H : At requests any_requests s b c) where
          pub no_requests : c ≡ 0 → Not file (all_ok s) s 0
          no_requests z = not_then numbers from_settings (long 3) _ s 0 a F f (not_then numbers from_requests (long 5) _ s a b G g (not_first requests from_replies any_requests _ s b (at_zero z H)))

          module _ (h : c ≡ 0 → ⊥) where
            pub requests_within : (28 ≤ length s) × (c ≤ length s)
            requests_within = (omega (arith, numbers_after, numbers_within), (H.there h).3)

            pub all_found : (p : Option Plan) → HeldFound s c p → SectionsFound s p
            all_found None N =
                not_then numbers from_settings (long 3) _ s 0 a F f (not_then numbers from_requests (long 5) _ s a b G g (not_then requests from_replies any_requests _ s b c H h N))
            all_found (Some p) t =
                let N = stands (number 8) (number_exact 8) (long 3) s o 0 28 (omega arith) (subst (λ (n : ℕ). At numbers (long 3) s 0 n) numbers_after F) (λ q. omega arith) in
                let S = stands (number 8) (number_exact 8) (long 5) s o 28 72 (omega (arith, numbers_after, numbers_within)) (subst (λ (n : ℕ). At numbers (long 5) s 28 n) settings_after (subst (λ (n : ℕ). At numbers (long 5) s n b) numbers_after G)) (λ q. omega arith) in
                let R = stands request request_exact any_requests s o 72 p.replies (omega (arith, settings_after, settings_within)) (subst (λ (n : ℕ). At requests any_requests s 72 n) (sym t.start) (subst (λ (n : ℕ). At requests any_requests s n c) settings_after H)) (λ q. h (sym t.start ∙ q)) in (
                  record {
                    numbers = N.0;
                    settings = S.0;
                    requests = R.0;
                    replies = t.replies;
                    events = t.events;
                    partial = t.partial;
                    ids = t.ids;
                    three_numbers = eqb-true _ _ N.1;
                    five_settings = eqb-true _ _ S.1;
                    three_ids = t.three;
                  },
                  record { rising = t.rising; known = t.known },
                )

-- ---- tests one behind the other

client_part : (n a b c u : Bool) → a ≡ true → b ≡ true → c ≡ true → both n u ≡ both n (both a (both b (both c (both u (both true true)))))
unfolding both
client_part n a b c true x y z = rw (x, y, z)
client_part n a b c false x y z = rw (x, y, z)

no_second : (a b c : Bool) → b ≡ false → false ≡ both (both a b) c
unfolding both
no_second true b c h = rw h
no_second false b c h = refl

no_first : (a b c : Bool) → a ≡ false → false ≡ both (both a b) c
unfolding both
no_first a b c h = rw h

no_third : (a b c d : Bool) → c ≡ false → false ≡ both (both a b) (both c d)
unfolding both
no_third true true c d h = rw h
no_third true false c d h = refl
no_third false b c d h = refl

the_last : (a b c d : Bool) → a ≡ true → b ≡ true → c ≡ true → d ≡ both (both a b) (both c d)
unfolding both
the_last a b c d x y z = rw (x, y, z)

-- ---- what was found, by its fields

module _ (s : List ℕ) (o : Octets s) (p : Plan) (f : Found s p) where
  abbrev whole : Saved
  whole = build (sections_of f)

  pub bounds : Bounds s p
  bounds = record {
    head = f.requests.order;
    replies = f.replies.order;
    events = f.events.order;
    partial = f.partial.order;
    ids = omega (arith, here_long (number 8) s p.ids (length s) f.ids, length_numbers f.ids.items, ap (λ (n : ℕ). 8 * n) f.three_ids, f.ids.order);
  }

  numbers_found : f.numbers.items ≡ field little_order 4 8 s ∷ field little_order 12 8 s ∷ field little_order 20 8 s ∷ []
  numbers_found = three_are s o 0 (omega arith) f.numbers.items (drop 28 s) f.numbers.reads f.three_numbers

  settings_found : f.settings.items ≡ field little_order 32 8 s ∷ field little_order 40 8 s ∷ field little_order 48 8 s ∷ field little_order 56 8 s ∷ field little_order 64 8 s ∷ []
  settings_found = five_are s o 28 (omega (arith, f.numbers.within)) f.settings.items (drop 72 s) f.settings.reads f.five_settings

  ids_found : f.ids.items ≡ field little_order (p.ids + 4) 8 s ∷ field little_order (p.ids + 12) 8 s ∷ field little_order (p.ids + 20) 8 s ∷ []
  ids_found = three_are s o p.ids f.partial.within f.ids.items (drop (length s) s) f.ids.reads f.three_ids

  abbrev nth : ℕ → List ℕ → ℕ
  nth i l = get_or l i 0

  pub head_is : HeadIs s (p.replies - 76) whole.client
  unfolding build
  head_is = record {
    written = ap (nth 0) numbers_found;
    expected = ap (nth 1) numbers_found;
    read = ap (nth 2) numbers_found;
    order = ap (nth 0) settings_found;
    requests = ap (nth 1) settings_found;
    bytes = ap (nth 2) settings_found;
    run = sym (length_codes f.requests.items) ∙ here_long request s 72 p.replies f.requests;
  }

  pub partial_at : PartialIs s p.partial p.ids whole.reader
  unfolding build
  partial_at = record { order = ap (nth 3) settings_found; room = ap (nth 4) settings_found; filled = sym (bytes_written f.partial.items) ∙ sym f.partial.bytes }

  pub ids_at_lem : ids_at s p.ids ≡ whole.ids
  unfolding build
  ids_at_lem = λ i. record { next = nth 0 (sym ids_found i); last = nth 1 (sym ids_found i); step = nth 2 (sym ids_found i) }

  pub used_is : used whole.client ≡ p.partial - p.replies - 8
  unfolding build
  used_is =
      let B = bounds in
      omega (arith, here_long (held Head.reply) s p.replies p.events f.replies, here_long (held Head.event) s p.events p.partial f.events, length_helds Head.reply f.replies.items, length_helds Head.event f.events.items, B.replies, B.events)

  module _ (K : Known s p f) where
    each_reply : each (held_fits whole.client.numbers.read) whole.client.replies ≡ true
    unfolding build
    each_reply = subst (λ (n : ℕ). each (held_fits n) f.replies.items ≡ true) (sym (ap (nth 2) numbers_found)) (rows_known true Head.reply 0 (last_in s) f.replies.items (both_right _ _ f.replies.fit) K.rising)

    each_event : each (held_fits whole.client.numbers.read) whole.client.events ≡ true
    unfolding build
    each_event = subst (λ (n : ℕ). each (held_fits n) f.events.items ≡ true) (sym (ap (nth 2) numbers_found)) (rows_known false Head.event 0 (last_in s) f.events.items (both_right _ _ f.events.fit) K.known)

    never_falls : never_fall 0 whole.client.replies ≡ true
    unfolding build
    never_falls = rows_fall 0 (last_in s) f.replies.items K.rising

    -- what is left to test
    parts : both (both (in_numbers whole.client) (leb (used whole.client) whole.client.most_bytes)) (both (sound_partial whole.reader) (Ids.sound whole.ids)) ≡ sound whole
    unfolding sound in_range build
    parts = ap (λ (b : Bool). both b (both (sound_partial whole.reader) (Ids.sound whole.ids))) (client_part (in_numbers whole.client) _ _ _ (leb (used whole.client) whole.client.most_bytes) each_reply each_event never_falls)

    abbrev numbers_part : Bool
    numbers_part = in_numbers whole.client

    pub range_used : field little_order 48 8 s < p.partial - p.replies - 8 → false ≡ sound whole
    range_used h = no_second numbers_part _ _ (lt-leb (used whole.client) whole.client.most_bytes (omega (arith, used_is, head_is.bytes))) ∙ parts

    module _ (u : p.partial - p.replies - 8 ≤ field little_order 48 8 s) where
      room_there : leb (used whole.client) whole.client.most_bytes ≡ true
      room_there = le-leb (used whole.client) whole.client.most_bytes (omega (arith, used_is, head_is.bytes))

      pub range_numbers : (b : Bool) → NumbersSay s (p.replies - 76) b → not b ≡ true → false ≡ sound whole
      range_numbers b N t = no_first numbers_part _ _ (sym (N whole.client head_is) ∙ not-true b t) ∙ parts

      module _ (b : Bool) (N : NumbersSay s (p.replies - 76) b) (t : not b ≡ false) where
        numbers_there : numbers_part ≡ true
        numbers_there = sym (N whole.client head_is) ∙ not-false b t

        pub range_partial : (d : Bool) → PartialSays s p.partial p.ids d → not d ≡ true → false ≡ sound whole
        range_partial d P v = no_third _ _ _ _ (sym (P whole.reader partial_at) ∙ not-true d v) ∙ parts

        pub range_ids : (d : Bool) → PartialSays s p.partial p.ids d → not d ≡ false → (i : Bool) → i ≡ Ids.sound (ids_at s p.ids) → i ≡ sound whole
        range_ids d P v i e = e ∙ ap Ids.sound ids_at_lem ∙ the_last _ _ _ _ numbers_there room_there (sym (P whole.reader partial_at) ∙ not-false d v) ∙ parts

-- ---- all tested

-- what a state that is sound has passed
not_decodes : (s : List ℕ) → Octets s → Not file (all_ok s) s 0 → refuses 19 ≡ decode s
unfolding shaped build sound in_range
not_decodes s o N =
    decode_none s (λ x e t u.
    let k = both_right _ _ t in
    let a = both_left _ _ u in
    let b = both_right _ _ a in let c = both_right _ _ b in
    let q = then_some (numbers.read s) (λ p. and_then (from_settings.read p.1) (λ q. some ((p.0, q.0), q.1))) e in
    let z = then_some (from_settings.read q.0.1) (λ r. some ((q.0.0, r.0), r.1)) q.2 in
    let i : x.0 ≡ q.0.0 = ap (λ y. y.0.0) (some_same z.2) in
    let l : x.0 ≡ field little_order 4 8 s ∷ field little_order 12 8 s ∷ field little_order 20 8 s ∷ [] = i ∙ three_are s o 0 (omega arith) q.0.0 q.0.1 q.1 (ap length (sym i) ∙ eqb-true _ _ (both_left _ _ t)) in
    let r : get_or x.0 2 0 ≡ last_in s = ap (λ (y : List ℕ). get_or y 2 0) l in
    N x e
    (both_yes _ _ (both_left _ _ t)
    (both_yes _ _ (both_left _ _ k)
    (both_yes _ _ refl
    (both_yes _ _ (replies_ok 0 (last_in s) _ (subst (λ (n : ℕ). each (held_fits n) x.1.1.1.0 ≡ true) r (both_left _ _ b)) (both_left _ _ (both_right _ _ c)))
    (both_yes _ _ (events_ok (last_in s) _ (subst (λ (n : ℕ). each (held_fits n) x.1.1.1.1.0 ≡ true) r (both_left _ _ c))) (both_yes _ _ refl (both_right _ _ k))))))))

pub none_planned : (s : List ℕ) → Octets s → SectionsFound s None → Planned s None
none_planned s o N = not_decodes s o N

module _ (s : List ℕ) (p : Plan) (S : SectionsFound s (Some p)) (b : Bool) (R : RangeSays s p b) where
  pub bad_planned : not b ≡ true → Planned s None
  bad_planned t =
      decode_none s (λ x h u v.
      let i : x ≡ sections_of S.0 = ap (λ y. y.0) (some_same (h ∙ sym (found_read S.0))) in
      apart (ap (λ y. sound (build y)) (sym i) ∙ v) (sym (R S.0 S.1) ∙ not-true b t))

  pub good_planned : not b ≡ false → Good s p
  good_planned t = record { found = S.0; sound_is = sym (R S.0 S.1) ∙ not-false b t }
