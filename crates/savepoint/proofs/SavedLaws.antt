-- The file is exact: a sound state is read back from its bytes, and what is read is a sound state that is written as those bytes. Assumes nothing.
use Rattle.std.specs.Prelude.{◌≡◌, Bool, true, false, not, ℕ, ◌≤◌, ◌<◌, ◌^◌, eqb, length, get_or}
use Rattle.std.proofs.Math.Path.{refl}
use Rattle.std.proofs.Common.{sym, ap, ◌∙◌, eqb-true, lt-ltb}
use mathlib.Core.List.{List, [], ◌∷◌, append-nil}
use Rattle.std.proofs.Math.Option.{Option, none, some}
use native.Mathlib.Omega.{arith}
use Rattle.std.proofs.lemmas.Bool.{not-false}
use Rattle.octets.specs.Logic.{both, either, both_left, both_right, both_yes}
use Rattle.octets.specs.Bytes.{little_order, big_order, legal, Octets}
use Rattle.refusal.specs.Answer.{Answer, gives, refuses, refuse, gives_past, gives_rest, gives_same, past_refusal}
use Rattle.id_allocator.specs.Ids as Ids
use Rattle.id_allocator.specs.SoundLaws as IdLaws
use Rattle.held.specs.Head as Head
use Rattle.model.specs.Client.{Held, costs, inside}
use Rattle.model.specs.Batch.{Each}
use Rattle.model.specs.Encoding.{InRange}
use Rattle.form.specs.Form.{number, each, counted}
use Rattle.form.specs.FormLaws.{Exact}
use Rattle.form.proofs.FormLaws.{number_exact, byte_exact, pair_exact, counted_exact, each_so, bytes_fit}
use Rattle.savepoint.specs.Saved.{Saved, in_range, held_fits, sound, request, row_of, held, Sections, file, lay, encode, build, shaped, accepted, taken, decode}
use Rattle.savepoint.proofs.Items.{request_exact, empty, held_exact}
use Rattle.savepoint.specs.Ranges.{PartialFits}
use Rattle.savepoint.proofs.Ranges.{held_is, range_is, partial_is}

-- THE ONE LAW, for all seven sections
pub file_exact : Exact file
file_exact =
    pair_exact _ _ (counted_exact _ (number_exact 8) 4)
    (pair_exact _ _ (counted_exact _ (number_exact 8) 4)
    (pair_exact _ _ (counted_exact _ request_exact 4)
    (pair_exact _ _ (counted_exact _ (held_exact Head.reply) 4)
    (pair_exact _ _ (counted_exact _ (held_exact Head.event) 4) (pair_exact _ _ (counted_exact _ byte_exact 4) (counted_exact _ (number_exact 8) 4))))))

-- ---- what is sound fits

-- a list has no more records than bytes
costs_length : (l : List Held) → length l ≤ costs l
unfolding costs
costs_length [] = omega arith
costs_length (h ∷ l) = omega (arith, costs_length l)

module _ (last : ℕ) (z : last < 2 ^ 63) (kind : ℕ) (k : kind ≤ Head.event) where
  held_fits_lem : (h : Held) → held_fits last h ≡ true → (held kind).fits h ≡ true
  unfolding held_fits
  held_fits_lem h t =
      let f = held_is last h t in
      both_yes _ _ (Head.fits_so (row_of kind h) (record { number = omega (arith, f.known); least = f.least; most = f.most; kind = k; count = omega arith })) (both_right _ _ (both_right _ _ (both_right _ _ t)))

  each_fits : (l : List Held) → each (held_fits last) l ≡ true → each (held kind).fits l ≡ true
  unfolding each
  each_fits [] t = refl
  each_fits (h ∷ l) t = both_yes _ _ (held_fits_lem h (both_left _ _ t)) (each_fits l (both_right _ _ t))

  records_fit : (l : List Held) → costs l < 2 ^ 32 → each (held_fits last) l ≡ true → (counted 4 (held kind)).fits l ≡ true
  records_fit l c t = both_yes _ _ (lt-ltb (length l) (2 ^ 32) (omega (arith, costs_length l))) (each_fits l t)

order_small : (o : ℕ) → legal o ≡ true → o < 2 ^ 64
unfolding legal either
order_small o h = go (eqb o little_order) refl h
  where
    go : (b : Bool) → eqb o little_order ≡ b → either b (eqb o big_order) ≡ true → o < 2 ^ 64
    go true e k = omega (arith, eqb-true o little_order e)
    go false e k = omega (arith, eqb-true o big_order k)

numbers_fit : (l : List ℕ) → length l < 2 ^ 32 → Each (λ x. x < 2 ^ 64) l → (counted 4 (number 8)).fits l ≡ true
unfolding each
numbers_fit l h k = both_yes _ _ (lt-ltb (length l) (2 ^ 32) h) (go l k)
  where
    go : (l : List ℕ) → Each (λ x. x < 2 ^ 64) l → each (number 8).fits l ≡ true
    go [] k = refl
    go (x ∷ l) k = both_yes _ _ (lt-ltb x (2 ^ 64) k.0) (go l k.1)

module _ (s : Saved) (h : sound s ≡ true) where
  pub client_range : InRange s.client
  unfolding sound
  client_range = (range_is s.client (both_left _ _ h)).0

  pub none_inside : inside s.client ≡ 0
  unfolding sound
  none_inside = (range_is s.client (both_left _ _ h)).1

  pub partial_fits : PartialFits s.reader
  unfolding sound
  partial_fits = partial_is s.reader (both_left _ _ (both_right _ _ h))

  pub ids_sound : Ids.Sound s.ids
  unfolding sound
  ids_sound = IdLaws.sound_of s.ids (both_right _ _ (both_right _ _ h))

  replies_fit : each (held_fits s.client.numbers.read) s.client.replies ≡ true
  unfolding sound in_range
  replies_fit = both_left _ _ (both_right _ _ (both_left _ _ h))

  events_fit : each (held_fits s.client.numbers.read) s.client.events ≡ true
  unfolding sound in_range
  events_fit = both_left _ _ (both_right _ _ (both_right _ _ (both_left _ _ h)))

  pub sound_fits : file.fits (lay s) ≡ true
  unfolding lay
  sound_fits =
      let C = client_range in let R = partial_fits in let A = ids_sound in let c = s.client in
      both_yes _ _ (numbers_fit (lay s).0 (omega arith) (omega (arith, C.written_most), (omega (arith, C.expected_most), (omega (arith, C.read_most), tt))))
      (both_yes _ _ (numbers_fit (lay s).1.0 (omega arith) (order_small _ C.order, (omega (arith, C.requests_most_lem), (omega (arith, C.store_most), (order_small _ R.order, (omega (arith, R.most), tt))))))
      (both_yes _ _ (both_yes _ _ (lt-ltb (length c.outstanding) (2 ^ 32) (omega (arith, C.run_most, C.requests_most_lem))) (each_so request.fits (λ r. refl) c.outstanding))
      (both_yes _ _ (records_fit c.numbers.read (omega (arith, C.read_most)) Head.reply (omega arith) c.replies (omega (arith, C.used_most, C.store_most)) replies_fit)
      (both_yes _ _ (records_fit c.numbers.read (omega (arith, C.read_most)) Head.event (omega arith) c.events (omega (arith, C.used_most, C.store_most)) events_fit)
      (both_yes _ _ (bytes_fit s.reader.filled (omega (arith, R.waits, R.fits, R.most)))
      (numbers_fit (lay s).1.1.1.1.1.1 (omega arith) (omega (arith, A.next_most, A.last_below, A.step_below), (omega (arith, A.last_below), (omega (arith, A.step_below), tt)))))))))

-- ---- a state as sections, and back

module _ (s : Saved) (h : sound s ≡ true) where
  pub build_lay : build (lay s) ≡ s
  unfolding build lay
  build_lay =
      let c = s.client in
      let w : [] ≡ c.waiting = empty c.waiting (omega (arith, none_inside s h)) in
      let z : [] ≡ c.closing = empty c.closing (omega (arith, none_inside s h)) in
      λ i. record {
        client = record {
          order = c.order;
          most_requests = c.most_requests;
          most_bytes = c.most_bytes;
          numbers = c.numbers;
          outstanding = c.outstanding;
          replies = c.replies;
          events = c.events;
          waiting = w i;
          closing = z i;
        };
        reader = s.reader;
        ids = s.ids;
      }

pub shaped_lay : (s : Saved) → shaped (lay s) ≡ true
unfolding shaped lay both
shaped_lay s = refl

three : (l : List ℕ) → length l ≡ 3 → get_or l 0 0 ∷ get_or l 1 0 ∷ get_or l 2 0 ∷ [] ≡ l
three [] e = absurd (omega arith)
three (a ∷ []) e = absurd (omega arith)
three (a ∷ b ∷ []) e = absurd (omega arith)
three (a ∷ b ∷ c ∷ []) e = refl
three (a ∷ b ∷ c ∷ d ∷ l) e = absurd (omega arith)

five : (l : List ℕ) → length l ≡ 5 → get_or l 0 0 ∷ get_or l 1 0 ∷ get_or l 2 0 ∷ get_or l 3 0 ∷ get_or l 4 0 ∷ [] ≡ l
five [] e = absurd (omega arith)
five (a ∷ []) e = absurd (omega arith)
five (a ∷ b ∷ l) e = let r = three l (omega arith) in λ i. a ∷ b ∷ r i

pub lay_build : (x : Sections) → shaped x ≡ true → lay (build x) ≡ x
unfolding lay build shaped
lay_build (n, (g, (q, (r, (e, (p, a)))))) h =
    let k = both_right _ _ h in
    let N = three n (eqb-true _ _ (both_left _ _ h)) in
    let G = five g (eqb-true _ _ (both_left _ _ k)) in
    let A = three a (eqb-true _ _ (both_right _ _ k)) in
    λ i. (N i, (G i, (q, (r, (e, (p, A i))))))

-- ---- bytes to a state, and back

pub decode_encode : (s : Saved) → sound s ≡ true → gives s ≡ decode (encode s)
unfolding decode encode taken accepted
decode_encode s h =
    let B = build_lay s h in
    let t : accepted (lay s) [] ≡ true = both_yes _ _ refl (both_yes _ _ (shaped_lay s) (ap sound B ∙ h)) in
    let r : some (lay s, []) ≡ file.read (file.write (lay s)) = file_exact.back (lay s) [] (sound_fits s h) ∙ ap file.read (append-nil (file.write (lay s))) in
    ap gives (sym B) ∙ past_refusal _ 19 (gives (build (lay s))) (ap not t) ∙ ap taken r

taken_given : (o : Option (Sections × List ℕ)) (s : Saved) → gives s ≡ taken o → (x : Sections) × (some (x, []) ≡ o) × (shaped x ≡ true) × (sound (build x) ≡ true) × (s ≡ build x)
unfolding taken accepted
taken_given none s e = absurd (let z : ◌≡◌ {A = ℕ} 0 1 = cc in omega arith)
taken_given (some p) s e =
    let t = not-false _ (gives_past _ _ _ e) in
    let u = both_right _ _ t in
    let z : [] ≡ p.1 = empty p.1 (eqb-true _ _ (both_left _ _ t)) in
    (p.0, (λ i. some (p.0, z i)), both_left _ _ u, both_right _ _ u, gives_same (gives_rest _ _ _ e))

pub encode_decode : (b : List ℕ) → Octets b → (s : Saved) → gives s ≡ decode b → (sound s ≡ true) × (encode s ≡ b)
unfolding decode encode
encode_decode b o s e =
    let p = taken_given (file.read b) s e in (
      ap sound p.4 ∙ p.3,
      ap (λ y. file.write (lay y)) p.4 ∙ ap file.write (lay_build p.0 p.2) ∙ sym (append-nil (file.write p.0)) ∙ (file_exact.only b o p.0 [] p.1).1,
    )

-- Where sections of a sound state are read, to the last byte, that state is given,
pub decode_some : (b : List ℕ) (x : Sections) → some (x, []) ≡ file.read b → shaped x ≡ true → sound (build x) ≡ true → gives (build x) ≡ decode b
unfolding decode taken accepted
decode_some b x e t u = past_refusal _ 19 (gives (build x)) (ap not (both_yes _ _ refl (both_yes _ _ t u))) ∙ ap taken e

-- and otherwise bytes are refused, by 19 alone.
refused_test : {A : Type 0} (b : Bool) (a : Answer A) → (b ≡ true → ⊥) → refuses 19 ≡ refuse (not b) 19 a
unfolding refuse
refused_test true a h = absurd (h refl)
refused_test false a h = refl

taken_none : (o : Option (Sections × List ℕ)) → ((x : Sections) → some (x, []) ≡ o → shaped x ≡ true → sound (build x) ≡ true → ⊥) → refuses 19 ≡ taken o
unfolding taken accepted
taken_none none h = refl
taken_none (some p) h =
    refused_test (accepted p.0 p.1) (gives (build p.0)) (λ t.
    let z : [] ≡ p.1 = empty p.1 (eqb-true _ _ (both_left _ _ t)) in
    h p.0 (λ i. some (p.0, z i)) (both_left _ _ (both_right _ _ t)) (both_right _ _ (both_right _ _ t)))

pub decode_none : (b : List ℕ) → ((x : Sections) → some (x, []) ≡ file.read b → shaped x ≡ true → sound (build x) ≡ true → ⊥) → refuses 19 ≡ decode b
unfolding decode
decode_none b h = taken_none (file.read b) h

refused_by : {A : Type 0} (b : Bool) (a : A) (n : ℕ) → refuses n ≡ refuse b 19 (gives a) → n ≡ 19
unfolding refuse
refused_by true a n e = cc
refused_by false a n e = absurd (let z : ◌≡◌ {A = ℕ} 0 1 = cc in omega arith)

taken_bad : (o : Option (Sections × List ℕ)) (n : ℕ) → refuses n ≡ taken o → n ≡ 19
unfolding taken
taken_bad none n e = cc
taken_bad (some p) n e = refused_by _ _ n e

pub decode_bad : (b : List ℕ) (n : ℕ) → refuses n ≡ decode b → n ≡ 19
unfolding decode
decode_bad b n e = taken_bad (file.read b) n e
