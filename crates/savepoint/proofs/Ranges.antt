-- Laws of `specs/Ranges.antt`. Assumes nothing.
use Rattle.std.specs.Prelude.{◌≡◌, true, ℕ}
use Rattle.std.proofs.Math.Path.{refl, sym, ap}
use mathlib.Core.List.{List, [], ◌∷◌}
use native.Mathlib.Omega.{arith}
use Rattle.std.proofs.Math.ListN.{length, length-append}
use borrow.Author.Tests.{leb-true, ltb-true, eqb-true, le-leb, lt-ltb, eq-eqb}
use Rattle.octets.specs.Logic.{both_left, both_right, both_yes}
use Rattle.sequence.specs.Numbering.{last_number}
use Rattle.packet.specs.Packet.{least_packet, most_packet}
use Rattle.packet_reader.specs.Reader as Reader
use Rattle.requests.specs.Room.{requests_most}
use Rattle.held.specs.Head.{most_store}
use Rattle.model.specs.Client.{Held, Client, used, inside, descriptors_of}
use Rattle.model.specs.Model.{least_store}
use Rattle.model.specs.Batch.{Each}
use Rattle.model.specs.Encoding.{ReplyFits, EventFits, NeverFall, InRange}
use Rattle.form.specs.Form.{each}
use Rattle.savepoint.proofs.Items.{empty}
use Rattle.savepoint.specs.Saved.{Partial, target, held_fits, never_fall, in_numbers, in_range, sound_partial}
use Rattle.savepoint.specs.Ranges.{HeldFits, Numbered, PartialFits}

module _ (last : ℕ) where
  pub held_is : (h : Held) → held_fits last h ≡ true → HeldFits last h
  unfolding held_fits
  held_is h e =
      let a = both_right _ _ e in let b = both_right _ _ a in
      record { least = leb-true _ _ (both_left _ _ e); most = leb-true _ _ (both_left _ _ a); known = leb-true _ _ (both_left _ _ b); bare = eqb-true _ _ (both_right _ _ b) }

  pub is_held : (h : Held) → HeldFits last h → held_fits last h ≡ true
  unfolding held_fits
  is_held h f =
      both_yes _ _ (le-leb least_packet _ f.least) (both_yes _ _ (le-leb _ most_packet f.most) (both_yes _ _ (le-leb h.number last f.known) (eq-eqb (length h.descriptors) 0 f.bare)))

  pub replies_is : (l : List Held) → each (held_fits last) l ≡ true → Each (ReplyFits last) l × (length (descriptors_of l) ≡ 0)
  unfolding each descriptors_of
  replies_is [] h = (tt, refl)
  replies_is (x ∷ l) h =
      let f = held_is x (both_left _ _ h) in let r = replies_is l (both_right _ _ h) in
      ((record { least = f.least; most = f.most; known = f.known; descriptors = omega (arith, f.bare) }, r.0), omega (arith, f.bare, r.1, length-append x.descriptors (descriptors_of l)))

  pub is_replies : (l : List Held) → Each (ReplyFits last) l → length (descriptors_of l) ≡ 0 → each (held_fits last) l ≡ true
  unfolding each descriptors_of
  is_replies [] p e = refl
  is_replies (x ∷ l) p e =
      let k = length-append x.descriptors (descriptors_of l) in
      both_yes _ _ (is_held x (record { least = p.0.least; most = p.0.most; known = p.0.known; bare = omega arith })) (is_replies l p.1 (omega arith))

  pub events_is : (l : List Held) → each (held_fits last) l ≡ true → Each (EventFits last) l
  unfolding each
  events_is [] h = tt
  events_is (x ∷ l) h =
      let f = held_is x (both_left _ _ h) in
      (record { least = f.least; most = f.most; known = f.known; descriptors = sym (empty x.descriptors f.bare) }, events_is l (both_right _ _ h))

  pub is_events : (l : List Held) → Each (EventFits last) l → each (held_fits last) l ≡ true
  unfolding each
  is_events [] p = refl
  is_events (x ∷ l) p = both_yes _ _ (is_held x (record { least = p.0.least; most = p.0.most; known = p.0.known; bare = bareness p.0.descriptors })) (is_events l p.1)
    where
      bareness : {l : List ℕ} → l ≡ [] → length l ≡ 0
      bareness e = ap length e

falls_is : (from : ℕ) (l : List Held) → never_fall from l ≡ true → NeverFall from l
unfolding never_fall
falls_is from [] e = tt
falls_is from (h ∷ l) e = (leb-true _ _ (both_left _ _ e), falls_is h.number l (both_right _ _ e))

is_falls : (from : ℕ) (l : List Held) → NeverFall from l → never_fall from l ≡ true
unfolding never_fall
is_falls from [] e = refl
is_falls from (h ∷ l) e = both_yes _ _ (le-leb from h.number e.0) (is_falls h.number l e.1)

pub numbers_are : (m : Client) → in_numbers m ≡ true → Numbered m
unfolding in_numbers
numbers_are m h =
    let a = both_right _ _ h in let b = both_right _ _ a in let c = both_right _ _ b in let d = both_right _ _ c in
    let e = both_right _ _ d in let f = both_right _ _ e in let g = both_right _ _ f in let i = both_right _ _ g in
    record {
      order = both_left _ _ h;
      requests_least = leb-true _ _ (both_left _ _ a);
      requests_most_lem = leb-true _ _ (both_left _ _ b);
      store_least = leb-true _ _ (both_left _ _ c);
      store_most = leb-true _ _ (both_left _ _ d);
      written_most = leb-true _ _ (both_left _ _ e);
      expected_most = leb-true _ _ (both_left _ _ f);
      read_most = leb-true _ _ (both_left _ _ g);
      run_from_one = leb-true _ _ (both_left _ _ i);
      run_most = leb-true _ _ (both_right _ _ i);
    }

pub are_numbers : (m : Client) → Numbered m → in_numbers m ≡ true
unfolding in_numbers
are_numbers m n =
    both_yes _ _ n.order
    (both_yes _ _ (le-leb 1 m.most_requests n.requests_least)
    (both_yes _ _ (le-leb m.most_requests requests_most n.requests_most_lem)
    (both_yes _ _ (le-leb least_store m.most_bytes n.store_least)
    (both_yes _ _ (le-leb m.most_bytes most_store n.store_most)
    (both_yes _ _ (le-leb m.numbers.written last_number n.written_most)
    (both_yes _ _ (le-leb m.numbers.expected last_number n.expected_most)
    (both_yes _ _ (le-leb m.numbers.read last_number n.read_most)
    (both_yes _ _ (le-leb (length m.outstanding) m.numbers.written n.run_from_one) (le-leb (length m.outstanding) m.most_requests n.run_most)))))))))

-- THE SENTENCE: the test holds exactly where the client is in range and no descriptor is inside.
pub range_is : (m : Client) → in_range m ≡ true → InRange m × (inside m ≡ 0)
unfolding in_range
range_is m h =
    let n = numbers_are m (both_left _ _ h) in
    let a = both_right _ _ h in let b = both_right _ _ a in let c = both_right _ _ b in let d = both_right _ _ c in let e = both_right _ _ d in
    let r = replies_is m.numbers.read m.replies (both_left _ _ a) in
    let w : length m.waiting ≡ 0 = eqb-true _ _ (both_left _ _ e) in
    let z : length m.closing ≡ 0 = eqb-true _ _ (both_right _ _ e) in
    let i : inside m ≡ 0 = omega (arith, r.1) in (
      record {
        order = n.order;
        requests_least = n.requests_least;
        requests_most_lem = n.requests_most_lem;
        store_least = n.store_least;
        store_most = n.store_most;
        written_most = n.written_most;
        expected_most = n.expected_most;
        read_most = n.read_most;
        run_from_one = n.run_from_one;
        run_most = n.run_most;
        replies = r.0;
        events = events_is m.numbers.read m.events (both_left _ _ b);
        replies_never_fall = falls_is 0 m.replies (both_left _ _ c);
        used_most = leb-true _ _ (both_left _ _ d);
        descriptors_most = omega (arith, i);
      },
      i,
    )

pub is_range : (m : Client) → InRange m → inside m ≡ 0 → in_range m ≡ true
unfolding in_range
is_range m I z =
    both_yes _ _
    (are_numbers m (record {
      order = I.order;
      requests_least = I.requests_least;
      requests_most_lem = I.requests_most_lem;
      store_least = I.store_least;
      store_most = I.store_most;
      written_most = I.written_most;
      expected_most = I.expected_most;
      read_most = I.read_most;
      run_from_one = I.run_from_one;
      run_most = I.run_most;
    }))
    (both_yes _ _ (is_replies m.numbers.read m.replies I.replies (omega arith))
    (both_yes _ _ (is_events m.numbers.read m.events I.events)
    (both_yes _ _ (is_falls 0 m.replies I.replies_never_fall)
    (both_yes _ _ (le-leb (used m) m.most_bytes I.used_most) (both_yes _ _ (eq-eqb (length m.waiting) 0 (omega arith)) (eq-eqb (length m.closing) 0 (omega arith)))))))

pub partial_is : (p : Partial) → sound_partial p ≡ true → PartialFits p
unfolding sound_partial Reader.room
partial_is p h =
    let a = both_right _ _ h in let b = both_right _ _ a in
    record {
      least = leb-true _ _ (both_left _ _ (both_left _ _ h));
      most = leb-true _ _ (both_right _ _ (both_left _ _ h));
      order = both_left _ _ a;
      fits = leb-true _ _ (both_left _ _ b);
      waits = ltb-true _ _ (both_right _ _ b);
    }

pub is_partial : (p : Partial) → PartialFits p → sound_partial p ≡ true
unfolding sound_partial Reader.room
is_partial p f =
    both_yes _ _ (both_yes _ _ (le-leb least_packet p.room f.least) (le-leb p.room most_packet f.most))
    (both_yes _ _ f.order (both_yes _ _ (le-leb (target p) p.room f.fits) (lt-ltb (length p.filled) (target p) f.waits)))
