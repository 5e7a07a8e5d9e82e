-- Laws of `specs/Rules.antt`. Assumes nothing.
use Rattle.std.specs.Prelude.{Bool, List, [], ◌∷◌, ◌≡◌, refl, ℕ, ◌+◌, ◌≤◌, ◌<◌, max}
use Rattle.std.proofs.Math.Bool.{true, false}
use Rattle.std.proofs.Common.{inl, inr, ⊎_elim, ap, ◌∙◌, arith}
use Rattle.std.proofs.Math.Decide.{dec_le}
use borrow.Author.Tests.{leb-false, lt-leb, le-ltb}
use Rattle.octets.specs.Logic.{choose, both}
use Rattle.refusal.specs.Answer.{gives, refuse, gives_past, gives_rest, gives_same}
use Rattle.sequence.specs.Numbering.{last_number, wire_values, full, in_range}
use Rattle.sequence.proofs.NumberingLaws.{full_near}
use Rattle.sequence.specs.Sending as Sending
use Rattle.sequence.specs.Sending.{sending, sending_by, must_sync, sync_span}
use Rattle.packet.specs.Packet.{wire_of}
use Rattle.model.specs.Client.{Numbers}
use Rattle.model.specs.Model.{Filing}
use Rattle.honest.specs.Run.{Entry, sent, took, WithReply, Fair, Honest, Ordered}
use Rattle.honest.specs.Rules.{RuledBy, none, sends_one, takes_one, Ruled, Before, Inv}

-- FREED: once a request with a reply was sent, no sync is asked for.
pub sync_frees : (w e : ℕ) (x : Sending.Numbers) → gives x ≡ sending w e true → must_sync x.number x.expected ≡ false
unfolding sending must_sync choose both
sync_frees w e x q =
    let g = gives_same (gives_rest _ 6 _ (gives_rest _ 3 _ q)) in
    let n : x.number ≡ w + 1 = ap (λ y. y.number) g in
    let m = ap (λ y. y.expected) g in
    lt-leb (x.expected + sync_span) x.number (omega (arith, n, m))

-- what the rule gives, and where it gives it to a request without a reply
pub given_by : (span w e : ℕ) (b : Bool) {x : Sending.Numbers} → gives x ≡ sending_by span w e b → x ≡ record { number = w + 1; expected = choose b (w + 1) e }
unfolding sending_by
given_by span w e b q = gives_same (gives_rest _ 6 _ (gives_rest _ 3 _ q))

pub free_by : (span w e : ℕ) {x : Sending.Numbers} → gives x ≡ sending_by span w e false → w < e + span
unfolding sending_by both
free_by span w e q = leb-false _ _ (gives_past _ 6 _ (gives_rest _ 3 _ q))

-- ---- with any server

-- ORDERED, whatever packets come: one that is ahead is not taken in.
pub ruled_ordered : {span o : ℕ} {n : Numbers} {l : List Entry} → RuledBy span o n l → Ordered n
unfolding choose
ruled_ordered none = record { read_most = omega arith; expected_most = omega arith }
ruled_ordered {span} (sends_one {n = n} has-reply x e r) = rw (given_by span n.written n.expected has-reply e) (go has-reply (ruled_ordered r))
  where
    go : (b : Bool) → Ordered n → Ordered (record { written = n.written + 1; expected = choose b (n.written + 1) n.expected; read = n.read })
    go true w = record { read_most = omega (arith, w.read_most, w.expected_most); expected_most = omega arith }
    go false w = record { read_most = w.read_most; expected_most = omega (arith, w.expected_most) }
ruled_ordered (takes_one t p f e h r) = let w = ruled_ordered r in record { read_most = omega arith; expected_most = omega (arith, h, w.expected_most) }

-- NEAR: the last written is at most a span past next reply expected.
pub ruled_near : {span o : ℕ} {n : Numbers} {l : List Entry} → RuledBy span o n l → n.written ≤ n.expected + span
unfolding choose
ruled_near none = omega arith
ruled_near {span} (sends_one {n = n} true x e r) = rw (given_by span n.written n.expected true e) (omega arith)
ruled_near {span} (sends_one {n = n} false x e r) = rw (given_by span n.written n.expected false e) (omega (arith, free_by span n.written n.expected e))
ruled_near (takes_one t p f e h r) = omega (arith, ruled_near r)

-- it holds at the start
pub inv_start : Inv (record { written = 0; expected = 0; read = 0 }) []
inv_start =
    record {
      counted = refl;
      fits = omega arith;
      anchor = inl (omega arith);
      last = inl refl;
      heard = λ u h. absurd h;
      covered = λ t p q. absurd (omega arith);
      right = tt;
    }

asked_more : (e : Entry) (l : List Entry) (q : ℕ) → WithReply l q → WithReply (e ∷ l) q
asked_more (sent true) l q a = inr a
asked_more (sent false) l q a = a
asked_more (took t p f) l q a = a

before_more : (e : Entry) {l : List Entry} {t : ℕ} → Before l t → Before (e ∷ l) t
before_more e {l} b = record { q = b.q; asked = asked_more e l b.q b.asked; less = b.less; near = b.near }

module _ (o : ℕ) (n : Numbers) (l : List Entry) (i : Inv n l) where
  -- An honest packet is at most 65,535 past the last read: else a request with a reply stands between.
  near_read : (t : ℕ) (p : List ℕ) → Fair o l t p → t < n.read + wire_values
  near_read t p f = elim (dec_le (n.read + wire_values) t) [ yes far ↦ absurd (never far) | no near ↦ omega arith ]
    where
      never : n.read + wire_values ≤ t → ⊥
      never far =
          let b : Before l t = i.covered t far (omega (arith, f.known, i.counted)) in
          omega (arith, i.heard b.q (f.answered b.q b.asked (omega (arith, b.less))), b.near)

  past_read : (t : ℕ) (p : List ℕ) → Fair o l t p → n.read ≤ t
  past_read t p f = ⊎_elim (λ z. omega arith) (λ h. omega (arith, f.rises n.read h)) i.last

  -- So the least number at or above the last read is the true one,
  pub full_true : (t : ℕ) (p : List ℕ) → Fair o l t p → full n.read (wire_of o p) ≡ t
  full_true t p f = rw f.wire (full_near n.read t (past_read t p f) (omega (arith, near_read t p f)))

  -- and it is never past the last number.
  pub true_range : (t : ℕ) (p : List ℕ) → Fair o l t p → in_range (full n.read (wire_of o p)) ≡ gives t
  unfolding in_range refuse
  true_range t p f =
      let e : t ≤ last_number = omega (arith, f.known, i.counted, i.fits) in
      rw (full_true t p f, le-ltb last_number t e)

  -- What an accepted honest packet comes to:
  inv_took : (t : ℕ) (p : List ℕ) (f : Filing) → Fair o l t p → f.number ≡ t
      → Inv (record { written = n.written; expected = max n.expected f.number; read = f.number }) (took t p f ∷ l)
  inv_took t p f fair e =
      let up : n.read ≤ t = past_read t p fair in
      let known : t ≤ n.written = omega (arith, fair.known, i.counted) in
      record {
        counted = i.counted;
        fits = i.fits;
        anchor = elim (dec_le n.expected f.number) [ yes h ↦ inl (omega arith) | no h ↦ inr (still up h) ];
        last = inr (inl e);
        heard = λ u h. ⊎_elim (λ (z : u ≡ t). omega arith) (λ h'. omega (arith, i.heard u h')) h;
        covered = λ t' far h. before_more _ (i.covered t' (omega arith) h);
        right = (e, i.right);
      }
    where
      still : n.read ≤ t → ¬ (n.expected ≤ f.number) → WithReply l (max n.expected f.number)
      still up h =
          let m : max n.expected f.number ≡ n.expected = omega arith in
          ⊎_elim (λ (le : n.expected ≤ n.read). absurd (omega arith)) (λ a. rw m a) i.anchor

-- ---- a send

module _ (n : Numbers) (l : List Entry) (i : Inv n l) (w : Ordered n) (near : n.written ≤ n.expected + sync_span) where
  -- The request that is sent next is at most 65,535 past a request with a reply, or past the last read.
  covered_next : (t : ℕ) → n.read + wire_values ≤ t → t ≤ n.written + 1 → Before l t
  covered_next t far p = elim (dec_le t n.written) [ yes q ↦ i.covered t far q | no new ↦ here new ]
    where
      here : ¬ (t ≤ n.written) → Before l t
      here new =
          ⊎_elim
          (λ (le : n.expected ≤ n.read). absurd (omega (arith, near)))
          (λ a. record { q = n.expected; asked = a; less = omega (arith, w.expected_most); near = omega (arith, near) })
          i.anchor

  asks : n.written < last_number → Inv (record { written = n.written + 1; expected = n.written + 1; read = n.read }) (sent true ∷ l)
  asks fits =
      record {
        counted = omega (arith, i.counted);
        fits = omega arith;
        anchor = inr (inl (omega (arith, i.counted)));
        last = i.last;
        heard = i.heard;
        covered = λ t far p. before_more _ (covered_next t far p);
        right = i.right;
      }

  tells : n.written < last_number → Inv (record { written = n.written + 1; expected = n.expected; read = n.read }) (sent false ∷ l)
  tells fits =
      record {
        counted = omega (arith, i.counted);
        fits = omega arith;
        anchor = i.anchor;
        last = i.last;
        heard = i.heard;
        covered = λ t far p. before_more _ (covered_next t far p);
        right = i.right;
      }

  -- what an accepted send comes to
  inv_sent : (has-reply : Bool) (x : Sending.Numbers) → gives x ≡ sending_by sync_span n.written n.expected has-reply
      → Inv (record { written = x.number; expected = x.expected; read = n.read }) (sent has-reply ∷ l)
  unfolding sending_by choose
  inv_sent true x e = rw (given_by sync_span n.written n.expected true e) (asks (leb-false _ _ (gives_past _ 3 _ e)))
  inv_sent false x e = rw (given_by sync_span n.written n.expected false e) (tells (leb-false _ _ (gives_past _ 3 _ e)))

-- THE INVARIANT holds with an honest server, however long the run.
pub ruled_inv : {o : ℕ} {n : Numbers} {l : List Entry} → Ruled o n l → Honest o l → Inv n l
ruled_inv none h = inv_start
ruled_inv (sends_one {n = n} {l = l} has-reply x e r) h = inv_sent n l (ruled_inv r h) (ruled_ordered r) (ruled_near r) has-reply x e
ruled_inv {o} (takes_one {n = n} {l = l} t p f e s r) h =
    let i = ruled_inv r h.1 in
    inv_took o n l i t p f h.0 (gives_same (e ∙ true_range o n l i t p h.0))
