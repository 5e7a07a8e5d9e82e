-- Laws of `specs/Span.antt`. Assumes nothing.
use Rattle.std.specs.Prelude.{Bool, true, false, List, ◌≡◌, refl, ℕ, ◌+◌, ◌%◌, ◌≤◌, ◌<◌, max}
use Rattle.std.proofs.Common.{inl, inr, ⊎_elim, ◌∙◌}
use Rattle.std.proofs.Math.Decide.{dec_le}
use native.Mathlib.Omega.{arith}
use borrow.Author.Tests.{leb-true, lt-leb, le-ltb}
use Rattle.octets.specs.Logic.{choose, both}
use Rattle.refusal.specs.Answer.{gives, refuses, refuse, gives_same}
use Rattle.sequence.specs.Numbering.{last_number, wire_values, full, in_range}
use Rattle.sequence.proofs.NumberingLaws.{full_near}
use Rattle.sequence.specs.Sending as Sending
use Rattle.sequence.specs.Sending.{sending_by, sync_span}
use Rattle.packet.specs.Packet.{wire_of}
use Rattle.model.specs.Client.{Numbers}
use Rattle.model.specs.Model.{Filing}
use Rattle.honest.specs.Run.{Entry, sends, WithReply, Heard, Wire, Fair, Honest}
use Rattle.honest.specs.Rules.{RuledBy, none, sends_one, takes_one, Ruled, Inv}
use Rattle.honest.proofs.RulesLaws.{given_by, free_by, ruled_ordered, ruled_near, true_range, ruled_inv}
use Rattle.honest.specs.Span.{AtEdge, further, Misreckoned, OneTooMany}

-- ---- 6 under a span

by_six : {A : Type 0} (a b : Bool) (x : A) → refuse a 3 (refuse b 6 (gives x)) ≡ refuses 6 → b ≡ true
unfolding refuse
by_six true b x q = absurd (let z : ◌≡◌ {A = ℕ} 3 6 = cc in omega arith)
by_six false true x q = refl
by_six false false x q = absurd (let z : ◌≡◌ {A = ℕ} 0 1 = cc in omega arith)

-- NEVER EARLIER: 6 is given only where the last written is a span past next reply expected.
pub never_earlier : (span written expected : ℕ) → sending_by span written expected false ≡ refuses 6 → expected + span ≤ written
unfolding sending_by both
never_earlier span written expected q = leb-true _ _ (by_six _ _ _ q)

-- A greater span refuses nothing that a smaller one gives, and gives the same.
wider_send : (s s' w e : ℕ) (b : Bool) (x : Sending.Numbers) → s ≤ s' → gives x ≡ sending_by s w e b → gives x ≡ sending_by s' w e b
unfolding sending_by both
wider_send s s' w e true x h q = q
wider_send s s' w e false x h q =
    let free : w < e + s = free_by s w e q in
    rw (lt-leb (e + s') w (omega arith)) (rw (lt-leb (e + s) w (omega arith)) at q)

pub wider : {s s' o : ℕ} {n : Numbers} {l : List Entry} → s ≤ s' → RuledBy s o n l → RuledBy s' o n l
wider h none = none
wider {s} {s'} h (sends_one {n = n} has-reply x e r) = sends_one has-reply x (wider_send s s' n.written n.expected has-reply x h e) (wider h r)
wider h (takes_one t p f e k r) = takes_one t p f e k (wider h r)

-- At the edge the last written is the span past next reply expected, and no further.
pub edge_written : {span o : ℕ} {n : Numbers} {l : List Entry} → RuledBy span o n l → AtEdge span n → n.written ≡ n.expected + span
edge_written {span} {n = n} r e = omega (arith, never_earlier span n.written n.expected e.refused, ruled_near r)

-- ---- At the edge each request with a reply was answered.

-- Of the requests with a reply none is past next reply expected, and each up to the last read was answered.
record Upto (n : Numbers) (l : List Entry) : Type 0 where
  asked : (q : ℕ) → WithReply l q → q ≤ n.expected
  answered : (q : ℕ) → WithReply l q → q ≤ n.read → Heard l q

upto : {o : ℕ} {n : Numbers} {l : List Entry} → Ruled o n l → Honest o l → Upto n l
unfolding choose
upto none h = record { asked = λ q a. absurd a; answered = λ q a m. absurd a }
upto (sends_one {n = n} {l = l} true x e r) h =
    let k = upto r h in
    let i = ruled_inv r h in
    let w = ruled_ordered r in
    rw (given_by sync_span n.written n.expected true e)
    (record {
      asked = λ q a. ⊎_elim (λ (z : q ≡ sends l + 1). omega (arith, i.counted)) (λ b. omega (arith, k.asked q b, w.expected_most)) a;
      answered = λ q a m. ⊎_elim (λ (z : q ≡ sends l + 1). absurd (omega (arith, i.counted, w.read_most, w.expected_most))) (λ b. k.answered q b m) a;
    })
upto (sends_one {n = n} false x e r) h =
    let k = upto r h in
    rw (given_by sync_span n.written n.expected false e) (record { asked = k.asked; answered = k.answered })
upto {o} (takes_one {n = n} {l = l} t p f e s r) h =
    let k = upto r h.1 in
    let z : f.number ≡ t = gives_same (e ∙ true_range o n l (ruled_inv r h.1) t p h.0) in
    record {
      asked = λ q a. omega (arith, k.asked q a);
      answered = λ q a m. elim (dec_le t q) [ yes y ↦ inl (omega arith) | no y ↦ inr (h.0.answered q a (omega arith)) ];
    }

-- ---- One too many

module _ (span : ℕ) (most : span ≤ sync_span) (o : ℕ) (n : Numbers) (l : List Entry) (r : RuledBy span o n l) (h : Honest o l) (e : AtEdge span n) where
  abbrev inv : Inv n l
  inv = ruled_inv (wider most r) h

  -- The request with a reply is two more than the span past the last read,
  past_read : sends (further l) ≡ n.read + (span + 2)
  past_read = omega (arith, inv.counted, edge_written r e, e.level)

  -- and not past the last number.
  fits : n.written + 2 ≤ last_number
  fits = omega (arith, inv.counted, past_read, e.most)

  lets_one : gives (record { number = n.written + 1; expected = n.expected }) ≡ sending_by (span + 1) n.written n.expected false
  unfolding sending_by refuse both choose
  lets_one = rw (lt-leb last_number n.written (omega (arith, fits)), lt-leb (n.expected + (span + 1)) n.written (omega (arith, edge_written r e)))

  asks_one : gives (record { number = n.written + 2; expected = n.written + 2 }) ≡ sending_by (span + 1) (n.written + 1) n.expected true
  unfolding sending_by refuse both choose
  asks_one =
      let two : n.written + 1 + 1 ≡ n.written + 2 = omega arith in
      rw (lt-leb last_number (n.written + 1) (omega (arith, fits)), two)

  -- The server may send its reply at once.
  fair : (p : List ℕ) → Wire o (sends (further l)) p → Fair o (further l) (sends (further l)) p
  fair p w =
      let k = upto (wider most r) h in
      record {
        wire = w;
        rises = λ u a. omega (arith, inv.heard u a, past_read);
        known = omega arith;
        answered = λ q a less. ⊎_elim (λ (z : q ≡ sends l + 1 + 1). absurd (omega arith)) (λ b. k.answered q b (omega (arith, k.asked q b, e.level))) a;
      }

  -- Two more than the span are a whole round: so the reply's 16 bits are those of the last read.
  module _ (round : wire_values ≤ span + 2) (p : List ℕ) (w : Wire o (sends (further l)) p) where
    pub edge_reckoned : in_range (full n.read (wire_of o p)) ≡ gives n.read
    unfolding in_range refuse
    edge_reckoned =
        let same : wire_of o p ≡ n.read % wire_values = w ∙ omega (arith, past_read) in
        rw (same, full_near n.read n.read (omega arith) (omega arith), le-ltb last_number n.read (omega (arith, fits, inv.counted, past_read)))

    too_many : (f : Filing) → gives f.number ≡ in_range (full n.read (wire_of o p)) → Misreckoned span o n l p f
    too_many f g =
        let z : f.number ≡ n.read = gives_same (g ∙ edge_reckoned) in
        let known : f.number ≤ n.written + 2 = omega (arith, inv.counted, past_read) in
        let m : max (n.written + 2) f.number ≡ n.written + 2 = omega arith in
        let asked = sends_one true _ asks_one (sends_one false _ lets_one (wider (omega arith) r)) in
        record {
          run = rw m at (takes_one (sends (further l)) p f g known asked);
          honest = (fair p w, h);
          reckoned = z;
          low = omega (arith, past_read);
          wrong = λ k. omega (arith, past_read, k.0);
        }

-- ONE TOO MANY, by the rules as they are.
pub one_too_many : OneTooMany sync_span
one_too_many o n l r h e = too_many sync_span (omega arith) o n l r h e (omega arith)
