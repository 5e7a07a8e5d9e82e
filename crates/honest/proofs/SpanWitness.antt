-- Laws of `specs/SpanWitness.antt`. Assumes nothing.
use Rattle.std.specs.Prelude.{List, [], ◌∷◌, ◌++◌, ◌≡◌, refl, ℕ, zero, suc, ◌+◌, ◌-◌, ◌%◌, ◌≤◌, ◌<◌, length}
use Rattle.std.proofs.Common.{sym, subst, ◌∙◌, arith, length-append, le-leb}
use Rattle.std.proofs.Math.Decide.{dec_le}
use Rattle.std.proofs.lemmas.Bool.{lt-leb}
use Rattle.refusal.specs.Answer.{gives}
use Rattle.sequence.specs.Numbering.{last_number, wire_values}
use Rattle.sequence.specs.Sending.{sync_span}
use Rattle.requests.specs.declared.Request.{Request}
use Rattle.model.specs.Client.{Numbers}
use Rattle.model.specs.Model.{joining, send_request}
use Rattle.model.specs.declared.ReplyFdKind.TheVariants.{NoReply}
use Rattle.honest.specs.Run.{Entry, Runs, sends, Wire, Honest}
use Rattle.honest.proofs.RulesLaws.{ruled_inv}
use Rattle.honest.proofs.Calls.{runs_ruled}
use Rattle.honest.specs.Computing.{computing, packet_of, send_to}
use Rattle.honest.specs.Witness.{Through, in_replies, rounds}
use Rattle.honest.proofs.Witness.{reply_wire, rounds_sends, rounds_honest, any_length}
use Rattle.honest.specs.Span.{TrueBy, AtEdge, further, Misreckoned}
use Rattle.honest.proofs.SpanLaws.{wider, one_too_many, edge_reckoned}
use Rattle.honest.proofs.SpanRuns.{run_edge}
use Rattle.honest.specs.SpanWitness.{without, standing, Stands}

without_sends : (j : ℕ) (l : List Entry) → sends (without j l) ≡ sends l + j
unfolding without
without_sends zero l = omega arith
without_sends (suc j) l = omega (arith, without_sends j l)

without_honest : (o j : ℕ) (l : List Entry) → Honest o l → Honest o (without j l)
unfolding without
without_honest o zero l h = h
without_honest o (suc j) l h = without_honest o j l h

tells_one : (w n : ℕ) (out : List Request) → w < n + sync_span → w < last_number → length out < 65536 → send_request (standing w n out) NoReply ≡ gives (w + 1, standing (w + 1) n (out ++ (joining NoReply ∷ [])))
unfolding computing
tells_one w n out free fits room = rw (lt-leb last_number w fits, lt-leb (n + sync_span) w free, lt-leb 65536 (length out) room)

-- j of them went out
record Told (n j : ℕ) : Type 0 where
  outstanding : List Request
  many : length outstanding ≤ j + 1
  run : Runs (standing (n + j) n outstanding) (without j (rounds n))

tells : (n j : ℕ) → n ≤ last_number - wire_values → j ≤ sync_span → Told n j
unfolding without
tells n zero h m = go (any_length 65536 n (omega arith) (omega arith))
  where
    go : Through 65536 n → Told n 0
    go t = record { outstanding = t.rest; many = omega (arith, t.short); run = subst (λ w. Runs (standing w n t.rest) (rounds n)) (omega arith) t.run }
tells n (suc j) h m = go (tells n j h (omega arith))
  where
    go : Told n j → Told n (suc j)
    go t =
        let z : n + j + 1 ≡ n + suc j = omega arith in
        let out = t.outstanding in
        let e = tells_one (n + j) n out (omega arith) (omega arith) (omega (arith, t.many)) in
        record { outstanding = out ++ (joining NoReply ∷ []); many = simp length-append (omega (arith, t.many)); run = rw z at (send_to NoReply (n + j + 1) _ e t.run) }

pub stands : (n : ℕ) → n ≤ last_number - wire_values → Stands n
unfolding computing
stands n h = go (tells n 65534 h (omega arith))
  where
    go : Told n 65534 → Stands n
    go t =
        record {
          outstanding = t.outstanding;
          run = t.run;
          honest = without_honest 108 65534 (rounds n) (rounds_honest n);
          refused = rw (lt-leb last_number (n + 65534) (omega arith), le-leb (n + 65534) (n + 65534) (omega arith));
        }

-- ---- What goes wrong there

abbrev numbers_at : ℕ → ℕ → ℕ → Numbers
numbers_at w e r = record { written = w; expected = e; read = r }

wrong_at : (n : ℕ) → n ≤ last_number - wire_values → Misreckoned sync_span 108 (numbers_at (n + 65534) n n) (without 65534 (rounds n)) (packet_of 1 0 (n % wire_values)) (in_replies n)
wrong_at n h = go (stands n h)
  where
    go : Stands n → Misreckoned sync_span 108 (numbers_at (n + 65534) n n) (without 65534 (rounds n)) (packet_of 1 0 (n % wire_values)) (in_replies n)
    go s =
        let t : sends (further (without 65534 (rounds n))) ≡ n + wire_values = omega (arith, without_sends 65534 (rounds n), rounds_sends n) in
        let w : Wire 108 (sends (further (without 65534 (rounds n)))) (packet_of 1 0 (n % wire_values)) = reply_wire n ∙ omega (arith, t) in
        let e : AtEdge sync_span (numbers_at (n + 65534) n n) = run_edge s.run s.honest s.refused refl h in
        let r = runs_ruled s.run in
        one_too_many 108 _ _ r s.honest e _ w (in_replies n) (sym (edge_reckoned sync_span (omega arith) 108 _ _ r s.honest e (omega arith) _ w))

-- On a fresh connection the reply to request 65,536 carries 0, and is reckoned under 0;
pub wrong_fresh : Misreckoned sync_span 108 (numbers_at 65534 0 0) (without 65534 (rounds 0)) (packet_of 1 0 0) (in_replies 0)
wrong_fresh = wrong_at 0 (omega arith)

-- past a wrap, after 65,541 requests that were answered, the reply to 131,077 carries 5, and is reckoned under 65,541.
pub wrong_wrapped : Misreckoned sync_span 108 (numbers_at 131075 65541 65541) (without 65534 (rounds 65541)) (packet_of 1 0 5) (in_replies 65541)
wrong_wrapped = wrong_at 65541 (omega arith)

-- THE RIGHT NUMBER: demand 3 is true with each span up to 65,534, and with no greater one.
pub right_number : (span : ℕ) → (span ≤ sync_span → TrueBy span) × (TrueBy span → span ≤ sync_span)
right_number span = (λ h o n l r k. (ruled_inv (wider h r) k).right, λ holds. elim (dec_le span sync_span) [ yes h ↦ h | no h ↦ absurd (never holds h) ])
  where
    never : TrueBy span → ¬ (span ≤ sync_span) → ⊥
    never holds h = wrong_fresh.wrong (holds _ _ _ (wider (omega arith) wrong_fresh.run) wrong_fresh.honest)
