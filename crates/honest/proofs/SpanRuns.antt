-- Laws of `specs/Span.antt`. Assumes nothing.
use Rattle.std.specs.Prelude.{Bool, true, false, List, ◌≡◌, ℕ, ◌-◌, ◌%◌, ◌≤◌}
use Rattle.std.proofs.Common.{ap, ◌∙◌}
use Rattle.std.proofs.Math.Path.{sym}
use native.Mathlib.Omega.{arith}
use Rattle.refusal.specs.Answer.{Answer, gives, refuses, refuse, pass}
use Rattle.sequence.specs.Numbering.{last_number, wire_values, full, in_range}
use Rattle.sequence.specs.Sending.{sending_by_lem, sync_span}
use Rattle.packet.specs.Packet.{reply_code, wire_of, reply}
use Rattle.model.specs.Client.{Numbers, Client}
use Rattle.model.specs.Model.{Filing, send_request}
use Rattle.model.specs.declared.ReplyFdKind.TheVariants.{NoReply}
use Rattle.model.specs.declared.Place.TheVariants.{Replies}
use Rattle.honest.specs.Run.{Entry, Runs, sends, Wire, Honest}
use Rattle.honest.specs.Rules.{Ruled}
use Rattle.honest.proofs.Calls.{runs_ruled}
use Rattle.honest.specs.Computing.{packet_wire}
use Rattle.honest.specs.Span.{AtEdge, further, Misreckoned, reply_in}
use Rattle.honest.proofs.SpanLaws.{edge_reckoned, one_too_many}

pub one_run : (o : ℕ) (n : Numbers) (l : List Entry) → Ruled o n l → Honest o l → AtEdge sync_span n → Misreckoned sync_span o n l (reply_in o (sends (further l))) (record { place = Replies; number = n.read; class = reply })
one_run o n l r h e =
    let w : Wire o (sends (further l)) (reply_in o (sends (further l))) = packet_wire o reply_code 0 (sends (further l) % wire_values) (omega arith) in
    one_too_many o n l r h e _ w _ (sym (edge_reckoned sync_span (omega arith) o n l r h e (omega arith) _ w))

-- what `send_request` refuses by 6 the rule of sending refuses
by_rule : {A B : Type 0} (a : Answer A) (b : Bool) (g : A → B) → pass a (λ x. refuse b 5 (gives (g x))) ≡ refuses 6 → a ≡ refuses 6
unfolding pass refuse
by_rule (gives x) true g q = absurd (let z : ◌≡◌ {A = ℕ} 5 6 = cc in omega arith)
by_rule (gives x) false g q = absurd (let z : ◌≡◌ {A = ℕ} 0 1 = cc in omega arith)
by_rule (refuses k) b g q = let z : k ≡ 6 = cc in ap refuses z

-- So for the very runs of demand 3, with all calls and rooms: where `send_request` refuses by 6.
module _ {c : Client} {l : List Entry} (r : Runs c l) (h : Honest c.order l) (refused : send_request c NoReply ≡ refuses 6) (level : c.numbers.read ≡ c.numbers.expected) (most : c.numbers.read ≤ last_number - wire_values) where
  pub run_edge : AtEdge sync_span c.numbers
  unfolding send_request
  run_edge = record { refused = sym (sending_by_lem _ _ _) ∙ by_rule _ _ _ refused; level = level; most = most }

  pub run_one_too_many : (p : List ℕ) → Wire c.order (sends (further l)) p → (f : Filing) → gives f.number ≡ in_range (full c.numbers.read (wire_of c.order p)) → Misreckoned sync_span c.order c.numbers l p f
  run_one_too_many = one_too_many c.order c.numbers l (runs_ruled r) h run_edge
