-- How a send comes out: what would be sent, and the whole step. Assumes nothing.
use Rattle.std.specs.Prelude.{◌≡◌, Bool, List, ℕ, ◌≤◌, ◌<◌, leb, Ok, Err}
use Rattle.std.proofs.Math.Path.{ap}
use Rattle.std.proofs.Common.{◌∙◌, le-leb}
use Rattle.std.proofs.lemmas.Bool.{lt-leb}
use Rattle.refusal.specs.Answer.{Answer, gives, refuses, given_refusal, past_refusal, refuse, pass}
use Rattle.sequence.specs.Sending.{Numbers, sending}
use Rattle.model.specs.Model.{has_reply}
use Rattle.model.specs.Reading.{rooms, count}
use Rattle.model.specs.Promise.{answer_of, rooms_of, exact_refused, same}
use Rattle.refusal.specs.Numbers.{number_of}
use Rattle.refusal.specs.declared.Refusal.{Refusal}
use Rattle.model.specs.declared.Connection.{Connection}
use Rattle.model.specs.declared.ReplyFdKind.{ReplyFdKind}
use Rattle.sending.specs.Send.{sendable, sent_done, send_exact, GoesUnder, SendStep}

-- ---- what would be sent

module _ (c : Connection) (kind : ReplyFdKind) (hr : Bool) (h : hr ≡ has_reply kind) where
  by_rule : (a : Answer Numbers) → a ≡ sending c.written c.expected hr → pass a (λ n. refuse (leb c.capacity (count c)) 5 (gives n)) ≡ sendable c kind
  unfolding sendable
  by_rule a e = ap (λ (x : Answer Numbers). pass x (λ n. refuse (leb c.capacity (count c)) 5 (gives n))) (e ∙ ap (sending c.written c.expected) h)

  -- The rule of sending refuses it,
  pub going_refused : (n : ℕ) → refuses n ≡ sending c.written c.expected hr → refuses n ≡ sendable c kind
  unfolding pass
  going_refused n e = by_rule (refuses n) e

  -- the room is full,
  pub going_full : (x : Numbers) → gives x ≡ sending c.written c.expected hr → c.capacity ≤ count c → refuses 5 ≡ sendable c kind
  unfolding pass
  going_full x e g = given_refusal _ 5 (gives x) (le-leb _ _ g) ∙ by_rule (gives x) e

  -- or it may go.
  pub going_under : (x : Numbers) → gives x ≡ sending c.written c.expected hr → count c < c.capacity → gives x ≡ sendable c kind
  unfolding pass
  going_under x e g = past_refusal _ 5 (gives x) (lt-leb _ _ g) ∙ by_rule (gives x) e

-- ---- the whole step

module _ (c : Connection) (kind : ReplyFdKind) (q : List ℕ) where
  -- It is refused,
  pub send_refused : (r : Refusal) → refuses (number_of r) ≡ sendable c kind → SendStep c kind q (Err r) q
  unfolding send_exact pass
  send_refused r e = record { exact = λ s f. exact_refused same _ _ (number_of r) (ap (λ a. pass a (λ n. gives (sent_done c (rooms q s f) kind n))) e) }

  -- or it goes.
  pub send_done : (x : Numbers) (q' : List ℕ) (next : Connection) → gives x ≡ sendable c kind → GoesUnder c kind x.number x.expected q next q'
      → SendStep c kind q (Ok (record { number = (record { 0 = x.number }); connection = next })) q'
  unfolding send_exact pass answer_of rooms_of
  send_done x q' next e g =
      record {
        exact = λ s f.
            let E : gives (sent_done c (rooms q s f) kind x) ≡ send_exact c (rooms q s f) kind = ap (λ a. pass a (λ n. gives (sent_done c (rooms q s f) kind n))) e in
            record {
              answers = (λ z. gives (x.number, g.state z)) ∙ ap (answer_of same) E;
              leaves = (λ z. rooms (g.requests z) s f) ∙ ap (λ y. rooms_of y (rooms q s f)) E;
            };
      }
