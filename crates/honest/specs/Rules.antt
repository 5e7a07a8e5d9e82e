-- The rules of sending and numbering alone: under them each honest packet gets its true number. Rooms, filing and all other calls are left out. Assumes nothing.
use Rattle.std.specs.Prelude.{Bool, List, [], ◌∷◌, ◌⊎◌, ◌≡◌, ℕ, ◌+◌, ◌≤◌, ◌<◌, max}
use Rattle.refusal.specs.Answer.{gives}
use Rattle.sequence.specs.Numbering.{last_number, wire_values, full, in_range}
use Rattle.sequence.specs.Sending as Sending
use Rattle.sequence.specs.Sending.{sending_by, sync_span}
use Rattle.packet.specs.Packet.{wire_of}
use Rattle.model.specs.Client.{Numbers}
use Rattle.model.specs.Model.{Filing}
use Rattle.honest.specs.Run.{Entry, sent, took, sends, WithReply, Heard, Right}

-- What accepted sends and accepted packets make of the three numbers, on a connection of byte order o, where 6 is given from a span on.
pub data RuledBy (span o : ℕ) : Numbers → List Entry → Type 0 where
  none : RuledBy span o (record { written = 0; expected = 0; read = 0 }) []
  sends_one : {n : Numbers} {l : List Entry} (has-reply : Bool) (x : Sending.Numbers) → gives x ≡ sending_by span n.written n.expected has-reply → RuledBy span o n l
      → RuledBy span o (record { written = x.number; expected = x.expected; read = n.read }) (sent has-reply ∷ l)
  takes_one : {n : Numbers} {l : List Entry} (t : ℕ) (p : List ℕ) (f : Filing) → gives f.number ≡ in_range (full n.read (wire_of o p)) → f.number ≤ n.written → RuledBy span o n l
      → RuledBy span o (record { written = n.written; expected = max n.expected f.number; read = f.number }) (took t p f ∷ l)

-- the rule of sending as it is: from 65,534 on
abbrev pub Ruled : ℕ → Numbers → List Entry → Type 0
Ruled o n l = RuledBy sync_span o n l

-- ---- the invariant

-- a request with a reply at most 65,535 before t
pub record Before (l : List Entry) (t : ℕ) : Type 0 where
  pub q : ℕ
  pub asked : WithReply l q
  pub less : q < t
  pub near : t < q + wire_values

-- `covered` is what carries it: each number further than 65,535 past the last read has a request with a reply closely before it, and it only gets weaker as the last read rises.
pub record Inv (n : Numbers) (l : List Entry) : Type 0 where
  pub counted : n.written ≡ sends l
  pub fits : n.written ≤ last_number
  pub anchor : (n.expected ≤ n.read) ⊎ WithReply l n.expected
  pub last : (n.read ≡ 0) ⊎ Heard l n.read
  pub heard : (u : ℕ) → Heard l u → u ≤ n.read
  pub covered : (t : ℕ) → n.read + wire_values ≤ t → t ≤ n.written → Before l t
  pub right : Right l
