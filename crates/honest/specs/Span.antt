-- IS 65,534 THE RIGHT NUMBER? (02, M-111) It is the greatest with which demand 3 is true. Over the rules of sending and numbering alone: rooms are left out. Assumes nothing.
use Rattle.std.specs.Prelude.{true, false, List, ◌∷◌, ◌≡◌, ℕ, ◌+◌, ◌-◌, ◌%◌, ◌≤◌}
use Rattle.refusal.specs.Answer.{gives, refuses}
use Rattle.sequence.specs.Numbering.{last_number, wire_values, full, in_range}
use Rattle.sequence.specs.Sending.{sending_by}
use Rattle.packet.specs.Packet.{reply_code, wire_of}
use Rattle.model.specs.Client.{Numbers}
use Rattle.model.specs.Model.{Filing}
use Rattle.honest.specs.Run.{Entry, sent, took, sends, Wire, Honest, Right}
use Rattle.honest.specs.Rules.{RuledBy}
use Rattle.honest.specs.Computing.{packet_in}

-- ---- What is claimed

-- Demand 3 over these rules, where 6 is given from a span on: log, premises and conclusion are those of `true_numbers`, whose runs keep the rules with 65,534 (`runs_ruled`).
abbrev pub TrueBy : ℕ → Type 0
TrueBy span = (o : ℕ) (n : Numbers) (l : List Entry) → RuledBy span o n l → Honest o l → Right l

-- "where 6 is given and the last read equals the next reply expected", "for last reads of at most 2^63 - 1 - 65,536"
pub record AtEdge (span : ℕ) (n : Numbers) : Type 0 where
  pub refused : sending_by span n.written n.expected false ≡ refuses 6
  pub level : n.read ≡ n.expected
  pub most : n.read ≤ last_number - wire_values

-- "the extra request goes out, then one with a reply",
abbrev pub further : List Entry → List Entry
further l = sent true ∷ sent false ∷ l

-- "whose reply is the next packet": p, of which the engine says f. Its true number is that of the last request.
abbrev pub longer : List Entry → List ℕ → Filing → List Entry
longer l p f = took (sends (further l)) p f ∷ further l

-- A rule that lets one request more through makes this a run; it meets every premise of demand 3; and p is reckoned under the last read, 65,536 below its true number.
pub record Misreckoned (span o : ℕ) (n : Numbers) (l : List Entry) (p : List ℕ) (f : Filing) : Type 0 where
  pub run : RuledBy (span + 1) o (record { written = n.written + 2; expected = n.written + 2; read = f.number }) (longer l p f)
  pub honest : Honest o (longer l p f)
  pub reckoned : f.number ≡ n.read
  pub low : f.number + wire_values ≡ sends (further l)
  pub wrong : Right (longer l p f) → ⊥

-- So from each state at the edge that a run with an honest server can reach, whatever reply comes, and whatever the rule of numbering lets the engine say of it.
abbrev pub OneTooMany : ℕ → Type 0
OneTooMany span =
    (o : ℕ) (n : Numbers) (l : List Entry) → RuledBy span o n l → Honest o l → AtEdge span n
    → (p : List ℕ) → Wire o (sends (further l)) p → (f : Filing) → gives f.number ≡ in_range (full n.read (wire_of o p)) → Misreckoned span o n l p f

-- There is such a reply in either byte order, so that from each such state there is a run.
abbrev pub reply_in : ℕ → ℕ → List ℕ
reply_in o t = packet_in o reply_code 0 (t % wire_values)
