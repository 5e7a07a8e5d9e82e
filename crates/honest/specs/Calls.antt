-- Each call of the model keeps the rules: of a run's state the byte order and the three numbers are what sending and numbering alone make of them. Assumes nothing.
use Rattle.std.specs.Prelude.{false, List, ◌≡◌, ℕ, ◌≤◌, max, drop}
use Rattle.refusal.specs.Answer.{Answer, gives, refuses}
use Rattle.sequence.specs.Numbering.{full, in_range}
use Rattle.model.specs.Client.{Client, set_waiting}
use Rattle.packet.specs.Packet.{code_of, wire_of, packet_class}
use Rattle.model.specs.Model.{packet_number, numbered, asked_of, place_of, claimed, filed, Filing, ahead}
use Rattle.honest.specs.Run.{held_as}

-- ---- calls that touch neither byte order nor numbers

abbrev pub Still : Client → Client → Type 0
Still c c' = (c'.order ≡ c.order) × (c'.numbers ≡ c.numbers)

abbrev pub Keeps : {A : Type 0} → Client → Answer (A × Client) → Type 0
Keeps c (gives x) = Still c x.1
Keeps c (refuses n) = Unit {0}

-- the state once a packet has its number and its descriptors
abbrev pub counted_as : Client → List ℕ → ℕ → Client
counted_as c p n = set_waiting (numbered c p n) (drop (claimed p (asked_of c n)) c.waiting)

-- What an accepted packet comes to: under its number n it is taken in and filed.
pub record Taking (c : Client) (p : List ℕ) (x : Filing × Client) : Type 0 where
  pub n : ℕ
  pub number_is : gives n ≡ packet_number c p
  pub asked_is : ahead (code_of p) n c.numbers.written ≡ false
  pub filing_is : x.0 ≡ record { place = place_of (packet_class p) (asked_of c n); number = n; class = packet_class p }
  pub next_is : x.1 ≡ filed (place_of (packet_class p) (asked_of c n)) (held_as c p n) (counted_as c p n)

-- What that makes of the numbers: one that carries a number follows the rule of numbering,
pub record Counted (c : Client) (p : List ℕ) (x : Filing × Client) : Type 0 where
  pub order_is : x.1.order ≡ c.order
  pub number_is : gives x.0.number ≡ in_range (full c.numbers.read (wire_of c.order p))
  pub sent_is : x.0.number ≤ c.numbers.written
  pub numbers_is : x.1.numbers ≡ record { written = c.numbers.written; expected = max c.numbers.expected x.0.number; read = x.0.number }
