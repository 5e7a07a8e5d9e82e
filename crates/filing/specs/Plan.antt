-- What is decided about a packet: 01, Numbering and filing, over a state and its request room. Assumes nothing.
use Rattle.std.specs.Prelude.{Bool, List, ℕ, ◌+◌, ◌≤◌, max, leb, ltb, length, Option, Some, None, Result}
use Rattle.octets.specs.Logic.{choose, both}
use Rattle.refusal.specs.Answer.{Answer, gives, refuse, pass, says}
use Rattle.requests.specs.Room.{request_at}
use Rattle.packet.specs.Packet.{least_packet, most_packet, code_of, PacketClass, packet_class, unnumbered, number_after}
use Rattle.packet.specs.Class.{says_class}
use Rattle.held.specs.Head.{most_store, header_size}
use Rattle.held.specs.Reading.{used}
use Rattle.model.specs.Model.{nobody, somebody, place_of, claimed, is_held, Task, task_by, ahead}
use Rattle.model.specs.Model as Model
use Rattle.model.specs.declared.Connection.{Connection}
use Rattle.model.specs.declared.Place.{Place}
use Rattle.filing.specs.declared.Plan.{Plan}
use Rattle.refusal.specs.declared.Refusal.{Refusal}
use Rattle.requests.specs.declared.Request.{Request}

-- ---- what the option and the result say

abbrev pub says_asked : Option Request → Model.Asked
says_asked None = nobody
says_asked (Some r) = somebody r

abbrev pub task : Place → ℕ → ℕ → PacketClass → Task
task place n k class = record { place = place; number = n; claimed = k; class = class }

abbrev pub says_plan : Result Plan Refusal → Answer Task
says_plan = says (λ x. task x.place x.number.0 x.fds (says_class x.class))

-- ---- of the state, what is asked for

-- the window lies in a store of at most 16,777,216 bytes
pub record Fitting (c : Connection) : Type 0 where
  pub order : c.window.start ≤ c.window.end
  pub most : c.window.end ≤ most_store

-- ---- the number

abbrev pub packet_number_in : Connection → List ℕ → Answer ℕ
packet_number_in c p = number_after c.order c.read p

-- "and the next reply expected if that was lower"; a packet that carries no number raises nothing
unfoldable pub raised_to : ℕ → ℕ → ℕ → ℕ
raised_to code n expected = choose (unnumbered code) expected (max expected n)

-- "Then outstanding requests below the number go": the first that stays, or the one that is written next
unfoldable pub first_after : ℕ → ℕ → ℕ → ℕ
first_after first written n = choose (leb n first) first (choose (ltb (written + 1) n) (written + 1) n)

-- once a packet of the code has the number n
abbrev pub numbered_state : Connection → ℕ → ℕ → Connection
numbered_state c code n = record {
  order = c.order;
  capacity = c.capacity;
  room = c.room;
  written = c.written;
  expected = raised_to code n c.expected;
  read = n;
  first = first_after c.first c.written n;
  window = c.window;
  counts = c.counts;
}

-- "The request with that number, if still outstanding", of a number that is not above the last written
unfoldable pub asked_in : Connection → List ℕ → ℕ → Model.Asked
asked_in c q n = choose (ltb n c.first) nobody (somebody (request_at q n))

-- ---- the plan

-- used plus the cost of a packet that is to be held is over S
unfoldable pub over_room : Connection → Place → ℕ → Bool
over_room c place n = both (is_held place) (ltb c.room (used c.window + (header_size + n)))

-- a packet that has its number and whose request is known: 20, 4, 5
unfoldable pub plan_by : Connection → List ℕ → ℕ → Model.Asked → Answer Task
plan_by c p n a =
    refuse (ahead (code_of p) n c.written) 20
    (refuse (ltb c.counts.waiting (claimed p a)) 4
    (refuse (over_room c (place_of (packet_class p) a) (length p)) 5
    (gives (task_by p n a))))

-- 1, 2, 3, 20, 4, 5; otherwise where the packet goes, under which number, with how many descriptors, and its class
unfoldable pub plan_of : Connection → List ℕ → List ℕ → Answer Task
plan_of c q p =
    refuse (ltb (length p) least_packet) 1
    (refuse (ltb most_packet (length p)) 2
    (pass (packet_number_in c p) (λ n. plan_by c p n (asked_in c q n))))
