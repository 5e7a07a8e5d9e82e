-- A packet taken in, refusal by refusal. Assumes nothing.
use Rattle.std.specs.Prelude.{List, ℕ, ◌+◌, ltb, length}
use Rattle.octets.specs.Logic.{both}
use Rattle.refusal.specs.Answer.{Answer, gives, refuse}
use Rattle.packet.specs.Packet.{code_of, packet_class}
use Rattle.held.specs.Head.{header_size}
use Rattle.model.specs.Client.{Client, used}
use Rattle.model.specs.Model.{Asked, place_of, claimed, is_held, Filing, task_by, ahead, take_in}

-- a packet that has its number and whose request is known: 4, 5, or it is taken in;
abbrev pub fitted_by : Client → List ℕ → ℕ → Asked → Answer (Filing × Client)
fitted_by c p n a =
    refuse (ltb (length c.waiting) (claimed p a)) 4
    (refuse (both (is_held (place_of (packet_class p) a)) (ltb c.most_bytes (used c + (header_size + length p)))) 5
    (gives (take_in c p (task_by p n a))))

-- 20 before that
abbrev pub filed_by : Client → List ℕ → ℕ → Asked → Answer (Filing × Client)
filed_by c p n a = refuse (ahead (code_of p) n c.numbers.written) 20 (fitted_by c p n a)
