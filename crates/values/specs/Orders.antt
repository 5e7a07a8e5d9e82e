-- 01, Refusal numbers: where two refusals apply, the first of the order is given. Of a handshake `connect` says so, and of a connection `model`. And the two byte orders. Assumes nothing.
use Rattle.std.specs.Prelude.{◌≡◌, refl, false, List, [], ◌∷◌, ℕ, ◌≤◌, ◌<◌, length, replicate}
use Rattle.std.proofs.Common.{arith, le-ltb, lt-ltb}
use Rattle.refusal.specs.Answer.{Answer, gives, refuses, refuse, after}
use Rattle.octets.specs.Logic.{choose, both, either}
use Rattle.octets.specs.Bytes.{legal, low_bytes, bytes_of, number_in, low_number, turned}
use Rattle.octets.specs.Put.{cut}
use Rattle.octets.specs.Field.{field}
use Rattle.sequence.specs.Sending.{sending, must_sync}
use Rattle.x11_utils.specs.Packet.{checked}
use Rattle.id_allocator.specs.Ids.{power_below, sound, no_ids, generated, updated}
use Rattle.id_allocator.specs.declared.IdAllocator.{IdAllocator}
use Rattle.xc_misc.specs.Requests.{room_for}
use Rattle.xc_misc.specs.Replies.{list_of, reaches, units_checked, reply_checked, list_checked, list}
use Rattle.packet.specs.Packet.{was_sent, class_of}
use Rattle.packet_reader.specs.Frame.{length_as, total_of, aim}
use Rattle.packet_reader.specs.Reader as Reader

-- 32 bytes that begin with a code, write a length in units and, as a list of ids does, a count; least significant byte first
abbrev packet : ℕ → ℕ → ℕ → List ℕ
packet code units count = code ∷ 0 ∷ 0 ∷ 0 ∷ units ∷ 0 ∷ 0 ∷ 0 ∷ count ∷ replicate 23 0

-- an allocator that is not sound and has no id left
abbrev unsound : IdAllocator
unsound = record { next = 4; last = 0; step = 3 }

-- which refusal an answer is
abbrev Gets : {A : Type 0} → Answer A → ℕ → Type 0
Gets a n = a ≡ refuses n

-- "send 9, 3, 6, 5": 3 and 6 here
pub sends : Gets (sending 9223372036854775807 0 false) 3
unfolding sending must_sync refuse both
sends = refl

-- "range 9, 11, 12": 11 and 12 never apply at once
pub ids : Gets (generated unsound) 9 × Gets (updated unsound 0 1) 9 × Gets (updated unsound 4294967295 2) 9
unfolding generated updated sound power_below no_ids refuse both either
ids = (refl, refl, refl)

-- "XC-MISC replies 1, 2, 13, 14, 8", and so for every packet whose fields are read
pub replies : Gets (checked 0 [] 1) 1 × Gets (checked 0 (packet 0 0 0) 1) 13 × Gets (checked 108 (packet 0 0 0) 1) 14 × Gets (list 0 (packet 1 9 9) 0) 13 × Gets (list 108 (packet 1 9 1) 0) 14 × Gets (list 108 (packet 1 0 1) 0) 14
unfolding checked list list_of reaches units_checked reply_checked list_checked after legal field number_in low_number turned cut choose refuse either
replies = (refl, refl, refl, refl, refl, refl)

pub long_packet : (order : ℕ) (p : List ℕ) (first : ℕ) → 65536 < length p → Gets (checked order p first) 2
unfolding checked refuse
long_packet order p first h = let l : 32 ≤ length p = omega arith in simp (le-ltb (length p) 32 l, lt-ltb 65536 (length p) h)

-- one of 65,536 bytes is not
pub full_packet : (p : List ℕ) (first : ℕ) → length p ≡ 65536 → Gets (checked 0 p first) 13
unfolding checked legal refuse either
full_packet p first h =
    let l : 32 ≤ length p = omega arith in let m : length p ≤ 65536 = omega arith in simp (le-ltb (length p) 32 l, le-ltb 65536 (length p) m)

-- requests: "elsewhere 9, then by number"
pub requests : Gets (room_for 0 7 8) 8 × Gets (room_for 0 8 8) 13
unfolding room_for legal refuse either
requests = (refl, refl)

-- "advance 9, 7, 2"; "elsewhere 9, then by number"
pub readers : Gets (Reader.made 0 31) 9 × Gets (Reader.made 0 32) 13 × Gets (Reader.advanced (Reader.fresh 0) (packet 1 1 0) 33) 9 × Gets (Reader.advanced (Reader.fresh 108) (packet 1 1 0) 33) 7 × Gets (Reader.advanced (Reader.fresh 108) (packet 1 1 0) 32) 2
unfolding Reader.made Reader.room Reader.soundb Reader.advanced Reader.reached aim total_of length_as class_of was_sent legal field number_in low_number turned cut choose refuse both either
readers = (refl, refl, refl, refl, refl)

-- "Packet buffer P: 32 to 65,536"
pub buffer_ends : (Reader.made 108 32 ≡ gives (Reader.fresh 108)) × (Reader.made 66 65536 ≡ gives (Reader.fresh 66)) × Gets (Reader.made 108 65537) 9
unfolding Reader.made Reader.room legal refuse both either
buffer_ends = (refl, refl, refl)

-- Core, Connection Setup: `l` (108) is least significant byte first, `B` (66) most significant byte first
pub byte_orders : (field 108 0 2 (1 ∷ 2 ∷ []) ≡ 513) × (field 66 0 2 (1 ∷ 2 ∷ []) ≡ 258) × (bytes_of 108 4 1 ≡ 1 ∷ 0 ∷ 0 ∷ 0 ∷ []) × (bytes_of 66 4 1 ≡ 0 ∷ 0 ∷ 0 ∷ 1 ∷ [])
unfolding field number_in low_number turned cut bytes_of low_bytes choose
byte_orders = (refl, refl, refl, refl)
