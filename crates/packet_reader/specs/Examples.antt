-- Framing and the reader, computed: rows in both byte orders that the nearest other readings fail. Assumes nothing.
use Rattle.std.specs.Prelude.{◌≡◌, refl, true, false, List, [], ◌∷◌, ◌++◌, ℕ, replicate, take}
use Rattle.octets.specs.Logic.{choose, both, either}
use Rattle.octets.specs.Bytes.{legal, number_in, low_number, turned}
use Rattle.octets.specs.Put.{cut}
use Rattle.octets.specs.Field.{field}
use Rattle.refusal.specs.Answer.{gives, refuses, refuse}
use Rattle.packet.specs.Packet.{was_sent, reply, event, generic, class_of}
use Rattle.packet_reader.specs.Frame.{length_as, frame, total, total_of, aim, cuts, cut_packets}
use Rattle.packet_reader.specs.Front.{nothing, long, whole, front_of}
use Rattle.packet_reader.specs.Front as Front
use Rattle.packet_reader.specs.Reader.{room, soundb, fresh, made, capacity, unfilled, part, waits, reached, advanced}
use Rattle.packet_reader.specs.Reader as Reader
use Rattle.packet_reader.specs.declared.PacketReader.{PacketReader}

-- 32 bytes that begin with a code and have a, b, c, d where a length stands
abbrev packet : ℕ → ℕ → ℕ → ℕ → ℕ → List ℕ
packet code a b c d = code ∷ 2 ∷ 3 ∷ 4 ∷ a ∷ b ∷ c ∷ d ∷ replicate 24 9

-- length and class together
pub frames : (frame 1 3 ≡ record { length = 44; class = reply }) × (frame 163 3 ≡ record { length = 44; class = generic true }) × (frame 129 3 ≡ record { length = 32; class = event true }) × (frame 35 0 ≡ record { length = 32; class = generic false })
unfolding length_as class_of was_sent choose
frames = (refl, refl, refl, refl)

-- 32 bytes, and four for each unit where the class has a length
pub totals : (total 1 0 ≡ 32) × (total 1 3 ≡ 44) × (total 35 3 ≡ 44) × (total 163 3 ≡ 44) × (total 0 3 ≡ 32) × (total 2 3 ≡ 32) × (total 129 3 ≡ 32) × (total 36 3 ≡ 32)
unfolding length_as class_of was_sent choose
totals = (refl, refl, refl, refl, refl, refl, refl, refl)

-- the length in bytes 4 to 7, in the order of the connection
pub lengths : (total_of 108 (packet 1 1 2 3 4) ≡ 269223972) × (total_of 66 (packet 1 1 2 3 4) ≡ 67636272) × (total_of 108 (packet 7 1 2 3 4) ≡ 32)
unfolding total_of length_as class_of was_sent field number_in low_number turned cut choose either
lengths = (refl, refl, refl)

-- 32 until these are there
pub aims : (aim 108 (packet 1 3 0 0 0) 31 ≡ 32) × (aim 108 (packet 1 3 0 0 0) 32 ≡ 44) × (aim 66 (packet 1 0 0 0 3) 40 ≡ 44) × (aim 108 (packet 1 3 0 0 0) 0 ≡ 32)
unfolding aim total_of length_as class_of was_sent field number_in low_number turned cut choose either
aims = (refl, refl, refl, refl)

-- what a run begins with: a whole packet just there, one byte short of it, no 32 bytes, none at all; 65,536 bytes are a packet, of which a part is there, and 65,540 are too long
pub fronts : (front_of 108 (packet 1 1 0 0 0 ++ (5 ∷ 6 ∷ 7 ∷ 8 ∷ [])) ≡ whole 36 reply) × (front_of 108 (packet 1 1 0 0 0 ++ (5 ∷ 6 ∷ 7 ∷ [])) ≡ Front.part) × (front_of 108 (packet 7 1 0 0 0 ++ (5 ∷ [])) ≡ whole 32 (event false))
    × (front_of 108 (take 31 (packet 7 0 0 0 0)) ≡ Front.part) × (front_of 108 [] ≡ nothing) × (front_of 66 (packet 1 0 0 63 248) ≡ Front.part) × (front_of 66 (packet 1 0 0 63 249) ≡ long) × (front_of 108 (packet 1 249 63 0 0) ≡ long)
unfolding front_of aim total_of length_as class_of was_sent field number_in low_number turned cut choose either
fronts = (refl, refl, refl, refl, refl, refl, refl, refl)

-- two packets in a row, and bytes left over
pub cutting : cut_packets 108 (packet 7 0 0 0 0 ++ (packet 1 1 0 0 0 ++ (5 ∷ 6 ∷ 7 ∷ 8 ∷ 1 ∷ 2 ∷ []))) ≡ record { packets = packet 7 0 0 0 0 ∷ (packet 1 1 0 0 0 ++ (5 ∷ 6 ∷ 7 ∷ 8 ∷ [])) ∷ []; left = 1 ∷ 2 ∷ [] }
unfolding cut_packets cuts aim total_of length_as class_of was_sent field number_in low_number turned cut choose either
cutting = refl

-- the ends of a buffer's range, and 9 before 13
pub rooms : (made 108 32 ≡ gives (fresh 108)) × (made 66 65536 ≡ gives (fresh 66)) × (made 108 31 ≡ refuses 9) × (made 108 65537 ≡ refuses 9) × (made 67 32 ≡ refuses 13) × (made 67 31 ≡ refuses 9) × (fresh 108 ≡ record { order = 108; filled = 0; target = 32 })
unfolding made room legal refuse both either
rooms = (refl, refl, refl, refl, refl, refl, refl)

-- a reader by its three numbers, and a buffer of 38 bytes with a reply of 36
abbrev at : ℕ → ℕ → ℕ → PacketReader
at o n t = record { order = o; filled = n; target = t }

abbrev buf : List ℕ
buf = packet 1 1 0 0 0 ++ (5 ∷ 6 ∷ 7 ∷ 8 ∷ 1 ∷ 2 ∷ [])

-- sound: the target as the bytes filled give it, fitting, and not reached
pub sounds : (soundb (at 108 5 32) buf ≡ true) × (soundb (at 108 31 32) buf ≡ true) × (soundb (at 108 32 36) buf ≡ true) × (soundb (at 108 35 36) buf ≡ true) × (soundb (at 108 36 36) buf ≡ false) × (soundb (at 108 32 32) buf ≡ false)
    × (soundb (at 108 5 36) buf ≡ false) × (soundb (at 108 32 36) (take 35 buf) ≡ false) × (soundb (at 67 5 32) buf ≡ false) × (soundb (at 108 5 32) (take 31 buf) ≡ false)
unfolding soundb room aim total_of length_as class_of was_sent legal field number_in low_number turned cut choose both either
sounds = (refl, refl, refl, refl, refl, refl, refl, refl, refl, refl)

-- what is still to be filled: how much, where, and which bytes
pub parts : (capacity (at 108 33 36) buf ≡ gives 3) × (unfilled (at 108 33 36) buf ≡ record { start = 33; end = 36 }) × (part (unfilled (at 108 33 36) buf) buf ≡ 6 ∷ 7 ∷ 8 ∷ []) × (capacity (at 108 33 37) buf ≡ refuses 9)
    × (unfilled (at 108 33 37) buf ≡ record { start = 0; end = 0 })
unfolding capacity unfilled soundb room aim total_of length_as class_of was_sent legal field number_in low_number turned cut choose both either refuse
parts = (refl, refl, refl, refl, refl)

-- counting bytes: to the 32nd, past it, to the end, where the reader begins anew; 7 for one more than the part has, 2 for a packet that is longer than its buffer by one byte
pub advances : (advanced (at 108 5 32) buf 26 ≡ gives (waits (at 108 31 32))) × (advanced (at 108 5 32) buf 27 ≡ gives (waits (at 108 32 36))) × (advanced (at 108 33 36) buf 3 ≡ gives (Reader.whole 36 reply (at 108 0 32))) × (advanced (at 66 5 32) (packet 2 1 0 0 0) 27 ≡ gives (Reader.whole 32 (event false) (at 66 0 32)))
    × (advanced (at 108 5 32) buf 28 ≡ refuses 7) × (advanced (at 108 5 32) (take 35 buf) 27 ≡ refuses 2) × (advanced (at 108 5 33) buf 28 ≡ refuses 9)
unfolding advanced reached soundb room aim total_of length_as class_of was_sent legal field number_in low_number turned cut choose both either refuse
advances = (refl, refl, refl, refl, refl, refl, refl)
