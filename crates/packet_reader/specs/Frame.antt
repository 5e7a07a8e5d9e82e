-- How long a packet is and of which class, and how a run of bytes is cut into packets. Assumes nothing.
use Rattle.std.specs.Prelude.{List, [], ◌∷◌, ℕ, zero, suc, ◌+◌, ◌*◌, ltb, length, take, drop}
use Rattle.octets.specs.Logic.{choose}
use Rattle.octets.specs.Field.{field}
use Rattle.packet.specs.Packet.{least_packet, code_of, PacketClass, class_of, has_length, length_at}

-- the bytes of a packet of a class: 32, and where the class has a length, four for each unit of it
unfoldable pub length_as : PacketClass → ℕ → ℕ
length_as k units = choose (has_length k) (least_packet + 4 * units) least_packet

-- THE FRAMING RULE: length and class of a packet that begins with the code and whose bytes 4 to 7 write the length
pub record Frame : Type 0 where
  pub length : ℕ
  pub class : PacketClass

abbrev pub frame : ℕ → ℕ → Frame
frame code units = record { length = length_as (class_of code) units; class = class_of code }

abbrev pub total : ℕ → ℕ → ℕ
total code units = (frame code units).length

-- the same of the packet that bytes begin with
unfoldable pub total_of : ℕ → List ℕ → ℕ
total_of o s = total (code_of s) (field o length_at 4 s)

-- 01, Framing: the bytes that a packet will have of which the first n are there: 32 until those are there
unfoldable pub aim : ℕ → List ℕ → ℕ → ℕ
aim o s n = choose (ltb n least_packet) least_packet (total_of o s)

-- packets, and the bytes left over
pub record Cut : Type 0 where
  pub packets : List (List ℕ)
  pub left : List ℕ

abbrev pub cons : List ℕ → Cut → Cut
cons p c = record { packets = p ∷ c.packets; left = c.left }

-- A run of bytes is cut into packets from its front, until what is left is no whole packet; into n packets at most.
unfoldable pub cuts : ℕ → ℕ → List ℕ → Cut
cuts o zero s = record { packets = []; left = s }
cuts o (suc n) s =
    choose (ltb (length s) (aim o s (length s))) (record { packets = []; left = s })
    (cons (take (aim o s (length s)) s) (cuts o n (drop (aim o s (length s)) s)))

-- It has no more packets than bytes.
unfoldable pub cut_packets : ℕ → List ℕ → Cut
cut_packets o s = cuts o (length s) s
