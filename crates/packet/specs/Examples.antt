-- What a packet is, computed: rows that the nearest other readings fail. Assumes nothing.
use Rattle.std.specs.Prelude.{true, false, List, ◌∷◌, ◌≡◌, refl, ℕ, replicate}
use Rattle.octets.specs.Logic.{choose, either}
use Rattle.octets.specs.Bytes.{number_in, low_number, turned}
use Rattle.octets.specs.Put.{cut}
use Rattle.octets.specs.Field.{field}
use Rattle.refusal.specs.Answer.{gives, refuses, refuse}
use Rattle.sequence.specs.Numbering.{last_number, full, in_range}
use Rattle.packet.specs.Packet.{was_sent, error, reply, event, generic, class_of, packet_class, has_length, is_error, is_reply, is_plain, is_event, class_number, unnumbered, wire_of, number_after}
use Rattle.packet.specs.Class.{says_class}
use Rattle.packet.specs.declared.Class.TheVariants as Class

-- a packet of 32 bytes with two bytes of a number, all about them distinct
abbrev pub bearing : ℕ → ℕ → ℕ → List ℕ
bearing code a b = code ∷ 9 ∷ a ∷ b ∷ 5 ∷ 6 ∷ replicate 26 7

-- by the first byte: 0, 1 and 35 with their neighbours; with the top bit 0 and 1 are sent events and 35 is a sent generic event; 99 is 35 with bit 6, which says nothing
pub classes : (class_of 0 ≡ error) × (class_of 1 ≡ reply) × (class_of 2 ≡ event false) × (class_of 34 ≡ event false) × (class_of 35 ≡ generic false) × (class_of 36 ≡ event false) × (class_of 64 ≡ event false) × (class_of 99 ≡ event false)
    × (class_of 127 ≡ event false) × (class_of 128 ≡ event true) × (class_of 129 ≡ event true) × (class_of 162 ≡ event true) × (class_of 163 ≡ generic true) × (class_of 164 ≡ event true) × (class_of 255 ≡ event true)
unfolding class_of was_sent choose
classes = (refl, refl, refl, refl, refl, refl, refl, refl, refl, refl, refl, refl, refl, refl, refl)

-- of the packet, the first byte of all
pub class_in : packet_class (bearing 1 35 163) ≡ reply
unfolding class_of choose
class_in = refl

-- replies and generic events have a length, whoever made them
pub lengths : (has_length reply ≡ true) × (has_length (generic false) ≡ true) × (has_length (generic true) ≡ true) × (has_length error ≡ false) × (has_length (event false) ≡ false) × (has_length (event true) ≡ false)
lengths = (refl, refl, refl, refl, refl, refl)

-- one class is an error's, one a reply's, and all others events', of which two are plain
pub kinds : (is_error error ≡ true) × (is_error reply ≡ false) × (is_error (event false) ≡ false) × (is_error (event true) ≡ false) × (is_error (generic false) ≡ false) × (is_error (generic true) ≡ false)
    × (is_reply error ≡ false) × (is_reply reply ≡ true) × (is_reply (event false) ≡ false) × (is_reply (event true) ≡ false) × (is_reply (generic false) ≡ false) × (is_reply (generic true) ≡ false)
    × (is_event error ≡ false) × (is_event reply ≡ false) × (is_event (event false) ≡ true) × (is_event (event true) ≡ true) × (is_event (generic false) ≡ true) × (is_event (generic true) ≡ true)
    × (is_plain error ≡ false) × (is_plain reply ≡ false) × (is_plain (event false) ≡ true) × (is_plain (event true) ≡ true) × (is_plain (generic false) ≡ false) × (is_plain (generic true) ≡ false)
kinds = (refl, refl, refl, refl, refl, refl, refl, refl, refl, refl, refl, refl, refl, refl, refl, refl, refl, refl, refl, refl, refl, refl, refl, refl)

-- the numbers for C, and what the enum says
pub told : (class_number error ≡ 0) × (class_number reply ≡ 1) × (class_number (event false) ≡ 2) × (class_number (event true) ≡ 3) × (class_number (generic false) ≡ 4) × (class_number (generic true) ≡ 5)
    × (says_class Class.Error ≡ error) × (says_class Class.Reply ≡ reply) × (says_class Class.Event ≡ event false) × (says_class Class.SentEvent ≡ event true) × (says_class Class.Generic ≡ generic false) × (says_class Class.SentGeneric ≡ generic true)
told = (refl, refl, refl, refl, refl, refl, refl, refl, refl, refl, refl, refl)

-- 11 carries no number, and 139, which is 11 with the top bit; an error and a reply do, their neighbours, and what differs from them in another bit: 3, 27, 75, 203 and 267
pub numbers : (unnumbered 11 ≡ true) × (unnumbered 139 ≡ true) × (unnumbered 0 ≡ false) × (unnumbered 1 ≡ false) × (unnumbered 10 ≡ false) × (unnumbered 12 ≡ false) × (unnumbered 138 ≡ false) × (unnumbered 140 ≡ false)
    × (unnumbered 3 ≡ false) × (unnumbered 27 ≡ false) × (unnumbered 75 ≡ false) × (unnumbered 203 ≡ false) × (unnumbered 267 ≡ false)
unfolding unnumbered either
numbers = (refl, refl, refl, refl, refl, refl, refl, refl, refl, refl, refl, refl, refl)

-- bytes 2 and 3, in the order of the connection
pub wires : (wire_of 108 (bearing 2 3 4) ≡ 1027) × (wire_of 66 (bearing 2 3 4) ≡ 772)
unfolding field number_in low_number cut turned choose
wires = (refl, refl)

-- after 70,000, whose low bits are 112 and 17: an equal number is no step, one behind is nearly a round; the event of code 11 or 139 has the last read, whatever its bytes, and 140 has its number; the last number has none after it, but for that event
pub after : (number_after 108 70000 (bearing 2 112 17) ≡ gives 70000) × (number_after 66 70000 (bearing 0 17 112) ≡ gives 70000) × (number_after 108 70000 (bearing 1 111 17) ≡ gives 135535)
    × (number_after 108 70000 (bearing 140 111 17) ≡ gives 135535) × (number_after 108 70000 (bearing 11 111 17) ≡ gives 70000) × (number_after 66 70000 (bearing 139 111 17) ≡ gives 70000)
    × (number_after 108 last_number (bearing 3 0 0) ≡ refuses 3) × (number_after 108 last_number (bearing 11 0 0) ≡ gives last_number) × (number_after 108 last_number (bearing 139 0 0) ≡ gives last_number)
unfolding number_after unnumbered either in_range full refuse field number_in low_number cut turned choose
after = (refl, refl, refl, refl, refl, refl, refl, refl, refl)
