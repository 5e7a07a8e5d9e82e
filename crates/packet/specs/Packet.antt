-- WHAT A PACKET IS: the bounds of its length, its class by its first byte, where its wire number stands, and the number that it is filed under. Assumes nothing.
use Rattle.std.specs.Prelude.{Bool, true, false, cond, List, ℕ, ◌+◌, ◌%◌, leb, eqb, get_or}
use Rattle.octets.specs.Logic.{choose, either}
use Rattle.octets.specs.Field.{field}
use Rattle.refusal.specs.Answer.{Answer, gives}
use Rattle.sequence.specs.Numbering.{full, in_range}
use Rattle.sequence.specs.declared.WireNumber.{WireNumber}

-- 01, Refusal numbers: a packet has 32 to 65,536 bytes
abbrev pub least_packet : ℕ
least_packet = 32

abbrev pub most_packet : ℕ
most_packet = 65536

-- ---- The first byte

abbrev pub code_of : List ℕ → ℕ
code_of p = get_or p 0 0

-- Core, Encoding: an error begins with 0, a reply with 1, and an event with its code;
abbrev pub error_code : ℕ
error_code = 0

abbrev pub reply_code : ℕ
reply_code = 1

-- an event's top bit says whether SendEvent made it.
abbrev pub sent_bit : ℕ
sent_bit = 128

unfoldable pub was_sent : ℕ → Bool
was_sent code = leb sent_bit code

-- Core, Events, GenericEvent: the event of code 35 is the one that extensions share
abbrev pub generic_event : ℕ
generic_event = 35

-- ---- The class

-- 02, M-107: "error, reply, event or generic event, and for the last two whether SendEvent made it"
pub data PacketClass : Type 0 where
  error : PacketClass
  reply : PacketClass
  event : Bool → PacketClass
  generic : Bool → PacketClass

-- An error's and a reply's code have no top bit: 128 and 129 are events that were sent, and 163, which is 35 with the top bit, is a generic event that was.
unfoldable pub class_of : ℕ → PacketClass
class_of code =
    choose (eqb code error_code) error
    (choose (eqb code reply_code) reply
    (choose (eqb (code % sent_bit) generic_event) (generic (was_sent code)) (event (was_sent code))))

abbrev pub packet_class : List ℕ → PacketClass
packet_class p = class_of (code_of p)

-- Core, Protocol Formats: errors and events have 32 bytes, a reply has 32 and those that its length counts in units of four. Generic Event Extension: so has a generic event, whoever made it.
abbrev pub has_length : PacketClass → Bool
has_length error = false
has_length reply = true
has_length (event sent) = false
has_length (generic sent) = true

abbrev pub is_error : PacketClass → Bool
is_error error = true
is_error reply = false
is_error (event sent) = false
is_error (generic sent) = false

abbrev pub is_reply : PacketClass → Bool
is_reply error = false
is_reply reply = true
is_reply (event sent) = false
is_reply (generic sent) = false

-- an event that is not generic, whoever made it; one that is or is not
abbrev pub is_plain : PacketClass → Bool
is_plain error = false
is_plain reply = false
is_plain (event sent) = true
is_plain (generic sent) = false

abbrev pub is_event : PacketClass → Bool
is_event error = false
is_event reply = false
is_event (event sent) = true
is_event (generic sent) = true

-- the number that stands for a class where C is told it: the first two are Core's codes
abbrev pub class_number : PacketClass → ℕ
class_number error = 0
class_number reply = 1
class_number (event sent) = cond sent 3 2
class_number (generic sent) = cond sent 5 4

-- ---- The number

-- Core, Encoding, KeymapNotify: key bits stand where other packets have their number, "whether the top bit is set or not" (02, M-101). "Codes 11 and 139 now both go unnumbered"; 01, Numbering and filing: "every other code is numbered"
abbrev pub keymap_notify : ℕ
keymap_notify = 11

unfoldable pub unnumbered : ℕ → Bool
unnumbered code = either (eqb code keymap_notify) (eqb code (sent_bit + keymap_notify))

-- Core, Encoding: bytes 2 and 3 are the sequence number, bytes 4 to 7 the length where there is one
abbrev pub wire_at : ℕ
wire_at = 2

abbrev pub length_at : ℕ
length_at = 4

abbrev pub wire_of : ℕ → List ℕ → ℕ
wire_of o p = field o wire_at 2 p

abbrev pub wire_number : ℕ → List ℕ → WireNumber
wire_number o p = record { 0 = wire_of o p }

-- "The full number is the least number at or above the last read whose low 16 bits are the wire number", 3 past the last one; a packet that carries none "is filed under the last read".
unfoldable pub number_after : ℕ → ℕ → List ℕ → Answer ℕ
number_after o read p = choose (unnumbered (code_of p)) (gives read) (in_range (full read (wire_of o p)))
