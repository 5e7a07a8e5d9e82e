-- A stream and its text, computed: a line of each kind, with all numbers distinct. Assumes nothing.
use Rattle.std.specs.Prelude.{List, [], ◌∷◌, ◌++◌, ◌≡◌, refl, ℕ, replicate}
use Rattle.octets.specs.Logic.{choose, either}
use Rattle.octets.specs.Bytes.{number_in, low_number, turned}
use Rattle.octets.specs.Put.{cut}
use Rattle.octets.specs.Field.{field}
use Rattle.refusal.specs.Answer.{refuse}
use Rattle.sequence.specs.Numbering.{last_number, full, in_range}
use Rattle.packet.specs.Packet.{was_sent, class_of, unnumbered, number_after}
use Rattle.packet_reader.specs.Frame.{length_as, total_of, aim, cuts, cut_packets}
use Rattle.listing.specs.Text.{digits_in, decimal, item, first_line, line_of, end_line, refused_line, last_line, numbered, packet_lines, lines_of, text_of}

-- numbers of one, two, seven and nineteen digits
pub decimals : (decimal 0 ≡ 48 ∷ []) × (decimal 9 ≡ 57 ∷ []) × (decimal 10 ≡ 49 ∷ 48 ∷ []) × (decimal 1000407 ≡ 49 ∷ 48 ∷ 48 ∷ 48 ∷ 52 ∷ 48 ∷ 55 ∷ [])
    × (decimal last_number ≡ 57 ∷ 50 ∷ 50 ∷ 51 ∷ 51 ∷ 55 ∷ 50 ∷ 48 ∷ 51 ∷ 54 ∷ 56 ∷ 53 ∷ 52 ∷ 55 ∷ 55 ∷ 53 ∷ 56 ∷ 48 ∷ 55 ∷ [])
unfolding decimal digits_in
decimals = (refl, refl, refl, refl, refl)

-- a packet of 32 bytes: its code, two bytes of a number, and a length that says units of four more
abbrev head : ℕ → ℕ → ℕ → ℕ → List ℕ
head code a b units = code ∷ 7 ∷ a ∷ b ∷ units ∷ 0 ∷ 0 ∷ 0 ∷ replicate 24 9

-- an event of number 65,535; a reply of 36 bytes with 2, which is 65,538 then; one of code 11 and one of code 139, with any bytes; one of code 140 with 1, a round later; five bytes left over
abbrev stream : List ℕ
stream = head 28 255 255 3 ++ (head 1 2 0 1 ++ (4 ∷ 5 ∷ 6 ∷ 8 ∷ (head 11 77 78 79 ++ (head 139 80 81 82 ++ (head 140 1 0 6 ++ (1 ∷ 2 ∷ 3 ∷ 4 ∷ 5 ∷ []))))))

pub stream_text : text_of stream ≡ first_line
    ++ (50 ∷ 56 ∷ 32 ∷ 51 ∷ 50 ∷ 32 ∷ 54 ∷ 53 ∷ 53 ∷ 51 ∷ 53 ∷ 10
    ∷ 49 ∷ 32 ∷ 51 ∷ 54 ∷ 32 ∷ 54 ∷ 53 ∷ 53 ∷ 51 ∷ 56 ∷ 10
    ∷ 49 ∷ 49 ∷ 32 ∷ 51 ∷ 50 ∷ 32 ∷ 54 ∷ 53 ∷ 53 ∷ 51 ∷ 56 ∷ 10
    ∷ 49 ∷ 51 ∷ 57 ∷ 32 ∷ 51 ∷ 50 ∷ 32 ∷ 54 ∷ 53 ∷ 53 ∷ 51 ∷ 56 ∷ 10
    ∷ 49 ∷ 52 ∷ 48 ∷ 32 ∷ 51 ∷ 50 ∷ 32 ∷ 49 ∷ 51 ∷ 49 ∷ 48 ∷ 55 ∷ 51 ∷ 10
    ∷ 101 ∷ 110 ∷ 100 ∷ 32 ∷ 53 ∷ 10 ∷ [])
unfolding text_of lines_of packet_lines numbered last_line line_of item end_line decimal digits_in cut_packets cuts aim total_of length_as class_of was_sent unnumbered number_after in_range full refuse field number_in low_number cut turned choose either
stream_text = refl

-- a generic event of 65,540 bytes, of which 32 are there, is refused by 2, and so is the packet behind the last number by 3
abbrev over_long : List ℕ
over_long = 35 ∷ 7 ∷ 3 ∷ 0 ∷ 249 ∷ 63 ∷ 0 ∷ 0 ∷ replicate 24 9

pub refusals : (lines_of 4 (head 2 5 0 6 ++ over_long) ≡ (50 ∷ 32 ∷ 51 ∷ 50 ∷ 32 ∷ 53 ∷ 10 ∷ 114 ∷ 101 ∷ 102 ∷ 117 ∷ 115 ∷ 101 ∷ 100 ∷ 32 ∷ 50 ∷ 10 ∷ []))
    × (lines_of last_number (head 3 0 0 1 ++ head 4 1 0 2) ≡ (114 ∷ 101 ∷ 102 ∷ 117 ∷ 115 ∷ 101 ∷ 100 ∷ 32 ∷ 51 ∷ 10 ∷ []))
unfolding lines_of packet_lines numbered last_line line_of item end_line refused_line decimal digits_in cut_packets cuts aim total_of length_as class_of was_sent unnumbered number_after in_range full refuse field number_in low_number cut turned choose either
refusals = (refl, refl)
