-- WHAT THE PROGRAM `packets` WRITES of a stream (01, Values to meet). Assumes nothing.
use Rattle.std.specs.Prelude.{Bool, true, false, List, [], ◌∷◌, ◌++◌, ℕ, zero, suc, ◌+◌, ◌/◌, ◌%◌, ltb, length}
use Rattle.octets.specs.Logic.{choose}
use Rattle.octets.specs.Bytes.{little_order}
use Rattle.refusal.specs.Answer.{Answer, gives, refuses}
use Rattle.packet.specs.Packet.{most_packet, code_of, number_after}
use Rattle.packet_reader.specs.Frame.{aim, cut_packets}

-- ---- Numbers

-- the digits of a number, the most significant first: one if it is below 10, otherwise those of its tenth part and then the last; k of them at most
unfoldable pub digits_in : ℕ → Bool → ℕ → List ℕ
digits_in zero below n = []
digits_in (suc k) true n = (48 + n) ∷ []
digits_in (suc k) false n = digits_in k (ltb (n / 10) 10) (n / 10) ++ ((48 + n % 10) ∷ [])

-- A number in decimal, with no zeros in front: no number n has more than n + 1 digits.
unfoldable pub decimal : ℕ → List ℕ
decimal n = digits_in (suc n) (ltb n 10) n

-- ---- Lines

abbrev pub blank : ℕ
blank = 32

abbrev pub newline : ℕ
newline = 10

-- a number in decimal and the byte behind it
unfoldable pub item : ℕ → ℕ → List ℕ
item n b = decimal n ++ (b ∷ [])

-- `packets`
unfoldable pub first_line : List ℕ
first_line = 112 ∷ 97 ∷ 99 ∷ 107 ∷ 101 ∷ 116 ∷ 115 ∷ newline ∷ []

-- "(code, length, full number ..)"
unfoldable pub line_of : ℕ → ℕ → ℕ → List ℕ
line_of code size number = item code blank ++ (item size blank ++ item number newline)

-- `end` and the bytes left over
unfoldable pub end_line : ℕ → List ℕ
end_line left = (101 ∷ 110 ∷ 100 ∷ blank ∷ []) ++ item left newline

-- `refused` and the number of the refusal
unfoldable pub refused_line : ℕ → List ℕ
refused_line n = (114 ∷ 101 ∷ 102 ∷ 117 ∷ 115 ∷ 101 ∷ 100 ∷ blank ∷ []) ++ item n newline

-- ---- A stream

-- "P is 65,536": what is left over is refused by 2 if it begins a packet that is longer
unfoldable pub last_line : List ℕ → List ℕ
last_line left = choose (ltb most_packet (aim little_order left (length left))) (refused_line 2) (end_line (length left))

-- the number of a packet and what comes after it, or the refusal, which is the last line
unfoldable pub numbered : Answer ℕ → (ℕ → List ℕ) → List ℕ
numbered (gives n) f = f n
numbered (refuses n) f = refused_line n

-- a line for each packet after a last read, up to the first that is refused: by 2 for its length, by 3 for its number
unfoldable pub packet_lines : ℕ → List (List ℕ) → List ℕ → List ℕ
packet_lines read [] left = last_line left
packet_lines read (p ∷ ps) left =
    choose (ltb most_packet (length p)) (refused_line 2)
    (numbered (number_after little_order read p) (λ n. line_of (code_of p) (length p) n ++ packet_lines n ps left))

-- the lines of the bytes of a stream after a last read
unfoldable pub lines_of : ℕ → List ℕ → List ℕ
lines_of read s = packet_lines read (cut_packets little_order s).packets (cut_packets little_order s).left

-- THE TEXT OF A STREAM: it "numbers from 0".
unfoldable pub text_of : List ℕ → List ℕ
text_of s = first_line ++ lines_of 0 s
