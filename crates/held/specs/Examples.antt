-- Held records in their store, computed: rows that the nearest other readings fail. Assumes nothing.
use Rattle.std.specs.Prelude.{◌≡◌, refl, true, false, List, [], ◌∷◌, ◌++◌, ℕ, zero, suc, leb, length, replicate, set, Some, None}
use Rattle.octets.specs.Logic.{choose, both, either}
use Rattle.octets.specs.Bytes.{bytes_of, number_in, low_bytes, low_number, turned}
use Rattle.octets.specs.Put.{put, cut}
use Rattle.octets.specs.Field.{field}
use Rattle.held.specs.General.{same}
use Rattle.held.specs.Head.{Record, held, labelled, cost, encoded, most_fds, fits, num_of, len_of, fds_of, kind_of, zero_of, decoded, as_event}
use Rattle.held.specs.Reading.{inside, used, flat, read_up_to, read_all, records, only, replies, events, fds_in, costs, all, rising, known, fine, soundb}
use Rattle.held.specs.Walk.{walked}
use Rattle.held.specs.Find.{sought, suits, found_reply, found_event}
use Rattle.held.specs.Moves.{window, left, behind, slid, stays, appended, removed, handed, demoted}
use Rattle.held.specs.Tally.{own, lower, higher, tallied, tally_one}
use Rattle.held.specs.declared.Spot.{Spot}
use Rattle.held.specs.declared.Tally.{Tally}

-- n numbers, one after the other
abbrev steps : ℕ → ℕ → List ℕ
steps from zero = []
steps from (suc n) = from ∷ steps (suc from) n

-- ---- one record

-- number, length, descriptors, kind, zeros, packet; its least byte first
pub layout : (encoded (held 578437695752307201 7 1 (91 ∷ 92 ∷ 93 ∷ [])) ≡ 1 ∷ 2 ∷ 3 ∷ 4 ∷ 5 ∷ 6 ∷ 7 ∷ 8 ∷ 3 ∷ 0 ∷ 0 ∷ 0 ∷ 7 ∷ 1 ∷ 0 ∷ 0 ∷ 91 ∷ 92 ∷ 93 ∷ [])
    × (cost (held 578437695752307201 7 1 (91 ∷ 92 ∷ 93 ∷ [])) ≡ 19) × (labelled (record { number = 5; fds = 2; kind = 0 }) (71 ∷ 72 ∷ []) ≡ held 5 2 0 (71 ∷ 72 ∷ []))
unfolding encoded bytes_of low_bytes turned choose
layout = (refl, refl, refl)

pub fields : (num_of (steps 1 20) ≡ 578437695752307201) × (len_of (steps 1 20) ≡ 202050057) × (fds_of (steps 1 20) ≡ 13) × (kind_of (steps 1 20) ≡ 14) × (zero_of (steps 1 20) ≡ 4111)
    × (decoded (1 ∷ 2 ∷ 3 ∷ 4 ∷ 5 ∷ 6 ∷ 7 ∷ 8 ∷ 3 ∷ 0 ∷ 0 ∷ 0 ∷ 7 ∷ 1 ∷ 0 ∷ 0 ∷ 91 ∷ 92 ∷ 93 ∷ 94 ∷ []) ≡ held 578437695752307201 7 1 (91 ∷ 92 ∷ 93 ∷ []))
unfolding num_of len_of fds_of kind_of zero_of decoded field number_in low_number cut turned choose
fields = (refl, refl, refl, refl, refl, refl)

-- 255 descriptors of a reply, none of an event; a number of 64 bits; 32 bytes or more; two kinds
pub fitting : (most_fds 0 ≡ 255) × (most_fds 1 ≡ 0) × (fits (held 18446744073709551615 255 0 (replicate 32 7)) ≡ true) × (fits (held 18446744073709551616 255 0 (replicate 32 7)) ≡ false) × (fits (held 5 256 0 (replicate 32 7)) ≡ false)
    × (fits (held 5 0 1 (replicate 32 7)) ≡ true) × (fits (held 5 1 1 (replicate 32 7)) ≡ false) × (fits (held 5 0 2 (replicate 32 7)) ≡ false) × (fits (held 5 2 0 (replicate 31 7)) ≡ false)
unfolding most_fds fits both choose
fitting = (refl, refl, refl, refl, refl, refl, refl, refl, refl)

-- and 65,536 bytes or fewer
pub lengths : (p : List ℕ) → fits (held 5 2 0 p) ≡ both (leb 32 (length p)) (both (leb (length p) 65536) true)
unfolding most_fds fits both choose
lengths p = refl

-- an error made an event loses its descriptors, and nothing else
pub turns : as_event (held 5 2 0 (71 ∷ 72 ∷ [])) ≡ held 5 0 1 (71 ∷ 72 ∷ [])
turns = refl

-- ---- a window

abbrev a : Record
a = held 5 2 0 (71 ∷ 72 ∷ [])

abbrev b : Record
b = held 4 0 1 (81 ∷ 82 ∷ 83 ∷ [])

abbrev c : Record
c = held 5 3 0 (91 ∷ [])

abbrev d : Record
d = held 9 1 0 (61 ∷ 62 ∷ 63 ∷ 64 ∷ [])

-- three bytes, the four side by side in 74 bytes, and one byte
abbrev store : List ℕ
store = 11 ∷ 12 ∷ 13 ∷ (flat (a ∷ b ∷ c ∷ d ∷ []) ++ (14 ∷ []))

-- the bytes of a window, its records in order, those of a kind, and their sums
pub reads : (inside (window 3 5) (steps 0 9) ≡ 3 ∷ 4 ∷ []) × (used (window 3 77) ≡ 74) × (records (window 3 77) store ≡ a ∷ b ∷ c ∷ d ∷ []) × (replies (window 3 77) store ≡ a ∷ c ∷ d ∷ []) × (events (window 3 77) store ≡ b ∷ [])
    × (fds_in (a ∷ c ∷ []) ≡ 5) × (costs (a ∷ b ∷ []) ≡ 37)
unfolding records read_all read_up_to only flat fds_in costs decoded num_of len_of fds_of kind_of encoded field number_in low_number cut bytes_of low_bytes turned choose
reads = (refl, refl, refl, refl, refl, refl, refl)

-- a place by its five numbers
abbrev spot : ℕ → ℕ → ℕ → ℕ → ℕ → Spot
spot at len number fds before = record { at = at; len = len; number = number; fds = fds; before = before }

-- the oldest reply of a number, with the descriptors of all before it; an event of the number is none; the oldest event, of whichever number
pub finds : (found_reply 5 (window 3 77) store ≡ Some (spot 3 2 5 2 0)) × (found_reply 9 (window 3 77) store ≡ Some (spot 57 4 9 1 5)) × (found_reply 4 (window 3 77) store ≡ None) × (found_event (window 3 77) store ≡ Some (spot 21 3 4 0 2))
    × (found_event (window 40 77) store ≡ None) × (suits 1 false 6 1 6 ≡ true) × (suits 1 false 6 1 7 ≡ false) × (suits 1 false 6 0 6 ≡ false) × (suits 1 true 6 1 7 ≡ true) × (suits 1 true 6 0 7 ≡ false)
unfolding found_reply found_event sought suits records read_all read_up_to flat decoded num_of len_of fds_of kind_of encoded field number_in low_number cut bytes_of low_bytes turned both either choose
finds = (refl, refl, refl, refl, refl, refl, refl, refl, refl, refl)

-- how many replies are of a number and above it; events do not count
abbrev tally : ℕ → ℕ → Tally
tally o h = record { own = o; above = h }

pub tallies : (own 5 (a ∷ c ∷ d ∷ []) ≡ a ∷ c ∷ []) × (lower 9 (a ∷ c ∷ d ∷ []) ≡ a ∷ c ∷ []) × (higher 5 (a ∷ c ∷ d ∷ []) ≡ d ∷ []) × (tallied 5 (window 3 77) store ≡ tally 2 1) × (tallied 4 (window 3 77) store ≡ tally 0 3)
    × (tally_one 5 0 5 ≡ tally 1 0) × (tally_one 5 0 9 ≡ tally 0 1) × (tally_one 5 0 4 ≡ tally 0 0) × (tally_one 5 1 5 ≡ tally 0 0) × (tally_one 5 1 9 ≡ tally 0 0)
unfolding own lower higher tallied tally_one records read_all read_up_to only flat decoded num_of len_of fds_of kind_of encoded field number_in low_number cut bytes_of low_bytes turned both choose
tallies = (refl, refl, refl, refl, refl, refl, refl, refl, refl, refl)

-- ---- soundness

pub tests : (same (1 ∷ 2 ∷ []) (1 ∷ 2 ∷ []) ≡ true) × (same (1 ∷ 2 ∷ []) (1 ∷ 3 ∷ []) ≡ false) × (same (1 ∷ []) (1 ∷ 2 ∷ []) ≡ false) × (same (1 ∷ 2 ∷ []) (1 ∷ []) ≡ false)
    × (rising 5 (a ∷ c ∷ d ∷ []) ≡ true) × (rising 6 (a ∷ []) ≡ false) × (rising 0 (d ∷ a ∷ []) ≡ false) × (known 5 a ≡ true) × (known 4 a ≡ false) × (all (known 5) (a ∷ d ∷ []) ≡ false)
unfolding same rising all both
tests = (refl, refl, refl, refl, refl, refl, refl, refl, refl, refl)

-- records that fit: replies of 5 and 6 with 2 and 3 descriptors, and an event of 4
abbrev r5 : Record
r5 = held 5 2 0 (replicate 32 7)

abbrev r6 : Record
r6 = held 6 3 0 (replicate 33 8)

abbrev e4 : Record
e4 = held 4 0 1 (replicate 32 9)

-- two bytes, the records in 145 bytes, and one byte
abbrev filled : List ℕ
filled = 11 ∷ 12 ∷ (flat (r5 ∷ e4 ∷ r6 ∷ []) ++ (13 ∷ []))

-- an event's number may be lower than those before it, a reply's may not; no number above the last read; the window lies in the store and ends with a record; its zeros are zeros; 0 is a number
pub sounds : (soundb 6 (window 2 147) filled ≡ true) × (soundb 5 (window 2 147) filled ≡ false) × (soundb 6 (window 2 98) filled ≡ true) × (soundb 6 (window 2 146) filled ≡ false) × (soundb 6 (window 3 147) filled ≡ false)
    × (soundb 0 (window 148 148) filled ≡ true) × (soundb 0 (window 149 149) filled ≡ false) × (soundb 0 (window 9 8) filled ≡ false)
    × (soundb 6 (window 0 97) (flat (r6 ∷ r5 ∷ [])) ≡ false) × (soundb 5 (window 0 96) (flat (r5 ∷ r5 ∷ [])) ≡ true) × (soundb 5 (window 0 48) (set (encoded r5) 14 1) ≡ false) × (soundb 5 (window 0 48) (set (encoded r5) 15 1) ≡ false)
    × (soundb 5 (window 0 47) (encoded (held 5 2 0 (replicate 31 7))) ≡ false) × (soundb 0 (window 0 48) (encoded (held 0 2 0 (replicate 32 7))) ≡ true)
unfolding soundb fine all rising fits most_fds same records read_all read_up_to only flat decoded num_of len_of fds_of kind_of encoded field number_in low_number cut bytes_of low_bytes turned both choose
sounds = (refl, refl, refl, refl, refl, refl, refl, refl, refl, refl, refl, refl, refl, refl)

-- a store of 16,777,216 bytes, and no more
pub largest : (s : List ℕ) → soundb 0 (window 0 0) s ≡ both (leb (length s) 16777216) (both (leb 0 (length s)) true)
unfolding soundb fine all rising same records read_all read_up_to only flat cut both
largest s = refl

-- the descriptors of the replies, where it is sound
pub walks : (walked 6 (window 2 147) filled ≡ Some 5) × (walked 6 (window 2 50) filled ≡ Some 2) × (walked 5 (window 2 147) filled ≡ None)
unfolding walked soundb fine all rising fits most_fds same records read_all read_up_to only flat fds_in decoded num_of len_of fds_of kind_of encoded field number_in low_number cut bytes_of low_bytes turned both choose
walks = (refl, refl, refl)

-- ---- moves

-- behind the window, or at the start of the store where there is no room behind it or it is empty
pub appends : (behind (left (window 1 4) (steps 0 30)) a ≡ left (window 1 22) (steps 0 4 ++ (encoded a ++ steps 22 8))) × (slid (left (window 3 7) (steps 0 10)) ≡ left (window 0 4) (3 ∷ 4 ∷ 5 ∷ 6 ∷ steps 4 6))
    × (stays (window 3 7) (steps 0 10) 3 ≡ true) × (stays (window 3 7) (steps 0 10) 4 ≡ false) × (stays (window 7 7) (steps 0 10) 2 ≡ false)
    × (appended (window 3 7) (steps 0 25) a ≡ left (window 3 25) (steps 0 7 ++ encoded a)) × (appended (window 3 7) (steps 0 24) a ≡ left (window 0 22) (3 ∷ 4 ∷ 5 ∷ 6 ∷ (encoded a ++ steps 22 2)))
    × (appended (window 7 7) (steps 0 30) a ≡ left (window 0 18) (encoded a ++ steps 18 12))
unfolding behind slid stays appended put cut encoded bytes_of low_bytes turned both choose
appends = (refl, refl, refl, refl, refl, refl, refl, refl)

-- the record of 20 bytes goes: the shorter side slides over it
pub removes : (removed (window 2 50) (steps 0 60) (spot 20 4 8 9 10) ≡ left (window 2 30) (steps 0 20 ++ (steps 40 10 ++ steps 30 30))) × (removed (window 2 50) (steps 0 60) (spot 5 4 8 9 10) ≡ left (window 22 50) (steps 0 22 ++ (steps 2 3 ++ steps 25 35)))
    × (handed (steps 0 60) (spot 20 4 8 9 10) (steps 1 6) ≡ 36 ∷ 37 ∷ 38 ∷ 39 ∷ 5 ∷ 6 ∷ [])
unfolding removed handed put cut choose
removes = (refl, refl, refl)

-- it goes behind the others of the window, an event without descriptors
pub demotes : demoted (window 2 50) (steps 0 60) (spot 20 4 8 9 10) ≡ steps 0 20 ++ (steps 40 10 ++ (steps 20 12 ++ (0 ∷ 1 ∷ (steps 34 6 ++ steps 50 10))))
unfolding demoted put cut
demotes = refl
