-- The request room, computed: rows that the nearest other readings fail. Assumes nothing.
use Rattle.std.specs.Prelude.{◌≡◌, refl, Bool, true, false, List, [], ◌∷◌, ℕ, eqb, length}
use Rattle.octets.specs.Logic.{choose, both}
use Rattle.requests.specs.Room.{capacity, bytes_for, sized, byte_of, legal, mode_of, request_of, upto, byte_at, request_at, outstanding, Encodes, legal_run, legals, put_request, under_mode, put_mode}
use Rattle.requests.specs.declared.Mode.{Mode}
use Rattle.requests.specs.declared.Mode.TheVariants.{Keep, DiscardReply, DiscardReplyAndError}
use Rattle.requests.specs.declared.Request.{Request}

-- a request by its two parts
abbrev request : Bool → Mode → Request
request d m = record { descriptors = d; mode = m }

-- each of the six has its byte,
pub bytes : (byte_of (request false Keep) ≡ 0) × (byte_of (request true Keep) ≡ 1) × (byte_of (request false DiscardReply) ≡ 2) × (byte_of (request true DiscardReply) ≡ 3)
    × (byte_of (request false DiscardReplyAndError) ≡ 4) × (byte_of (request true DiscardReplyAndError) ≡ 5)
unfolding byte_of choose
bytes = (refl, refl, refl, refl, refl, refl)

-- and each byte is read as its request; 6 is none
pub reads : (request_of 0 ≡ request false Keep) × (request_of 1 ≡ request true Keep) × (request_of 2 ≡ request false DiscardReply) × (request_of 3 ≡ request true DiscardReply)
    × (request_of 4 ≡ request false DiscardReplyAndError) × (request_of 5 ≡ request true DiscardReplyAndError) × (legal 0 ≡ true) × (legal 5 ≡ true) × (legal 6 ≡ false)
unfolding request_of mode_of legal choose
reads = (refl, refl, refl, refl, refl, refl, refl, refl, refl)

-- a room of three bytes, whose numbers 3, 4 and 5 have the bytes 4, 3 and 1
abbrev three : List ℕ
three = 4 ∷ 3 ∷ 1 ∷ []

-- one byte for each request: three are for three; none is no room, 65,536 is one, where so many bytes are lent, and 65,537 is none
pub sizes : (capacity three ≡ 3) × (bytes_for 7 ≡ 7) × (sized 3 three ≡ true) × (sized 2 three ≡ false) × (sized 4 three ≡ false) × (sized 0 [] ≡ false) × (sized 1 (0 ∷ []) ≡ true)
unfolding capacity bytes_for sized both
sizes = (refl, refl, refl, refl, refl, refl, refl)

pub largest : (room : List ℕ) → (sized 65536 room ≡ eqb (length room) 65536) × (sized 65537 room ≡ false)
unfolding sized both
largest room = (refl, refl)

-- the slot of n is n mod K
pub slots : (byte_at three 3 ≡ 4) × (byte_at three 4 ≡ 3) × (byte_at three 5 ≡ 1) × (byte_at three 6 ≡ 4) × (request_at three 7 ≡ request true DiscardReply)
unfolding byte_at request_at request_of mode_of choose
slots = (refl, refl, refl, refl, refl)

-- a run of numbers, and the requests of 5 and 6, of which the second stands before the first in the room
pub runs : (upto (λ (n : ℕ). n) 7 3 ≡ 7 ∷ 8 ∷ 9 ∷ []) × (outstanding three 5 2 ≡ request true Keep ∷ request false DiscardReplyAndError ∷ []) × (outstanding three 5 0 ≡ [])
unfolding upto outstanding request_at byte_at request_of mode_of choose
runs = (refl, refl, refl)

pub encodes : Encodes three 5 (request true Keep ∷ request false DiscardReplyAndError ∷ [])
unfolding Encodes upto byte_at byte_of choose
encodes = refl

-- only bytes of the run must be legal: 6 stands under 3 and 6
abbrev spoilt : List ℕ
spoilt = 6 ∷ 3 ∷ 1 ∷ []

pub legality : (legals spoilt 4 2 ≡ true) × (legals spoilt 5 1 ≡ true) × (legals spoilt 5 2 ≡ false) × (legals spoilt 3 1 ≡ false) × (legals spoilt 3 0 ≡ true) × (legal_run (5 ∷ 6 ∷ []) ≡ false)
unfolding legals legal_run legal upto byte_at both
legality = (refl, refl, refl, refl, refl, refl)

-- one byte is written
pub puts : (put_request three 5 (request false DiscardReply) ≡ 4 ∷ 3 ∷ 2 ∷ []) × (put_request three 6 (request true DiscardReplyAndError) ≡ 5 ∷ 3 ∷ 1 ∷ [])
unfolding put_request byte_of choose
puts = (refl, refl)

-- the mode that is set is the new one, whatever it was, and whether there are descriptors stays
pub modes : (under_mode DiscardReply (request true Keep) ≡ request true DiscardReply) × (under_mode DiscardReplyAndError (request false Keep) ≡ request false DiscardReplyAndError)
    × (under_mode DiscardReplyAndError (request true DiscardReply) ≡ request true DiscardReplyAndError) × (under_mode DiscardReply (request false DiscardReplyAndError) ≡ request false DiscardReply)
    × (under_mode Keep (request true DiscardReply) ≡ request true Keep)
unfolding under_mode
modes = (refl, refl, refl, refl, refl)

pub modes_put : (put_mode three 5 DiscardReply ≡ 4 ∷ 3 ∷ 3 ∷ []) × (put_mode three 4 DiscardReplyAndError ≡ 4 ∷ 5 ∷ 1 ∷ []) × (put_mode three 6 DiscardReply ≡ 2 ∷ 3 ∷ 1 ∷ [])
unfolding put_mode under_mode put_request request_at byte_at request_of mode_of byte_of choose
modes_put = (refl, refl, refl)
