-- The handshake and what a reply says, computed: rows with all fields distinct, in both byte orders, that the nearest other readings fail. Assumes nothing.
use Rattle.std.specs.Prelude.{◌≡◌, refl, true, false, List, [], ◌∷◌, ◌++◌, ℕ, replicate, take}
use Rattle.octets.specs.Logic.{choose, both, either}
use Rattle.octets.specs.Bytes.{legal, number_in, low_number, turned}
use Rattle.octets.specs.Put.{cut}
use Rattle.octets.specs.Field.{field}
use Rattle.refusal.specs.Answer.{gives, refuses, refuse}
use Rattle.connect.specs.Handshake.{reply_length, aim, room, soundb, capacity, unfilled, part, waits, complete, reached, advanced}
use Rattle.connect.specs.Setup.{failed_of, authenticate_of, setup_of, failed, success, authenticate, read_failed, read_success, read_reply, setup, nowhere, vendor_place, reason_place, text_at}
use Rattle.connect.specs.declared.handshake.Connect.{Connect}

-- what stands behind the eighth byte of a success, up to the vendor's length
abbrev numbers : List ℕ
numbers = 8 ∷ 9 ∷ 10 ∷ 11 ∷ 12 ∷ 13 ∷ 14 ∷ 15 ∷ 16 ∷ 17 ∷ 18 ∷ 19 ∷ 20 ∷ 21 ∷ 22 ∷ 23 ∷ []

-- what stands behind that length: nine fields, four unused bytes, a text of three and one to pad it
abbrev rest : List ℕ
rest = 26 ∷ 27 ∷ 28 ∷ 29 ∷ 30 ∷ 31 ∷ 32 ∷ 33 ∷ 34 ∷ 35 ∷ 36 ∷ 37 ∷ 38 ∷ 39 ∷ 40 ∷ 41 ∷ 42 ∷ 43 ∷ []

-- a success of 44 bytes whose vendor's text has v, least significant byte first and most significant first
abbrev accepted : ℕ → List ℕ
accepted v = 1 ∷ 200 ∷ 2 ∷ 3 ∷ 4 ∷ 5 ∷ 9 ∷ 0 ∷ (numbers ++ (v ∷ 0 ∷ rest))

abbrev turned_accepted : ℕ → List ℕ
turned_accepted v = 1 ∷ 200 ∷ 2 ∷ 3 ∷ 4 ∷ 5 ∷ 0 ∷ 9 ∷ (numbers ++ (0 ∷ v ∷ rest))

-- each field of a success at its place, in both orders
pub fields_of : (read_reply 108 (accepted 3)
    ≡ gives (success (record { major = 770; minor = 1284; length = 9; release = 185207048; base = 252579084; mask = 319951120; motion = 387323156; vendor = 3; request = 6938; roots = 28; formats = 29; image = 30; bitmap = 31; unit = 32; pad = 33; first = 34; last = 35 })))
    × (read_reply 66 (turned_accepted 3)
    ≡ gives (success (record { major = 515; minor = 1029; length = 9; release = 134810123; base = 202182159; mask = 269554195; motion = 336926231; vendor = 3; request = 6683; roots = 28; formats = 29; image = 30; bitmap = 31; unit = 32; pad = 33; first = 34; last = 35 })))
unfolding read_reply read_success setup_of field number_in low_number turned cut choose refuse
fields_of = (refl, refl)

-- a reason of n bytes in a reply of 16, and one that is all that stands behind the eighth byte
abbrev refusal : ℕ → List ℕ
refusal n = 0 ∷ n ∷ 2 ∷ 3 ∷ 4 ∷ 5 ∷ 2 ∷ 0 ∷ 8 ∷ 9 ∷ 10 ∷ 11 ∷ 12 ∷ 13 ∷ 14 ∷ 15 ∷ []

abbrev further : List ℕ
further = 2 ∷ 5 ∷ 200 ∷ 3 ∷ 4 ∷ 6 ∷ 0 ∷ 2 ∷ 8 ∷ 9 ∷ 10 ∷ 11 ∷ 12 ∷ 13 ∷ 14 ∷ 15 ∷ []

-- the fields of the two others; no fourth first byte
pub others : (read_reply 108 (refusal 5) ≡ gives (failed (record { reason = 5; major = 770; minor = 1284; length = 2 }))) × (read_reply 66 (refusal 5) ≡ gives (failed (record { reason = 5; major = 515; minor = 1029; length = 512 })))
    × (read_reply 66 further ≡ gives (authenticate (record { length = 2 }))) × (read_reply 108 further ≡ gives (authenticate (record { length = 512 }))) × (read_reply 108 (3 ∷ replicate 43 0) ≡ refuses 14)
unfolding read_reply read_failed failed_of authenticate_of field number_in low_number turned cut choose refuse
others = (refl, refl, refl, refl, refl)

-- a text that ends with the reply, and one byte more; a success without its fixed bytes
pub ends : (vendor_place (read_reply 108 (accepted 4)) ≡ record { start = 40; size = 4 }) × (read_reply 108 (accepted 5) ≡ refuses 14) × (read_reply 66 (turned_accepted 5) ≡ refuses 14)
    × (read_reply 108 (1 ∷ replicate 38 0) ≡ refuses 14) × (reason_place (read_reply 108 (refusal 8)) ≡ record { start = 8; size = 8 }) × (read_reply 108 (refusal 9) ≡ refuses 14)
unfolding read_reply read_success read_failed failed_of setup_of field number_in low_number turned cut choose refuse
ends = (refl, refl, refl, refl, refl, refl)

-- the texts, and none in the others
pub texts : (text_at (vendor_place (read_reply 108 (accepted 3))) (accepted 3) ≡ 40 ∷ 41 ∷ 42 ∷ []) × (text_at (reason_place (read_reply 108 (refusal 5))) (refusal 5) ≡ 8 ∷ 9 ∷ 10 ∷ 11 ∷ 12 ∷ [])
    × (text_at (reason_place (read_reply 66 further)) further ≡ 8 ∷ 9 ∷ 10 ∷ 11 ∷ 12 ∷ 13 ∷ 14 ∷ 15 ∷ []) × (vendor_place (read_reply 108 (refusal 5)) ≡ nowhere) × (vendor_place (read_reply 66 further) ≡ nowhere)
    × (reason_place (read_reply 108 (accepted 3)) ≡ nowhere) × (vendor_place (refuses 14) ≡ nowhere) × (reason_place (refuses 14) ≡ nowhere)
unfolding read_reply read_success read_failed failed_of authenticate_of setup_of field number_in low_number turned cut choose refuse
texts = (refl, refl, refl, refl, refl, refl, refl, refl)

-- a handshake by its three numbers
abbrev at : ℕ → ℕ → ℕ → Connect
at o n t = record { order = o; filled = n; target = t }

-- 8 bytes until these are there, and then 8 and four for each unit
pub aims : (aim 108 (accepted 3) 7 ≡ 8) × (aim 108 (accepted 3) 8 ≡ 44) × (aim 66 (turned_accepted 3) 8 ≡ 44) × (aim 66 (turned_accepted 3) 20 ≡ 44) × (aim 108 (turned_accepted 3) 8 ≡ 9224)
unfolding aim reply_length field number_in low_number turned cut choose
aims = (refl, refl, refl, refl, refl)

-- sound: the target as the bytes filled give it, fitting, reached or not, and not passed
pub sounds : (soundb (at 108 3 8) (accepted 3) ≡ true) × (soundb (at 108 20 44) (accepted 3) ≡ true) × (soundb (at 66 44 44) (turned_accepted 3) ≡ true) × (soundb (at 108 8 8) (accepted 3) ≡ false) × (soundb (at 108 3 44) (accepted 3) ≡ false)
    × (soundb (at 108 45 44) (accepted 3 ++ (0 ∷ [])) ≡ false) × (soundb (at 108 8 44) (take 43 (accepted 3)) ≡ false) × (soundb (at 67 3 8) (accepted 3) ≡ false) × (soundb (at 108 3 8) (replicate 7 0) ≡ false)
unfolding soundb room aim reply_length legal field number_in low_number turned cut choose both either
sounds = (refl, refl, refl, refl, refl, refl, refl, refl, refl)

-- what is still to be filled: how much, where, and which bytes; nothing of a complete reply
pub parts : (capacity (at 108 20 44) (accepted 3) ≡ gives 24) × (unfilled (at 108 20 44) (accepted 3) ≡ record { start = 20; end = 44 }) × (unfilled (at 108 44 44) (accepted 3) ≡ record { start = 44; end = 44 })
    × (unfilled (at 108 20 43) (accepted 3) ≡ record { start = 0; end = 0 }) × (capacity (at 108 20 43) (accepted 3) ≡ refuses 9) × (part (unfilled (at 108 3 8) (accepted 3)) (accepted 3) ≡ 3 ∷ 4 ∷ 5 ∷ 9 ∷ 0 ∷ [])
unfolding capacity unfilled soundb room aim reply_length legal field number_in low_number turned cut choose both either refuse
parts = (refl, refl, refl, refl, refl, refl)

-- counting bytes: to the eighth, past it, to the end; 7 for one more than the part has, 2 for a reply that is longer than its buffer by one byte; of no more bytes a complete one stays complete
pub advances : (advanced (at 108 3 8) (accepted 3) 4 ≡ gives (waits (at 108 7 8))) × (advanced (at 108 3 8) (accepted 3) 5 ≡ gives (waits (at 108 8 44))) × (advanced (at 66 8 44) (turned_accepted 3) 36 ≡ gives (complete (at 66 44 44)))
    × (advanced (at 108 44 44) (accepted 3) 0 ≡ gives (complete (at 108 44 44))) × (advanced (at 108 3 8) (accepted 3) 6 ≡ refuses 7) × (advanced (at 108 3 8) (take 43 (accepted 3)) 5 ≡ refuses 2) × (advanced (at 108 3 9) (accepted 3) 6 ≡ refuses 9)
unfolding advanced reached soundb room aim reply_length legal field number_in low_number turned cut choose both either refuse
advances = (refl, refl, refl, refl, refl, refl, refl)

-- what the reply says once it is complete, of the bytes up to the target alone; 15 one byte before that
pub setups : (setup (at 108 16 16) (refusal 8 ++ (1 ∷ [])) ≡ read_reply 108 (refusal 8)) × (setup (at 108 16 16) (refusal 9 ++ (1 ∷ [])) ≡ refuses 14) × (setup (at 108 15 16) (refusal 9) ≡ refuses 15) × (setup (at 108 15 15) (refusal 5) ≡ refuses 9)
unfolding setup read_reply read_failed failed_of soundb room aim reply_length legal field number_in low_number turned cut choose both either refuse
setups = (refl, refl, refl, refl)
