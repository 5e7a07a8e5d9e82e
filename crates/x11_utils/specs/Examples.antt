-- What is asked of a packet and the fields of an error, computed: rows that the nearest other readings fail. Assumes nothing.
use Rattle.std.specs.Prelude.{◌≡◌, refl, List, ◌∷◌, ℕ, replicate}
use Rattle.octets.specs.Logic.{choose, either}
use Rattle.octets.specs.Bytes.{legal, number_in, low_number, turned}
use Rattle.octets.specs.Put.{cut}
use Rattle.octets.specs.Field.{field}
use Rattle.refusal.specs.Answer.{gives, refuses, refuse, after}
use Rattle.x11_utils.specs.Packet.{checked}
use Rattle.x11_utils.specs.Error.{error_of, parsed}

-- 32 bytes are a packet and 31 are none; each order; the first byte; 1 before 13 before 14 (of the most bytes `values/specs/Orders.antt` speaks)
pub checks : (checked 108 (1 ∷ replicate 31 0) 1 ≡ gives tt) × (checked 66 (1 ∷ replicate 31 0) 1 ≡ gives tt) × (checked 108 (1 ∷ replicate 30 0) 1 ≡ refuses 1) × (checked 67 (1 ∷ replicate 31 0) 1 ≡ refuses 13)
    × (checked 108 (0 ∷ 1 ∷ replicate 30 1) 1 ≡ refuses 14) × (checked 67 (1 ∷ replicate 30 0) 0 ≡ refuses 1) × (checked 67 (1 ∷ replicate 31 0) 0 ≡ refuses 13)
unfolding checked legal refuse either
checks = (refl, refl, refl, refl, refl, refl, refl)

-- an error whose bytes all differ
abbrev error : List ℕ
error = 0 ∷ 3 ∷ 4 ∷ 5 ∷ 6 ∷ 7 ∷ 8 ∷ 9 ∷ 10 ∷ 11 ∷ 12 ∷ 13 ∷ 14 ∷ replicate 19 99

-- its fields in both orders; a reply is no error
pub errors : (parsed 108 error ≡ gives (record { code = 3; sequence = record { 0 = 1284 }; value = 151521030; minor = 2826; major = 12 }))
    × (parsed 66 error ≡ gives (record { code = 3; sequence = record { 0 = 1029 }; value = 101124105; minor = 2571; major = 12 }))
    × (parsed 108 (1 ∷ replicate 31 0) ≡ refuses 14)
unfolding parsed error_of checked after legal field number_in low_number turned cut choose refuse either
errors = (refl, refl, refl)
