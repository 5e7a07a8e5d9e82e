-- The setup request, computed: its bytes in both orders, with texts that are padded by one byte, three and none. Assumes nothing.
use Rattle.std.specs.Prelude.{◌≡◌, refl, [], ◌∷◌}
use Rattle.octets.specs.Logic.{choose, either}
use Rattle.octets.specs.Bytes.{legal, low_bytes, bytes_of, turned}
use Rattle.octets.specs.Put.{put}
use Rattle.octets.specs.Lent.{leaves}
use Rattle.refusal.specs.Answer.{gives, refuses, refuse}
use Rattle.setup_request.specs.Pad.{pad, zeros, padded}
use Rattle.setup_request.specs.Request.{opening, setup_request, room_for, size}

-- what rounds a length up to a multiple of four
pub pads : (pad 0 ≡ 0) × (pad 1 ≡ 3) × (pad 2 ≡ 2) × (pad 3 ≡ 1) × (pad 4 ≡ 0) × (pad 65533 ≡ 3)
unfolding pad
pads = (refl, refl, refl, refl, refl, refl)

-- order, 0, version 11.0, the lengths 3 and 5, two zeros, the name and one zero, the data and three
pub requests : (setup_request 108 (21 ∷ 22 ∷ 23 ∷ []) (31 ∷ 32 ∷ 33 ∷ 34 ∷ 35 ∷ [])
    ≡ 108 ∷ 0 ∷ 11 ∷ 0 ∷ 0 ∷ 0 ∷ 3 ∷ 0 ∷ 5 ∷ 0 ∷ 0 ∷ 0 ∷ 21 ∷ 22 ∷ 23 ∷ 0 ∷ 31 ∷ 32 ∷ 33 ∷ 34 ∷ 35 ∷ 0 ∷ 0 ∷ 0 ∷ [])
    × (setup_request 66 (21 ∷ 22 ∷ 23 ∷ []) (31 ∷ 32 ∷ 33 ∷ 34 ∷ 35 ∷ [])
    ≡ 66 ∷ 0 ∷ 0 ∷ 11 ∷ 0 ∷ 0 ∷ 0 ∷ 3 ∷ 0 ∷ 5 ∷ 0 ∷ 0 ∷ 21 ∷ 22 ∷ 23 ∷ 0 ∷ 31 ∷ 32 ∷ 33 ∷ 34 ∷ 35 ∷ 0 ∷ 0 ∷ 0 ∷ [])
    × (setup_request 108 (1 ∷ 2 ∷ 3 ∷ 4 ∷ []) [] ≡ 108 ∷ 0 ∷ 11 ∷ 0 ∷ 0 ∷ 0 ∷ 4 ∷ 0 ∷ 0 ∷ 0 ∷ 0 ∷ 0 ∷ 1 ∷ 2 ∷ 3 ∷ 4 ∷ [])
unfolding setup_request opening bytes_of low_bytes turned choose padded zeros pad
requests = (refl, refl, refl)

-- its length, the least output that is taken and the next less, the longest texts (of the order of refusals `Theorems.antt` speaks)
pub rooms : (size 3 5 ≡ 24) × (size 4 0 ≡ 16) × (room_for 108 3 5 24 24 ≡ gives 24) × (room_for 66 3 5 25 24 ≡ gives 24) × (room_for 108 3 5 23 24 ≡ refuses 8)
    × (room_for 108 65535 65535 131084 131084 ≡ gives 131084) × (room_for 108 65536 0 65548 65548 ≡ refuses 16) × (room_for 108 0 65536 65548 65548 ≡ refuses 16) × (room_for 67 3 5 24 24 ≡ refuses 13)
unfolding size pad room_for legal refuse either
rooms = (refl, refl, refl, refl, refl, refl, refl, refl, refl)

-- the request at the start of the output, the rest as before; nothing after a refusal
pub outputs : (leaves (room_for 108 0 0 14 12) (setup_request 108 [] []) (1 ∷ 1 ∷ 1 ∷ 1 ∷ 1 ∷ 1 ∷ 1 ∷ 1 ∷ 1 ∷ 1 ∷ 1 ∷ 1 ∷ 7 ∷ 8 ∷ [])
    ≡ 108 ∷ 0 ∷ 11 ∷ 0 ∷ 0 ∷ 0 ∷ 0 ∷ 0 ∷ 0 ∷ 0 ∷ 0 ∷ 0 ∷ 7 ∷ 8 ∷ [])
    × (leaves (room_for 108 0 0 2 12) (setup_request 108 [] []) (7 ∷ 8 ∷ []) ≡ 7 ∷ 8 ∷ [])
unfolding setup_request opening bytes_of low_bytes turned choose padded zeros pad room_for legal refuse either put
outputs = (refl, refl)
