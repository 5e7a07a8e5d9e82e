-- XC-MISC's requests and replies, computed: rows with all fields distinct, in both byte orders, that the nearest other readings fail. Assumes nothing.
use Rattle.std.specs.Prelude.{◌≡◌, refl, List, [], ◌∷◌, ℕ, replicate, take}
use Rattle.octets.specs.Logic.{choose, either}
use Rattle.octets.specs.Bytes.{legal, low_bytes, bytes_of, number_in, low_number, turned}
use Rattle.octets.specs.Put.{put, cut}
use Rattle.octets.specs.Field.{field, fields}
use Rattle.octets.specs.Lent.{leaves}
use Rattle.refusal.specs.Answer.{gives, refuses, refuse, after}
use Rattle.x11_utils.specs.Packet.{checked}
use Rattle.xc_misc.specs.Requests.{header, get_version, get_xid_range, get_xid_list, room_for}
use Rattle.xc_misc.specs.Replies.{version_of, range_of, list_of, ids_of, reaches, units_checked, reply_checked, list_checked, version, range, list}

-- the requests' bytes: version 258.772, and 16,909,060 ids
pub requests : (get_version 108 136 258 772 ≡ 136 ∷ 0 ∷ 2 ∷ 0 ∷ 2 ∷ 1 ∷ 4 ∷ 3 ∷ []) × (get_version 66 136 258 772 ≡ 136 ∷ 0 ∷ 0 ∷ 2 ∷ 1 ∷ 2 ∷ 3 ∷ 4 ∷ [])
    × (get_xid_range 108 136 ≡ 136 ∷ 1 ∷ 1 ∷ 0 ∷ []) × (get_xid_range 66 136 ≡ 136 ∷ 1 ∷ 0 ∷ 1 ∷ [])
    × (get_xid_list 108 136 16909060 ≡ 136 ∷ 2 ∷ 2 ∷ 0 ∷ 4 ∷ 3 ∷ 2 ∷ 1 ∷ []) × (get_xid_list 66 136 16909060 ≡ 136 ∷ 2 ∷ 0 ∷ 2 ∷ 1 ∷ 2 ∷ 3 ∷ 4 ∷ [])
unfolding get_version get_xid_list header bytes_of low_bytes turned choose
requests = (refl, refl, refl, refl, refl, refl)

-- the least output that is taken, the next less, and 8 before 13
pub rooms : (room_for 108 8 8 ≡ gives 8) × (room_for 66 9 8 ≡ gives 8) × (room_for 108 7 8 ≡ refuses 8) × (room_for 67 8 8 ≡ refuses 13) × (room_for 67 7 8 ≡ refuses 8)
unfolding room_for legal refuse either
rooms = (refl, refl, refl, refl, refl)

-- the same for the output that is left: a request at its start, and nothing after a refusal
pub outputs : (leaves (room_for 108 6 4) (9 ∷ 8 ∷ 7 ∷ 6 ∷ []) (1 ∷ 2 ∷ 3 ∷ 4 ∷ 5 ∷ 5 ∷ []) ≡ 9 ∷ 8 ∷ 7 ∷ 6 ∷ 5 ∷ 5 ∷ []) × (leaves (room_for 108 3 4) (9 ∷ 8 ∷ 7 ∷ 6 ∷ []) (1 ∷ 2 ∷ 3 ∷ []) ≡ 1 ∷ 2 ∷ 3 ∷ [])
unfolding room_for legal refuse either put
outputs = (refl, refl)

-- 44 bytes of a reply, least significant byte first: the length in units of four, what stands at byte 8, and behind it bytes that all differ
abbrev reply : ℕ → ℕ → List ℕ
reply units first =
    1 ∷ 200 ∷ 3 ∷ 4 ∷ units ∷ 0 ∷ 0 ∷ 0 ∷ first ∷ 0 ∷ 0 ∷ 0 ∷ 12 ∷ 13 ∷ 14 ∷ 15 ∷ 16 ∷ 17 ∷ 18 ∷ 19 ∷ 20 ∷ 21 ∷ 22 ∷ 23 ∷ 24 ∷ 25 ∷ 26 ∷ 27 ∷ 28 ∷ 29 ∷ 30 ∷ 31
    ∷ 32 ∷ 33 ∷ 34 ∷ 35 ∷ 36 ∷ 37 ∷ 38 ∷ 39 ∷ 40 ∷ 41 ∷ 42 ∷ 43 ∷ []

-- the same, most significant byte first
abbrev turned_reply : ℕ → ℕ → List ℕ
turned_reply units first =
    1 ∷ 200 ∷ 3 ∷ 4 ∷ 0 ∷ 0 ∷ 0 ∷ units ∷ 0 ∷ 0 ∷ 0 ∷ first ∷ 12 ∷ 13 ∷ 14 ∷ 15 ∷ 16 ∷ 17 ∷ 18 ∷ 19 ∷ 20 ∷ 21 ∷ 22 ∷ 23 ∷ 24 ∷ 25 ∷ 26 ∷ 27 ∷ 28 ∷ 29 ∷ 30 ∷ 31
    ∷ 32 ∷ 33 ∷ 34 ∷ 35 ∷ 36 ∷ 37 ∷ 38 ∷ 39 ∷ 40 ∷ 41 ∷ 42 ∷ 43 ∷ []

-- a reply of 32 bytes with 5, 6, 7, 8 at byte 8
abbrev fixed_reply : List ℕ
fixed_reply = 1 ∷ 200 ∷ 3 ∷ 4 ∷ 0 ∷ 0 ∷ 0 ∷ 0 ∷ 5 ∷ 6 ∷ 7 ∷ 8 ∷ 9 ∷ 10 ∷ 11 ∷ 12 ∷ replicate 16 99

-- major before minor, start before count; the wire number of bytes 2 and 3
pub fixed_fields : (version 108 fixed_reply ≡ gives (record { sequence = record { 0 = 1027 }; length = 0; major = 1541; minor = 2055 }))
    × (version 66 fixed_reply ≡ gives (record { sequence = record { 0 = 772 }; length = 0; major = 1286; minor = 1800 }))
    × (range 108 fixed_reply ≡ gives (record { sequence = record { 0 = 1027 }; length = 0; start = 134678021; count = 202050057 }))
    × (range 66 fixed_reply ≡ gives (record { sequence = record { 0 = 772 }; length = 0; start = 84281096; count = 151653132 }))
unfolding version range version_of range_of reply_checked units_checked reaches checked after legal field number_in low_number turned cut choose refuse either
fixed_fields = (refl, refl, refl, refl)

-- the length may say less than the bytes given, and just as much, and no more; 14 for another first byte
pub lengths : (reply_checked 108 (reply 0 0) ≡ gives tt) × (reply_checked 108 (reply 3 0) ≡ gives tt) × (reply_checked 66 (turned_reply 3 0) ≡ gives tt) × (reply_checked 108 (reply 4 0) ≡ refuses 14)
    × (reply_checked 66 (turned_reply 4 0) ≡ refuses 14) × (reply_checked 108 (take 43 (reply 3 0)) ≡ refuses 14) × (reply_checked 108 (0 ∷ replicate 31 0) ≡ refuses 14)
unfolding reply_checked units_checked reaches checked after legal field number_in low_number turned cut choose refuse either
lengths = (refl, refl, refl, refl, refl, refl, refl)

-- the count of ids is held against the bytes given and not against the length: three ids where the length says none, one or three, two of three, and no four
pub counts : (list_checked 108 (reply 0 3) ≡ gives tt) × (list_checked 66 (turned_reply 1 3) ≡ gives tt) × (list_checked 108 (reply 3 3) ≡ gives tt) × (list_checked 108 (reply 3 2) ≡ gives tt)
    × (list_checked 108 (reply 3 4) ≡ refuses 14) × (list_checked 66 (turned_reply 0 4) ≡ refuses 14) × (list_checked 108 (reply 4 3) ≡ refuses 14) × (list_checked 108 (take 43 (reply 0 3)) ≡ refuses 14)
unfolding list_checked reply_checked units_checked reaches checked after legal field number_in low_number turned cut choose refuse either
counts = (refl, refl, refl, refl, refl, refl, refl, refl)

-- a list with its length and its count, and 8 for want of places
pub lists : (list 108 (reply 1 3) 3 ≡ gives (record { sequence = record { 0 = 1027 }; length = 1; count = 3 })) × (list 66 (turned_reply 3 2) 2 ≡ gives (record { sequence = record { 0 = 772 }; length = 3; count = 2 }))
    × (list 108 (reply 1 3) 2 ≡ refuses 8) × (list 108 (reply 3 4) 2 ≡ refuses 14)
unfolding list list_of list_checked reply_checked units_checked reaches checked after legal field number_in low_number turned cut choose refuse either
lists = (refl, refl, refl, refl)

-- the ids from byte 32 on, as many as are counted, at the start of the room
pub ids : (ids_of 108 2 (reply 0 2) ≡ 589439264 ∷ 656811300 ∷ []) × (ids_of 66 2 (turned_reply 0 2) ≡ 539042339 ∷ 606414375 ∷ [])
    × (leaves (list 108 (reply 0 2) 3) (ids_of 108 2 (reply 0 2)) (7 ∷ 7 ∷ 7 ∷ []) ≡ 589439264 ∷ 656811300 ∷ 7 ∷ [])
unfolding ids_of fields list list_of list_checked reply_checked units_checked reaches checked after legal field number_in low_number turned cut put choose refuse either
ids = (refl, refl, refl)
