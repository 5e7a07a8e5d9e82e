-- What is seen of the rooms, and the version, computed: rows that the nearest other readings fail. Assumes nothing.
use Rattle.std.specs.Prelude.{◌≡◌, refl, true, false, [], ◌∷◌}
use Rattle.octets.specs.Logic.{choose, both}
use Rattle.refusal.specs.Answer.{gives, refuses, refuse}
use Rattle.requests.specs.Room.{capacity, sized, request_at, byte_at, request_of, mode_of}
use Rattle.requests.specs.declared.Mode.TheVariants as Mode
use Rattle.held.specs.Head.{held}
use Rattle.answers.specs.Shown.{kind_number}
use Rattle.xiengmado.specs.Looking.{request_kept, request_fields, record_fields}
use Rattle.xiengmado.specs.ExportsLeaves.{version_of, XmVersion}

-- the request of a number by its slot, and 9 for no room; descriptors before the mode; kind, number, length, descriptors
pub looks : (request_kept (4 ∷ 3 ∷ 0 ∷ []) 7 ≡ gives (record { descriptors = true; mode = Mode.DiscardReply })) × (request_kept [] 7 ≡ refuses 9) × (request_fields (record { descriptors = true; mode = Mode.DiscardReplyAndError }) ≡ 1 ∷ 2 ∷ [])
    × (request_fields (record { descriptors = false; mode = Mode.DiscardReply }) ≡ 0 ∷ 1 ∷ []) × (record_fields (held 5 7 0 (51 ∷ 52 ∷ [])) ≡ 0 ∷ 5 ∷ 2 ∷ 7 ∷ []) × (record_fields (held 6 0 1 (51 ∷ 52 ∷ 53 ∷ [])) ≡ 1 ∷ 6 ∷ 3 ∷ 0 ∷ [])
unfolding request_kept capacity sized request_at byte_at request_of mode_of kind_number refuse both choose
looks = (refl, refl, refl, refl, refl, refl)

-- a version's three numbers in their places; this is 0.2.0
pub versions : (version_of 1 2 3 ≡ 66051) × XmVersion 512
versions = (refl, refl)
