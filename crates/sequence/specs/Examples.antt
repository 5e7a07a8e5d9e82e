-- Numbers and sending, computed: rows that the nearest other readings fail. Assumes nothing.
use Rattle.std.specs.Prelude.{◌≡◌, true, false, refl}
use Rattle.octets.specs.Logic.{choose, both}
use Rattle.refusal.specs.Answer.{gives, refuses, refuse}
use Rattle.sequence.specs.Numbering.{last_number, in_range, full}
use Rattle.sequence.specs.Sending.{must_sync, sending, sending_by}

-- after 70,000, whose low 16 bits are 4,464: an equal wire number is no step, one more is one, one less is nearly a round
pub numbers : (full 70000 4464 ≡ 70000) × (full 70000 4465 ≡ 70001) × (full 70000 4463 ≡ 135535) × (full 0 65535 ≡ 65535) × (full 65535 0 ≡ 65536)
unfolding full
numbers = (refl, refl, refl, refl, refl)

-- 2^63 - 1 is the last number
pub lasts : (in_range 9223372036854775807 ≡ gives 9223372036854775807) × (in_range 9223372036854775808 ≡ refuses 3) × (in_range (full last_number 0) ≡ refuses 3) × (in_range (full last_number 65535) ≡ gives last_number)
unfolding in_range full refuse
lasts = (refl, refl, refl, refl)

-- a sync is due 65,534 past next reply expected, not one before
pub syncs : (must_sync 65541 7 ≡ true) × (must_sync 65540 7 ≡ false) × (must_sync 7 65541 ≡ false)
unfolding must_sync
syncs = (refl, refl, refl)

-- last written + 1; next reply expected becomes it with a reply, and stays without one; 6 only without a reply; 3 for either, before 6
pub sends : (sending 10 7 true ≡ gives (record { number = 11; expected = 11 })) × (sending 10 7 false ≡ gives (record { number = 11; expected = 7 })) × (sending 65540 7 false ≡ gives (record { number = 65541; expected = 7 }))
    × (sending 65541 7 false ≡ refuses 6) × (sending 65541 7 true ≡ gives (record { number = 65542; expected = 65542 })) × (sending 9223372036854775806 9223372036854775800 false ≡ gives (record { number = 9223372036854775807; expected = 9223372036854775800 }))
    × (sending last_number last_number true ≡ refuses 3) × (sending last_number 7 false ≡ refuses 3)
unfolding sending must_sync both choose refuse
sends = (refl, refl, refl, refl, refl, refl, refl, refl)

-- another span: 6 from there on, and nothing else is other
pub spans : (sending_by 5 12 7 false ≡ refuses 6) × (sending_by 5 11 7 false ≡ gives (record { number = 12; expected = 7 })) × (sending_by 5 12 7 true ≡ gives (record { number = 13; expected = 13 })) × (sending_by 5 last_number 7 false ≡ refuses 3)
unfolding sending_by both choose refuse
spans = (refl, refl, refl, refl)
