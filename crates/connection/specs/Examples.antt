-- `new` at work, computed: rows that the nearest other readings fail. Assumes nothing.
use Rattle.std.specs.Prelude.{◌≡◌, refl, ℕ, replicate}
use Rattle.octets.specs.Logic.{both, either}
use Rattle.octets.specs.Bytes.{legal}
use Rattle.refusal.specs.Answer.{gives, refuses, refuse, pass}
use Rattle.requests.specs.Room.{capacity}
use Rattle.model.specs.Model.{fresh, roomy, new}
use Rattle.model.specs.Reading.{Rooms, rooms}
use Rattle.connection.specs.Calls.{open_exact, opened}

-- rooms of these lengths
abbrev lent : ℕ → ℕ → ℕ → Rooms
lent k s f = rooms (replicate k 7) (replicate s 8) (replicate f 9)

-- K and S are the lengths of the rooms, the first number is 1, the window is at the start, and the rooms stay; 9 for a room out of range and for other than 256 slots, before 13
pub opens : (open_exact 66 (lent 3 50 256)
    ≡ gives (record {
      value = tt;
      state = record { order = 66; capacity = 3; room = 50; written = 0; expected = 0; read = 0; first = 1; window = record { start = 0; end = 0 }; counts = record { closed = 0; held = 0; waiting = 0 } };
      left = lent 3 50 256;
    }))
    × (open_exact 66 (lent 3 47 256) ≡ refuses 9) × (open_exact 66 (lent 0 50 256) ≡ refuses 9) × (open_exact 66 (lent 3 50 255) ≡ refuses 9) × (open_exact 66 (lent 3 50 257) ≡ refuses 9)
    × (open_exact 67 (lent 3 50 256) ≡ refuses 13) × (open_exact 67 (lent 3 47 256) ≡ refuses 9) × (open_exact 67 (lent 3 50 255) ≡ refuses 9)
    × (opened 66 (lent 3 50 256) ≡ gives (tt, fresh 66 3 50)) × (opened 66 (lent 3 50 255) ≡ refuses 9) × (opened 67 (lent 3 50 256) ≡ refuses 13)
unfolding open_exact opened new roomy capacity legal refuse pass both either
opens = (refl, refl, refl, refl, refl, refl, refl, refl, refl, refl, refl)
