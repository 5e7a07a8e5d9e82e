-- States in rows of numbers, computed: rows that the nearest other readings fail. Assumes nothing.
use Rattle.std.specs.Prelude.{◌≡◌, refl, true, false, List, [], ◌∷◌, ℕ}
use Rattle.octets.specs.Logic.{both, choose}
use Rattle.model.specs.declared.Connection.{Connection}
use Rattle.rows.specs.State.{fits, unfit, connection_of, four, connection_row, sent_row, filed_row, polled_row, byte_row, counted_of, row, reader_of, reader_row, advanced_row, handshake_of, handshake_row, ids_of, ids_row}

-- sixteen numbers, of which the first and the last four are given
abbrev sixteen : ℕ → ℕ → ℕ → ℕ → ℕ → List ℕ
sixteen o a b c d = o ∷ 2 ∷ 3 ∷ 4 ∷ 5 ∷ 6 ∷ 7 ∷ 8 ∷ 9 ∷ 10 ∷ 11 ∷ 12 ∷ a ∷ b ∷ c ∷ d ∷ []

abbrev fifteen : List ℕ
fifteen = 66 ∷ 2 ∷ 3 ∷ 4 ∷ 5 ∷ 6 ∷ 7 ∷ 8 ∷ 9 ∷ 10 ∷ 11 ∷ 12 ∷ 0 ∷ 0 ∷ 0 ∷ []

abbrev state : Connection
state = record { order = 66; capacity = 2; room = 3; written = 4; expected = 5; read = 6; first = 7; window = record { start = 8; end = 9 }; counts = record { closed = 10; held = 11; waiting = 12 } }

abbrev other : Connection
other = record { order = 31; capacity = 32; room = 33; written = 34; expected = 35; read = 36; first = 37; window = record { start = 38; end = 39 }; counts = record { closed = 40; held = 41; waiting = 42 } }

-- a byte first, zeros last, and sixteen
pub fitting : (fits (sixteen 66 0 0 0 0) ≡ true) × (fits (sixteen 255 0 0 0 0) ≡ true) × (fits (sixteen 256 0 0 0 0) ≡ false) × (fits (sixteen 66 1 0 0 0) ≡ false) × (fits (sixteen 66 0 1 0 0) ≡ false) × (fits (sixteen 66 0 0 1 0) ≡ false)
    × (fits (sixteen 66 0 0 0 1) ≡ false) × (fits fifteen ≡ false) × (fits (1 ∷ sixteen 66 0 0 0 0) ≡ false)
unfolding fits both
fitting = (refl, refl, refl, refl, refl, refl, refl, refl, refl)

-- each number in its place, and none of a row that does not fit
pub connections : (connection_of (sixteen 66 0 0 0 0) ≡ state) × (connection_of (sixteen 66 0 0 0 1) ≡ unfit) × (connection_of fifteen ≡ unfit) × (connection_row (sixteen 1 6 7 8 9) state ≡ sixteen 66 0 0 0 0) × (connection_row fifteen state ≡ fifteen)
    × (sent_row (sixteen 66 6 7 8 9) (record { order = 1; capacity = 1; room = 1; written = 24; expected = 25; read = 1; first = 1; window = record { start = 1; end = 1 }; counts = record { closed = 1; held = 1; waiting = 1 } })
    ≡ 66 ∷ 2 ∷ 3 ∷ 24 ∷ 25 ∷ 6 ∷ 7 ∷ 8 ∷ 9 ∷ 10 ∷ 11 ∷ 12 ∷ 6 ∷ 7 ∷ 8 ∷ 9 ∷ [])
    × (sent_row fifteen state ≡ fifteen) × (four {A = ℕ} (1 ∷ 2 ∷ 3 ∷ 4 ∷ 5 ∷ 6 ∷ []) 1 7 8 9 10 ≡ 1 ∷ 7 ∷ 8 ∷ 9 ∷ 10 ∷ 6 ∷ [])
unfolding connection_of connection_row sent_row fits both choose
connections = (refl, refl, refl, refl, refl, refl, refl, refl)

-- what a send, intake and a poll write, and nothing else
pub changes : (sent_row (sixteen 66 6 7 8 9) other ≡ 66 ∷ 2 ∷ 3 ∷ 34 ∷ 35 ∷ 6 ∷ 7 ∷ 8 ∷ 9 ∷ 10 ∷ 11 ∷ 12 ∷ 6 ∷ 7 ∷ 8 ∷ 9 ∷ []) × (sent_row fifteen other ≡ fifteen)
    × (filed_row (sixteen 66 6 7 8 9) other ≡ 66 ∷ 2 ∷ 3 ∷ 4 ∷ 35 ∷ 36 ∷ 37 ∷ 38 ∷ 39 ∷ 40 ∷ 41 ∷ 42 ∷ 6 ∷ 7 ∷ 8 ∷ 9 ∷ []) × (filed_row fifteen other ≡ fifteen)
    × (polled_row (sixteen 66 6 7 8 9) other ≡ 66 ∷ 2 ∷ 3 ∷ 4 ∷ 5 ∷ 6 ∷ 7 ∷ 38 ∷ 39 ∷ 40 ∷ 41 ∷ 42 ∷ 6 ∷ 7 ∷ 8 ∷ 9 ∷ []) × (polled_row fifteen other ≡ fifteen)
unfolding sent_row filed_row polled_row choose
changes = (refl, refl, refl, refl, refl, refl)

-- rows of three: a reader and a handshake begin with a byte, an allocator with any number
pub threes : (byte_row (255 ∷ 7 ∷ 8 ∷ []) ≡ true) × (byte_row (256 ∷ 7 ∷ 8 ∷ []) ≡ false) × (byte_row (66 ∷ 7 ∷ []) ≡ false) × (row (1 ∷ 2 ∷ 3 ∷ []) 7 8 9 ≡ 7 ∷ 8 ∷ 9 ∷ []) × (row (1 ∷ 2 ∷ []) 7 8 9 ≡ 1 ∷ 2 ∷ [])
    × (reader_of (66 ∷ 7 ∷ 8 ∷ []) ≡ record { order = 66; filled = 7; target = 8 }) × (reader_of (256 ∷ 7 ∷ 8 ∷ []) ≡ record { order = 0; filled = 0; target = 0 }) × (reader_row (1 ∷ 2 ∷ 3 ∷ []) (record { order = 66; filled = 7; target = 8 }) ≡ 66 ∷ 7 ∷ 8 ∷ [])
    × (advanced_row (1 ∷ 2 ∷ 3 ∷ []) (record { order = 66; filled = 7; target = 8 }) ≡ 1 ∷ 7 ∷ 8 ∷ [])
    × (handshake_of (66 ∷ 7 ∷ 8 ∷ []) ≡ record { order = 66; filled = 7; target = 8 }) × (handshake_of (66 ∷ 7 ∷ []) ≡ record { order = 0; filled = 0; target = 0 }) × (handshake_row (1 ∷ 2 ∷ 3 ∷ []) (record { order = 66; filled = 7; target = 8 }) ≡ 66 ∷ 7 ∷ 8 ∷ [])
    × (ids_of (256 ∷ 262 ∷ 2 ∷ []) ≡ record { next = 256; last = 262; step = 2 }) × (ids_of (256 ∷ 262 ∷ []) ≡ record { next = 0; last = 0; step = 0 }) × (ids_row (1 ∷ 2 ∷ 3 ∷ []) (record { next = 256; last = 262; step = 2 }) ≡ 256 ∷ 262 ∷ 2 ∷ [])
unfolding byte_row row reader_of handshake_of ids_of both choose
threes = (refl, refl, refl, refl, refl, refl, refl, refl, refl, refl, refl, refl, refl, refl, refl)

-- a byte and two numbers, or zeros where the row has none
pub counts : (◌≡◌ {A = ℕ × ℕ × ℕ} (counted_of (66 ∷ 7 ∷ 8 ∷ [])) (66, 7, 8)) × (◌≡◌ {A = ℕ × ℕ × ℕ} (counted_of (256 ∷ 7 ∷ 8 ∷ [])) (0, 0, 0)) × (◌≡◌ {A = ℕ × ℕ × ℕ} (counted_of (66 ∷ 7 ∷ [])) (0, 0, 0))
unfolding counted_of byte_row both choose
counts = (refl, refl, refl)
