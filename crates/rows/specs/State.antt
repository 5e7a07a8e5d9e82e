-- Rows of numbers read as states, and states put into rows. Assumes nothing.
use Rattle.std.specs.Prelude.{◌≡◌, refl, Bool, true, false, List, [], ◌∷◌, ℕ, zero, suc, ◌+◌, ◌<◌, eqb, ltb, length, get_or, set}
use Rattle.std.proofs.Common.{ap, ◌∙◌, arith, eqb-true, eq-eqb, ltb-true, lt-ltb}
use Rattle.octets.specs.Logic.{both, choose, both_left, both_right, both_on}
use Rattle.model.specs.declared.Connection.{Connection}
use Rattle.packet_reader.specs.declared.PacketReader.{PacketReader}
use Rattle.connect.specs.declared.handshake.Connect.{Connect}
use Rattle.id_allocator.specs.declared.IdAllocator.{IdAllocator}

-- how many numbers the state of a connection has, and that of anything else
abbrev pub connection_slots : ℕ
connection_slots = 16

abbrev pub three_slots : ℕ
three_slots = 3

-- Sixteen numbers are a connection's where the byte order is a byte and the last four are 0;
unfoldable pub fits : List ℕ → Bool
fits s =
    both (eqb (length s) connection_slots)
    (both (ltb (get_or s 0 0) 256)
    (both (eqb (get_or s 12 0) 0)
    (both (eqb (get_or s 13 0) 0)
    (both (eqb (get_or s 14 0) 0)
    (eqb (get_or s 15 0) 0)))))

-- what is not is read as this state, which no call takes.
abbrev pub unfit : Connection
unfit = record {
  order = 0;
  capacity = 0;
  room = 0;
  written = 0;
  expected = 0;
  read = 0;
  first = 0;
  window = record { start = 0; end = 0 };
  counts = record { closed = 0; held = 0; waiting = 0 };
}

-- the state that sixteen numbers are
abbrev pub connection_at : List ℕ → Connection
connection_at s = record {
  order = get_or s 0 0;
  capacity = get_or s 1 0;
  room = get_or s 2 0;
  written = get_or s 3 0;
  expected = get_or s 4 0;
  read = get_or s 5 0;
  first = get_or s 6 0;
  window = record { start = get_or s 7 0; end = get_or s 8 0 };
  counts = record { closed = get_or s 9 0; held = get_or s 10 0; waiting = get_or s 11 0 };
}

unfoldable pub connection_of : List ℕ → Connection
connection_of s = choose (fits s) (connection_at s) unfit

-- four numbers put over those from index at on
abbrev pub four : {A : Type 0} → List A → ℕ → A → A → A → A → List A
four s at a b c d = set (set (set (set s at a) (at + 1) b) (at + 2) c) (at + 3) d

-- the numbers of a state, in their order
abbrev pub connection_numbers : Connection → List ℕ
connection_numbers c =
    c.order ∷ c.capacity ∷ c.room ∷ c.written
    ∷ c.expected ∷ c.read ∷ c.first ∷ c.window.start
    ∷ c.window.end ∷ c.counts.closed ∷ c.counts.held ∷ c.counts.waiting
    ∷ 0 ∷ 0 ∷ 0 ∷ 0 ∷ []

-- a state put into a row of sixteen; any other row stays
unfoldable pub connection_row : List ℕ → Connection → List ℕ
connection_row s c = choose (eqb (length s) connection_slots) (connection_numbers c) s

-- the same in a row that was read as a state, whose last four numbers are 0: the twelve others are written
unfoldable pub kept_row : List ℕ → Connection → List ℕ
kept_row s c =
    choose (eqb (length s) connection_slots)
    (four (four (four s 0 c.order c.capacity c.room c.written) 4 c.expected c.read c.first c.window.start) 8 c.window.end c.counts.closed c.counts.held c.counts.waiting)
    s

-- the eight numbers that intake changes
unfoldable pub filed_row : List ℕ → Connection → List ℕ
filed_row s c =
    choose (eqb (length s) connection_slots)
    (four (four s 4 c.expected c.read c.first c.window.start) 8 c.window.end c.counts.closed c.counts.held c.counts.waiting)
    s

-- the five that a poll changes
unfoldable pub polled_row : List ℕ → Connection → List ℕ
polled_row s c = choose (eqb (length s) connection_slots) (set (four s 8 c.window.end c.counts.closed c.counts.held c.counts.waiting) 7 c.window.start) s

-- the two numbers that a send changes
unfoldable pub sent_row : List ℕ → Connection → List ℕ
sent_row s c = choose (eqb (length s) connection_slots) (set (set s 3 c.written) 4 c.expected) s

-- three numbers of which the first is a byte
unfoldable pub byte_row : List ℕ → Bool
byte_row s = both (eqb (length s) three_slots) (ltb (get_or s 0 0) 256)

-- a row of three
unfoldable pub row : List ℕ → ℕ → ℕ → ℕ → List ℕ
row s a b c = choose (eqb (length s) three_slots) (set (set (set s 0 a) 1 b) 2 c) s

-- the byte and the two numbers of such a row, or zeros
unfoldable pub counted_of : List ℕ → ℕ × ℕ × ℕ
counted_of s = choose (byte_row s) (get_or s 0 0, get_or s 1 0, get_or s 2 0) (0, 0, 0)

-- a reader, a handshake and an allocator, and their rows
abbrev pub reader_at : List ℕ → PacketReader
reader_at s = record { order = get_or s 0 0; filled = get_or s 1 0; target = get_or s 2 0 }

unfoldable pub reader_of : List ℕ → PacketReader
reader_of s = choose (byte_row s) (reader_at s) (record { order = 0; filled = 0; target = 0 })

abbrev pub reader_row : List ℕ → PacketReader → List ℕ
reader_row s r = row s r.order r.filled r.target

-- the two numbers that a reader changes when it advances
abbrev pub advanced_row : List ℕ → PacketReader → List ℕ
advanced_row s r = set (set s 1 r.filled) 2 r.target

abbrev pub handshake_at : List ℕ → Connect
handshake_at s = record { order = get_or s 0 0; filled = get_or s 1 0; target = get_or s 2 0 }

unfoldable pub handshake_of : List ℕ → Connect
handshake_of s = choose (byte_row s) (handshake_at s) (record { order = 0; filled = 0; target = 0 })

abbrev pub handshake_row : List ℕ → Connect → List ℕ
handshake_row s r = row s r.order r.filled r.target

unfoldable pub ids_of : List ℕ → IdAllocator
ids_of s = choose (eqb (length s) three_slots) (record { next = get_or s 0 0; last = get_or s 1 0; step = get_or s 2 0 }) (record { next = 0; last = 0; step = 0 })

abbrev pub ids_row : List ℕ → IdAllocator → List ℕ
ids_row s a = row s a.next a.last a.step

-- ---- laws

-- A LIST OF n NUMBERS is its elements in a row: once they are written so, what is put into it and read from it computes.
unfoldable pub elements : ℕ → (ℕ → ℕ) → List ℕ
elements zero f = []
elements (suc n) f = f 0 ∷ elements n (λ i. f (suc i))

pub is_elements : (n : ℕ) (s : List ℕ) → length s ≡ n → s ≡ elements n (λ i. get_or s i 0)
unfolding elements
is_elements zero [] l = refl
is_elements zero (a ∷ s) l = absurd (omega (arith, l))
is_elements (suc n) [] l = absurd (omega (arith, l))
is_elements (suc n) (a ∷ s) l = ap (λ (t : List ℕ). a ∷ t) (is_elements n s (omega (arith, l)))

-- what is known of rows that are states
pub fits_long : (s : List ℕ) → fits s ≡ true → (length s ≡ connection_slots) × (get_or s 0 0 < 256)
unfolding fits
fits_long s h = (eqb-true _ _ (both_left _ _ h), ltb-true _ _ (both_left _ _ (both_right _ _ h)))

pub fits_zeros : (s : List ℕ) → fits s ≡ true → (get_or s 12 0 ≡ 0) × (get_or s 13 0 ≡ 0) × (get_or s 14 0 ≡ 0) × (get_or s 15 0 ≡ 0)
unfolding fits
fits_zeros s h =
    let h₁ = both_right _ _ (both_right _ _ h) in let h₂ = both_right _ _ h₁ in let h₃ = both_right _ _ h₂ in
    (eqb-true _ _ (both_left _ _ h₁), eqb-true _ _ (both_left _ _ h₂), eqb-true _ _ (both_left _ _ h₃), eqb-true _ _ (both_right _ _ h₃))

pub byte_long : (s : List ℕ) → byte_row s ≡ true → (length s ≡ three_slots) × (get_or s 0 0 < 256)
unfolding byte_row
byte_long s h = (eqb-true _ _ (both_left _ _ h), ltb-true _ _ (both_right _ _ h))

-- a row that is a state, and one that is not
pub connection_on : (s : List ℕ) (c : Connection) → fits s ≡ true → c ≡ connection_at s → c ≡ connection_of s
unfolding connection_of choose
connection_on s c h e = simp h e

pub connection_off : (s : List ℕ) (c : Connection) → fits s ≡ false → c ≡ unfit → c ≡ connection_of s
unfolding connection_of choose
connection_off s c h e = simp h e

pub reader_on : (s : List ℕ) (r : PacketReader) → byte_row s ≡ true → r ≡ reader_at s → r ≡ reader_of s
unfolding reader_of choose
reader_on s r h e = simp h e

pub reader_off : (s : List ℕ) → byte_row s ≡ false → record { order = 0; filled = 0; target = 0 } ≡ reader_of s
unfolding reader_of choose
reader_off s h = simp h

pub handshake_on : (s : List ℕ) (c : Connect) → byte_row s ≡ true → c ≡ handshake_at s → c ≡ handshake_of s
unfolding handshake_of choose
handshake_on s c h e = simp h e

pub handshake_off : (s : List ℕ) → byte_row s ≡ false → record { order = 0; filled = 0; target = 0 } ≡ handshake_of s
unfolding handshake_of choose
handshake_off s h = simp h

-- the same by their three numbers
pub reader_read : (s : List ℕ) (x : ℕ × ℕ × ℕ) → x ≡ counted_of s → record { order = x.0; filled = x.1; target = x.2 } ≡ reader_of s
unfolding counted_of choose
reader_read s x e = go (byte_row s) refl e
  where
    go : (b : Bool) → byte_row s ≡ b → x ≡ choose b (get_or s 0 0, get_or s 1 0, get_or s 2 0) (0, 0, 0) → record { order = x.0; filled = x.1; target = x.2 } ≡ reader_of s
    go true h k = reader_on s _ h (ap (λ (y : ℕ × ℕ × ℕ). record { order = y.0; filled = y.1; target = y.2 }) k)
    go false h k = ap (λ (y : ℕ × ℕ × ℕ). record { order = y.0; filled = y.1; target = y.2 }) k ∙ reader_off s h

pub handshake_read : (s : List ℕ) (x : ℕ × ℕ × ℕ) → x ≡ counted_of s → record { order = x.0; filled = x.1; target = x.2 } ≡ handshake_of s
unfolding counted_of choose
handshake_read s x e = go (byte_row s) refl e
  where
    go : (b : Bool) → byte_row s ≡ b → x ≡ choose b (get_or s 0 0, get_or s 1 0, get_or s 2 0) (0, 0, 0) → record { order = x.0; filled = x.1; target = x.2 } ≡ handshake_of s
    go true h k = handshake_on s _ h (ap (λ (y : ℕ × ℕ × ℕ). record { order = y.0; filled = y.1; target = y.2 }) k)
    go false h k = ap (λ (y : ℕ × ℕ × ℕ). record { order = y.0; filled = y.1; target = y.2 }) k ∙ handshake_off s h

pub kept_filled : (s : List ℕ) (c : Connection) → length s ≡ connection_slots
    → kept_row s c ≡ four (four (four s 0 c.order c.capacity c.room c.written) 4 c.expected c.read c.first c.window.start) 8 c.window.end c.counts.closed c.counts.held c.counts.waiting
unfolding kept_row choose
kept_filled s c h = simp (eq-eqb _ _ h)

-- a state that was put into its row, four numbers at a time
pub row_filled : (s s₁ s₂ s₃ s₄ : List ℕ) (c : Connection) → length s ≡ connection_slots → s₁ ≡ four s 0 c.order c.capacity c.room c.written
    → s₂ ≡ four s₁ 4 c.expected c.read c.first c.window.start → s₃ ≡ four s₂ 8 c.window.end c.counts.closed c.counts.held c.counts.waiting → s₄ ≡ four s₃ 12 0 0 0 0
    → s₄ ≡ connection_row s c
unfolding connection_row choose elements
row_filled s s₁ s₂ s₃ s₄ c h e₁ e₂ e₃ e₄ = rw (e₄, e₃, e₂, e₁, is_elements connection_slots s h)

-- the test of a row, once its last part is left
pub fits_last : (s : List ℕ) → length s ≡ connection_slots → get_or s 0 0 < 256 → get_or s 12 0 ≡ 0 → get_or s 13 0 ≡ 0 → get_or s 14 0 ≡ 0 → eqb (get_or s 15 0) 0 ≡ fits s
unfolding fits
fits_last s a b c d e = both_on (eq-eqb _ _ e) ∙ both_on (eq-eqb _ _ d) ∙ both_on (eq-eqb _ _ c) ∙ both_on (lt-ltb _ _ b) ∙ both_on (eq-eqb _ _ a)
