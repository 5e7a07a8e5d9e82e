-- What follows for the rows that states are kept in. Assumes nothing.
use Rattle.std.specs.Prelude.{◌≡◌, refl, Bool, true, false, List, [], ◌∷◌, ℕ, ◌<◌, eqb, length, get_or}
use Rattle.std.proofs.Common.{sym, subst, ◌∙◌, eq-eqb, lt-ltb}
use Rattle.octets.specs.Bytes.{legal}
use Rattle.octets.specs.Logic.{both, either, choose}
use Rattle.model.specs.Reading.{Rooms}
use Rattle.model.specs.Sound as Sound
use Rattle.model.specs.declared.Connection.{Connection}
use Rattle.model.specs.Moved.{moved_state, sent_state}
use Rattle.held.specs.declared.Window.{Window}
use Rattle.descriptors.specs.declared.Counts.{Counts}
use Rattle.packet_reader.specs.Reader as Reader
use Rattle.packet_reader.specs.declared.PacketReader.{PacketReader}
use Rattle.connect.specs.Handshake as Handshake
use Rattle.connect.specs.declared.handshake.Connect.{Connect}
use Rattle.id_allocator.specs.Ids as Ids
use Rattle.id_allocator.specs.declared.IdAllocator.{IdAllocator}
use Rattle.rows.specs.State.{connection_slots, three_slots, fits, fits_long, fits_zeros, connection_at, connection_of, connection_on, connection_row, elements, is_elements, kept_row, filed_row, polled_row, sent_row, byte_row, row, reader_of, reader_row, advanced_row, handshake_of, handshake_row, ids_of, ids_row}

-- ---- A state that is put into a row is read back from it, whatever stood there.

pub connection_back : (s : List ℕ) (x : Connection) → length s ≡ connection_slots → x.order < 256 → connection_of (connection_row s x) ≡ x
unfolding connection_row connection_of fits both choose
connection_back s x l q = simp (eq-eqb _ _ l, lt-ltb _ _ q)

pub reader_back : (s : List ℕ) (x : PacketReader) → length s ≡ three_slots → x.order < 256 → reader_of (reader_row s x) ≡ x
unfolding row reader_of byte_row both choose elements
reader_back s x l q = rw (is_elements three_slots s l) (simp (lt-ltb _ _ q))

pub handshake_back : (s : List ℕ) (x : Connect) → length s ≡ three_slots → x.order < 256 → handshake_of (handshake_row s x) ≡ x
unfolding row handshake_of byte_row both choose elements
handshake_back s x l q = rw (is_elements three_slots s l) (simp (lt-ltb _ _ q))

pub ids_back : (s : List ℕ) (x : IdAllocator) → length s ≡ three_slots → ids_of (ids_row s x) ≡ x
unfolding row ids_of choose elements
ids_back s x l = rw (is_elements three_slots s l)

-- ---- What a call leaves is put into the row that the state was read from by writing twelve numbers,

pub kept_row_lem : (s : List ℕ) (c : Connection) → fits s ≡ true → kept_row s c ≡ connection_row s c
unfolding kept_row connection_row choose elements
kept_row_lem s c h =
    let z = fits_zeros s h in
    rw (is_elements connection_slots s (fits_long s h).0) (simp (z.0, z.1, z.2, z.3))

-- ---- What a send leaves is put into the row that the state was read from by writing two numbers.

pub sent_row_lem : (s : List ℕ) (x y : ℕ) → fits s ≡ true → sent_row s (sent_state (connection_of s) x y) ≡ connection_row s (sent_state (connection_of s) x y)
unfolding sent_row connection_row choose elements
sent_row_lem s x y h =
    let z = fits_zeros s h in
    subst (λ (c : Connection). sent_row s (sent_state c x y) ≡ connection_row s (sent_state c x y)) (connection_on s (connection_at s) h refl) (rw (is_elements connection_slots s (fits_long s h).0) (simp (z.0, z.1, z.2, z.3)))

-- ---- What intake or a poll leaves is put there by writing what changed: the row is twelve numbers and four zeros.

abbrev zeroed : (ℕ → ℕ) → List ℕ
zeroed f = f 0 ∷ f 1 ∷ f 2 ∷ f 3 ∷ f 4 ∷ f 5 ∷ f 6 ∷ f 7 ∷ f 8 ∷ f 9 ∷ f 10 ∷ f 11 ∷ 0 ∷ 0 ∷ 0 ∷ 0 ∷ []

is_zeroed : (s : List ℕ) → fits s ≡ true → s ≡ zeroed (λ i. get_or s i 0)
unfolding elements
is_zeroed s h =
    let z = fits_zeros s h in
    is_elements connection_slots s (fits_long s h).0
    ∙ (λ i. get_or s 0 0 ∷ get_or s 1 0 ∷ get_or s 2 0 ∷ get_or s 3 0 ∷ get_or s 4 0 ∷ get_or s 5 0 ∷ get_or s 6 0 ∷ get_or s 7 0 ∷ get_or s 8 0 ∷ get_or s 9 0 ∷ get_or s 10 0 ∷ get_or s 11 0 ∷ z.0 i ∷ z.1 i ∷ z.2 i ∷ z.3 i ∷ [])

at_state : (P : List ℕ → Connection → Type 0) (s : List ℕ) → fits s ≡ true → ((f : ℕ → ℕ) → P (zeroed f) (connection_at (zeroed f))) → P s (connection_of s)
at_state P s h g =
    subst (P s) (connection_on s (connection_at s) h refl) (subst (λ (t : List ℕ). P t (connection_at t)) (sym (is_zeroed s h)) (g (λ i. get_or s i 0)))

-- the state that intake leaves, with other numbers of packets too
abbrev pub filed_state : Connection → ℕ → ℕ → ℕ → Window → Counts → Connection
filed_state c expected read first w n = record {
  order = c.order;
  capacity = c.capacity;
  room = c.room;
  written = c.written;
  expected = expected;
  read = read;
  first = first;
  window = w;
  counts = n;
}

pub filed_row_lem : (s : List ℕ) (x y z : ℕ) (w : Window) (n : Counts) → fits s ≡ true → filed_row s (filed_state (connection_of s) x y z w n) ≡ connection_row s (filed_state (connection_of s) x y z w n)
unfolding filed_row connection_row choose
filed_row_lem s x y z w n h = at_state (λ t c. filed_row t (filed_state c x y z w n) ≡ connection_row t (filed_state c x y z w n)) s h (λ f. refl)

pub polled_row_lem : (s : List ℕ) (w : Window) (n : Counts) → fits s ≡ true → polled_row s (moved_state (connection_of s) w n) ≡ connection_row s (moved_state (connection_of s) w n)
unfolding polled_row connection_row choose
polled_row_lem s w n h = at_state (λ t c. polled_row t (moved_state c w n) ≡ connection_row t (moved_state c w n)) s h (λ f. refl)

pub advanced_row_lem : (s : List ℕ) (x : PacketReader) → length s ≡ three_slots → x.order ≡ get_or s 0 0 → advanced_row s x ≡ reader_row s x
unfolding row choose elements
advanced_row_lem s x l o = rw (is_elements three_slots s l) (simp (rw (is_elements three_slots s l) at o))

-- ---- A row that is no state is read as one that is not sound, so that every call refuses it by 9.

pub connection_unfit : (s : List ℕ) (r : Rooms) → fits s ≡ false → Sound.soundb (connection_of s) r ≡ false
unfolding connection_of choose Sound.soundb legal both either
connection_unfit s r h = simp h

shut : (b z : Bool) → both b (both false z) ≡ false
unfolding both
shut true z = refl
shut false z = refl

pub reader_unfit : (s buf : List ℕ) → byte_row s ≡ false → Reader.soundb (reader_of s) buf ≡ false
unfolding reader_of choose Reader.soundb legal either
reader_unfit s buf h = simp h (shut _ _)

pub handshake_unfit : (s buf : List ℕ) → byte_row s ≡ false → Handshake.soundb (handshake_of s) buf ≡ false
unfolding handshake_of choose Handshake.soundb legal either
handshake_unfit s buf h = simp h (shut _ _)

pub ids_unfit : (s : List ℕ) → eqb (length s) three_slots ≡ false → Ids.sound (ids_of s) ≡ false
unfolding ids_of choose Ids.sound Ids.power_below both either
ids_unfit s h = simp h
