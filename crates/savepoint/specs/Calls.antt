-- A CLIENT AS IT LIES in its rooms, what is saved of it, and what the calls of savepoints answer. Assumes nothing.
use Rattle.std.specs.Prelude.{Bool, not, List, [], ◌∷◌, ◌++◌, map, ◌≡◌, ℕ, ◌+◌, ltb, eqb, length, take}
use Rattle.octets.specs.Logic.{both}
use Rattle.octets.specs.Put.{put}
use Rattle.refusal.specs.Answer.{Answer, gives, refuses, refuse, pass}
use Rattle.packet_reader.specs.Reader as Reader
use Rattle.packet_reader.specs.declared.PacketReader.{PacketReader}
use Rattle.id_allocator.specs.Ids as Ids
use Rattle.id_allocator.specs.declared.IdAllocator.{IdAllocator}
use Rattle.requests.specs.Room.{capacity, put_request}
use Rattle.requests.specs.declared.Request.{Request}
use Rattle.held.specs.Head as Head
use Rattle.held.specs.Reading as Store
use Rattle.descriptors.specs.Room.{counted, most_descriptors}
use Rattle.model.specs.Client.{Client, first, used, inside}
use Rattle.model.specs.Reading.{Rooms, reads}
use Rattle.model.specs.Sound as Connection
use Rattle.model.specs.declared.Connection.{Connection}
use Rattle.savepoint.specs.Saved.{Partial, Saved, target, row_of, encode, decode}

-- connection and rooms, reader and buffer, allocator
pub record Laid : Type 0 where
  pub connection : Connection
  pub rooms : Rooms
  pub reader : PacketReader
  pub buffer : List ℕ
  pub ids : IdAllocator

abbrev pub laid : Connection → Rooms → PacketReader → List ℕ → IdAllocator → Laid
laid c r p b a = record { connection = c; rooms = r; reader = p; buffer = b; ids = a }

-- THE READING: the connection as the model reads it; of the buffer, its length and the bytes filled
abbrev pub partial_of : PacketReader → List ℕ → Partial
partial_of p b = record { order = p.order; room = length b; filled = take p.filled b }

abbrev pub saved_of : Laid → Saved
saved_of x = record { client = reads x.connection x.rooms; reader = partial_of x.reader x.buffer; ids = x.ids }

-- sound, each with what is lent with it
unfoldable pub soundb : Laid → Bool
soundb x = both (Connection.soundb x.connection x.rooms) (both (Reader.soundb x.reader x.buffer) (Ids.sound x.ids))

-- a descriptor is waiting, held or to be closed
unfoldable pub holds : Laid → Bool
holds x = not (eqb (inside (reads x.connection x.rooms)) 0)

-- ---- writing

-- `savepoint_length`: 9, then 18
unfoldable pub length_of : Laid → Answer ℕ
length_of x = refuse (not (soundb x)) 9 (refuse (holds x) 18 (gives (length (encode (saved_of x)))))

-- `save` into so many bytes: the same, then 8
unfoldable pub bytes_of : Laid → ℕ → Answer (List ℕ)
bytes_of x room = pass (length_of x) (λ n. refuse (ltb room n) 8 (gives (encode (saved_of x))))

-- what the call shows of them is how many they are; they stand at the output's start, and a refusal leaves it as found
unfoldable pub count_of : Answer (List ℕ) → Answer ℕ
count_of (gives b) = gives (length b)
count_of (refuses n) = refuses n

unfoldable pub output_of : Answer (List ℕ) → List ℕ → List ℕ
output_of (gives b) out = put out 0 b
output_of (refuses n) out = out

-- ---- reading

-- rooms of the lengths saved
unfoldable pub fitting : Saved → Rooms → List ℕ → Bool
fitting s r b =
    both (eqb (capacity r.requests) s.client.most_requests)
    (both (eqb (length r.store) s.client.most_bytes) (both (eqb (length r.slots) most_descriptors) (eqb (length b) s.reader.room)))

-- A saved client laid into such rooms: each request under its number; replies, then events, at the start of the store; the partial packet at the start of the buffer. All else in them stays.
unfoldable pub put_all : List ℕ → ℕ → List Request → List ℕ
put_all room n [] = room
put_all room n (r ∷ rs) = put_all (put_request room n r) (n + 1) rs

abbrev pub rows_of : Client → List Head.Record
rows_of m = map (row_of Head.reply) m.replies ++ map (row_of Head.event) m.events

abbrev pub connection_of : Client → Connection
connection_of m = record {
  order = m.order;
  capacity = m.most_requests;
  room = m.most_bytes;
  written = m.numbers.written;
  expected = m.numbers.expected;
  read = m.numbers.read;
  first = first m;
  window = record { start = 0; end = used m };
  counts = counted 0 0 0;
}

abbrev pub rooms_of : Client → Rooms → Rooms
rooms_of m r = record { requests = put_all r.requests (first m) m.outstanding; store = put r.store 0 (Store.flat (rows_of m)); slots = r.slots }

abbrev pub reader_of : Partial → PacketReader
reader_of p = record { order = p.order; filled = length p.filled; target = target p }

abbrev pub placed : Saved → Rooms → List ℕ → Laid
placed s r b = laid (connection_of s.client) (rooms_of s.client r) (reader_of s.reader) (put b 0 s.reader.filled) s.ids

-- `restore`: 19, then 9
unfoldable pub restored : List ℕ → Rooms → List ℕ → Answer Laid
restored bytes r b = pass (decode bytes) (λ s. refuse (not (fitting s r b)) 9 (gives (placed s r b)))

-- the values that it hands back, and rooms and buffer at exit: a refusal leaves them as found
abbrev pub Values : Type 0
Values = Connection × (PacketReader × IdAllocator)

unfoldable pub values_of : Answer Laid → Answer Values
values_of (gives x) = gives (x.connection, (x.reader, x.ids))
values_of (refuses n) = refuses n

unfoldable pub rooms_after : Answer Laid → Rooms → Rooms
rooms_after (gives x) r = x.rooms
rooms_after (refuses n) r = r

unfoldable pub buffer_after : Answer Laid → List ℕ → List ℕ
buffer_after (gives x) b = x.buffer
buffer_after (refuses n) b = b

-- ---- THE PROMISES, of an answer and of what is lent at exit

-- `savepoint_length`
abbrev pub Measures : Laid → Answer ℕ → Type 0
Measures x a = a ≡ length_of x

-- `save`
pub record Saves (x : Laid) (out : List ℕ) (a : Answer ℕ) (out' : List ℕ) : Type 0 where
  pub answers : a ≡ count_of (bytes_of x (length out))
  pub writes : out' ≡ output_of (bytes_of x (length out)) out

-- `restore`
pub record Restores (bytes : List ℕ) (r : Rooms) (b : List ℕ) (a : Answer Values) (r' : Rooms) (b' : List ℕ) : Type 0 where
  pub answers : a ≡ values_of (restored bytes r b)
  pub leaves : r' ≡ rooms_after (restored bytes r b) r
  pub fills : b' ≡ buffer_after (restored bytes r b) b
