-- THE READING of a connection and its rooms as the model's state. Assumes nothing.
use Rattle.std.specs.Prelude.{List, [], ◌∷◌, map, ℕ, ◌+◌, ◌-◌, take, drop}
use Rattle.requests.specs.Room.{outstanding}
use Rattle.held.specs.Head as Head
use Rattle.held.specs.Reading as Store
use Rattle.descriptors.specs.Room as Slots
use Rattle.model.specs.Client.{Held, Client, held_packet}
use Rattle.model.specs.declared.Connection.{Connection}

-- the three rooms that are lent with a connection
pub record Rooms : Type 0 where
  pub requests : List ℕ
  pub store : List ℕ
  pub slots : List ℕ

abbrev pub rooms : List ℕ → List ℕ → List ℕ → Rooms
rooms q s f = record { requests = q; store = s; slots = f }

-- how many requests are outstanding
abbrev pub count : Connection → ℕ
count c = c.written + 1 - c.first

-- a held record with these descriptors
abbrev pub held_with : Head.Record → List ℕ → Held
held_with h fds = held_packet h.number h.packet fds

-- held records with the descriptors that they have, one record's behind the other's
unfoldable pub with_descriptors : List Head.Record → List ℕ → List Held
with_descriptors [] fds = []
with_descriptors (h ∷ l) fds = held_with h (take h.fds fds) ∷ with_descriptors l (drop h.fds fds)

-- events have none
abbrev pub event_of : Head.Record → Held
event_of h = held_with h []

abbrev pub slots_of : Connection → Rooms → Slots.Room
slots_of c r = Slots.room r.slots c.counts

-- Where a record lies in the store, where a request's byte is, and what stands in unused bytes and slots is not read.
unfoldable pub reads : Connection → Rooms → Client
reads c r = record {
  order = c.order;
  most_requests = c.capacity;
  most_bytes = c.room;
  numbers = record { written = c.written; expected = c.expected; read = c.read };
  outstanding = outstanding r.requests c.first (count c);
  replies = with_descriptors (Store.replies c.window r.store) (Slots.holding (slots_of c r));
  events = map event_of (Store.events c.window r.store);
  waiting = Slots.waiting (slots_of c r);
  closing = Slots.closing (slots_of c r);
}
