-- THE STATE WITH SOME NUMBERS ANEW, as steps leave it. With other held packets and other descriptors: how it is read, and that it is sound. Assumes nothing.
use Rattle.std.specs.Prelude.{◌≡◌, true, List, map, ℕ, length}
use Rattle.std.proofs.Common.{◌∙◌}
use Rattle.requests.specs.Room.{sized, legals}
use Rattle.held.specs.Reading as Store
use Rattle.held.specs.Moves.{Left}
use Rattle.held.specs.Theorems as Held
use Rattle.held.specs.declared.Window.{Window}
use Rattle.descriptors.specs.Room as Slots
use Rattle.descriptors.specs.Theorems as Fds
use Rattle.descriptors.specs.declared.Counts.{Counts}
use Rattle.model.specs.Client.{Held, set_replies, set_events, set_waiting, set_closing}
use Rattle.model.specs.Reading.{Rooms, rooms, count, with_descriptors, event_of, reads}
use Rattle.model.specs.Sound.{Ranges, Sound}
use Rattle.model.specs.declared.Connection.{Connection}

-- with this window and these counts
abbrev pub moved_state : Connection → Window → Counts → Connection
moved_state c w n = record {
  order = c.order;
  capacity = c.capacity;
  room = c.room;
  written = c.written;
  expected = c.expected;
  read = c.read;
  first = c.first;
  window = w;
  counts = n;
}

-- and once a request was sent: its number, and the next reply expected
abbrev pub sent_state : Connection → ℕ → ℕ → Connection
sent_state c number expected = record {
  order = c.order;
  capacity = c.capacity;
  room = c.room;
  written = number;
  expected = expected;
  read = c.read;
  first = c.first;
  window = c.window;
  counts = c.counts;
}

-- ---- moved

-- as it is read
pub moved_read : (c : Connection) (r : Rooms) (l : Left) (d : Slots.Room) (replies events : List Held) (wait toClose : List ℕ)
    → with_descriptors (Store.replies l.window l.store) (Slots.holding d) ≡ replies → map event_of (Store.events l.window l.store) ≡ events
    → Slots.waiting d ≡ wait → Slots.closing d ≡ toClose
    → reads (moved_state c l.window d.counts) (rooms r.requests l.store d.slots) ≡ set_closing (set_waiting (set_events (set_replies (reads c r) replies) events) wait) toClose
unfolding reads
moved_read c r l d replies events wait toClose R E W C = λ i. record {
  order = c.order;
  most_requests = c.capacity;
  most_bytes = c.room;
  numbers = record { written = c.written; expected = c.expected; read = c.read };
  outstanding = (reads c r).outstanding;
  replies = R i;
  events = E i;
  waiting = W i;
  closing = C i;
}

numbers_moved : (c : Connection) (w : Window) (n : Counts) → Ranges c → Ranges (moved_state c w n)
numbers_moved c w n N = record {
  store_least = N.store_least;
  store_most = N.store_most;
  written_most = N.written_most;
  expected_most = N.expected_most;
  read_most = N.read_most;
  first_least = N.first_least;
  first_most = N.first_most;
  count_most = N.count_most;
}

module _ (c : Connection) (r : Rooms) (S : Sound c r) (l : Left) (d : Slots.Room) (long : length l.store ≡ length r.store) (H : Store.Sound c.read l.window l.store)
    (D : Slots.Sound d) (e : Store.fds_in (Store.replies l.window l.store) ≡ d.counts.held) where
  -- It is sound, with other requests too,
  pub moved_sound_with : (q : List ℕ) → sized c.capacity q ≡ true → legals q c.first (count c) ≡ true → Sound (moved_state c l.window d.counts) (rooms q l.store d.slots)
  moved_sound_with q z b = record {
    order = S.order;
    requests = z;
    store = long ∙ S.store;
    numbers = numbers_moved c l.window d.counts S.numbers;
    legal_bytes = b;
    slots = (Fds.sound_is d).1 D;
    held = (Held.sound_exactly c.read l.window l.store).1 H;
    descriptors = e;
  }

  -- and with those that were there.
  pub moved_sound : Sound (moved_state c l.window d.counts) (rooms r.requests l.store d.slots)
  moved_sound = moved_sound_with r.requests S.requests S.legal_bytes
