-- THE STATE of a client's connection, as the rules speak of it. Assumes nothing.
use Rattle.std.specs.Prelude.{List, [], ◌∷◌, ◌++◌, ℕ, ◌+◌, ◌-◌, length, take}
use Rattle.requests.specs.declared.Request.{Request}
use Rattle.held.specs.Head.{header_size}

-- the three full numbers
pub record Numbers : Type 0 where
  pub written : ℕ  -- of the last request that was written
  pub expected : ℕ  -- of the next reply expected
  pub read : ℕ  -- of the last packet that was read

-- a held packet: its number, its bytes, and the descriptors that came with a reply
pub record Held : Type 0 where
  pub number : ℕ
  pub packet : List ℕ
  pub descriptors : List ℕ

-- Byte order; the lengths of the request room (K) and of the packet store (S), given at the start; the numbers; the outstanding requests, oldest first, up to the last written; replies and events, oldest first; descriptors that wait for a reply, and those to be closed.
pub record Client : Type 0 where
  pub order : ℕ
  pub most_requests : ℕ
  pub most_bytes : ℕ
  pub numbers : Numbers
  pub outstanding : List Request
  pub replies : List Held
  pub events : List Held
  pub waiting : List ℕ
  pub closing : List ℕ

-- ---- the state with one part anew

abbrev pub set_numbers : Client → Numbers → Client
set_numbers c x = record { order = c.order; most_requests = c.most_requests; most_bytes = c.most_bytes; numbers = x; outstanding = c.outstanding; replies = c.replies; events = c.events; waiting = c.waiting; closing = c.closing }

abbrev pub set_outstanding : Client → List Request → Client
set_outstanding c x = record { order = c.order; most_requests = c.most_requests; most_bytes = c.most_bytes; numbers = c.numbers; outstanding = x; replies = c.replies; events = c.events; waiting = c.waiting; closing = c.closing }

abbrev pub set_replies : Client → List Held → Client
set_replies c x = record { order = c.order; most_requests = c.most_requests; most_bytes = c.most_bytes; numbers = c.numbers; outstanding = c.outstanding; replies = x; events = c.events; waiting = c.waiting; closing = c.closing }

abbrev pub set_events : Client → List Held → Client
set_events c x = record { order = c.order; most_requests = c.most_requests; most_bytes = c.most_bytes; numbers = c.numbers; outstanding = c.outstanding; replies = c.replies; events = x; waiting = c.waiting; closing = c.closing }

abbrev pub set_waiting : Client → List ℕ → Client
set_waiting c x = record { order = c.order; most_requests = c.most_requests; most_bytes = c.most_bytes; numbers = c.numbers; outstanding = c.outstanding; replies = c.replies; events = c.events; waiting = x; closing = c.closing }

abbrev pub set_closing : Client → List ℕ → Client
set_closing c x = record { order = c.order; most_requests = c.most_requests; most_bytes = c.most_bytes; numbers = c.numbers; outstanding = c.outstanding; replies = c.replies; events = c.events; waiting = c.waiting; closing = x }

-- ---- held packets

-- a held packet by its number, its bytes and its descriptors
abbrev pub held_packet : ℕ → List ℕ → List ℕ → Held
held_packet n p fds = record { number = n; packet = p; descriptors = fds }

-- a held packet with other descriptors
abbrev pub set_descriptors : Held → List ℕ → Held
set_descriptors h fds = held_packet h.number h.packet fds

-- what an arriving packet p becomes under the number n: it has the first k of the descriptors that wait
abbrev pub arriving : Client → List ℕ → ℕ → ℕ → Held
arriving c p n k = held_packet n p (take k c.waiting)

-- ---- what follows from the state

-- the number of the oldest outstanding request, or the one that is written next
abbrev pub first : Client → ℕ
first c = c.numbers.written + 1 - length c.outstanding

-- 01, Numbering and filing: a held record costs 16 bytes and its packet
unfoldable pub costs : List Held → ℕ
costs [] = 0
costs (h ∷ l) = header_size + length h.packet + costs l

-- used is the sum over both lists
abbrev pub used : Client → ℕ
used c = costs c.replies + costs c.events

-- all descriptors of held packets, in the packets' order
unfoldable pub descriptors_of : List Held → List ℕ
descriptors_of [] = []
descriptors_of (h ∷ l) = h.descriptors ++ descriptors_of l

-- the descriptors inside: waiting, held or to be closed
abbrev pub inside : Client → ℕ
inside c = length c.waiting + length (descriptors_of c.replies) + length c.closing
