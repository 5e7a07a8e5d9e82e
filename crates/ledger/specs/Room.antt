-- What is filled, and when a call lacks room. Definitions only. Assumes nothing.
use Rattle.std.specs.Prelude.{true, false, List, ◌≡◌, ℕ, ◌+◌, ◌-◌, ◌≤◌, ◌<◌, length}
use Rattle.octets.specs.Logic.{choose}
use Rattle.refusal.specs.Answer.{gives}
use Rattle.sequence.specs.Numbering.{last_number}
use Rattle.sequence.specs.Sending.{sync_span}
use Rattle.packet.specs.Packet.{least_packet, most_packet, code_of, packet_class}
use Rattle.held.specs.Head.{header_size}
use Rattle.descriptors.specs.Room.{most_descriptors}
use Rattle.model.specs.Client.{Client, costs, descriptors_of}
use Rattle.model.specs.Model.{has_reply, packet_number, asked_of, claimed, place_of, is_held, ahead}
use Rattle.model.specs.Calls.{Call, send, enqueue_fds_ask, enqueue, discard, poll, check, poll_reply, prepare, poll_event, take_closed_ask, Said, number, done, filed, nothing, took, again, absent, answer, closed, refused}
use Rattle.model.specs.declared.Connection.{Connection}
use Rattle.model.specs.declared.ReplyFdKind.{ReplyFdKind}
use Rattle.session.specs.Ask.{Ask, send_request_ask, enqueue_packet_ask, discard_reply_ask, poll_for_reply_or_error_ask, poll_check_for_reply_or_error, poll_for_reply_ask, poll_for_event_with_sequence, take_closed_fds, prepare_check_for_reply_or_error, send_requests_ask, enqueue_packets_ask, poll_for_events_ask}
use Rattle.session.specs.Ask as Asked

-- how many requests are outstanding, how many bytes of the store are used, how many descriptors are inside
pub record Filled : Type 0 where
  pub requests : ℕ
  pub bytes : ℕ
  pub descriptors : ℕ

-- of a client: what is used is the sum of the costs over both lists
abbrev pub filled : Client → Filled
filled c = record {
  requests = length c.outstanding;
  bytes = costs c.replies + costs c.events;
  descriptors = length c.waiting + length (descriptors_of c.replies) + length c.closing;
}

-- as a connection keeps it: the numbers from the first outstanding to the last written, the window of the store, the three counts
abbrev pub kept : Connection → Filled
kept c = record { requests = c.written + 1 - c.first; bytes = c.window.end - c.window.start; descriptors = c.counts.closed + c.counts.held + c.counts.waiting }

-- A request finds no room: 3 and 6 do not apply, and K requests are outstanding.
pub record SendShort (f : Filled) (c : Client) (kind : ReplyFdKind) : Type 0 where
  pub not_ended : c.numbers.written < last_number
  pub no_sync : has_reply kind ≡ false → c.numbers.written < c.numbers.expected + sync_span
  pub full : c.most_requests ≤ f.requests

-- A packet finds no room: 1, 2, 3, 20 and 4 do not apply, it is to be held, and used plus its cost is over S.
pub record PacketShort (f : Filled) (c : Client) (p : List ℕ) : Type 0 where
  pub not_short : least_packet ≤ length p
  pub not_long : length p ≤ most_packet
  pub number : ℕ
  pub numbered : packet_number c p ≡ gives number
  pub was_asked : ahead (code_of p) number c.numbers.written ≡ false
  pub enough_wait : claimed p (asked_of c number) ≤ length c.waiting
  pub to_be_held : is_held (place_of (packet_class p) (asked_of c number)) ≡ true
  pub full : c.most_bytes < f.bytes + (header_size + length p)

-- NO ROOM: what is filled and what a call adds is too much. No other call adds; one that makes many steps is stopped by want of room, and not refused.
abbrev pub NoRoom : Filled → Client → Ask → Type 0
NoRoom f c (send_request_ask kind) = SendShort f c kind
NoRoom f c (Asked.enqueue_fds_ask list) = most_descriptors < f.descriptors + length list
NoRoom f c (enqueue_packet_ask p) = PacketShort f c p
NoRoom f c (discard_reply_ask n mode) = ⊥
NoRoom f c (poll_for_reply_or_error_ask n out fds) = ⊥
NoRoom f c (poll_check_for_reply_or_error n out) = ⊥
NoRoom f c (poll_for_reply_ask n out) = ⊥
NoRoom f c (poll_for_event_with_sequence out) = ⊥
NoRoom f c (take_closed_fds out) = ⊥
NoRoom f c (prepare_check_for_reply_or_error n) = ⊥
NoRoom f c (send_requests_ask bytes) = ⊥
NoRoom f c (enqueue_packets_ask bytes) = ⊥
NoRoom f c (poll_for_events_ask out marks) = ⊥

-- ---- What a call adds to what is used, and what it gives back

-- a packet that is held costs its header and its length
unfoldable pub cost_of : List ℕ → Said → ℕ
cost_of p (number n) = 0
cost_of p done = 0
cost_of p (filed place n class) = choose (is_held place) (header_size + length p) 0
cost_of p nothing = 0
cost_of p (took h) = 0
cost_of p again = 0
cost_of p absent = 0
cost_of p (answer b) = 0
cost_of p (closed fds) = 0
cost_of p (refused n) = 0

unfoldable pub added : Call → Said → ℕ
added (send kind) said = 0
added (enqueue_fds_ask list) said = 0
added (enqueue p) said = cost_of p said
added (discard n m) said = 0
added (poll n bytes places) said = 0
added (check n bytes) said = 0
added (poll_reply n bytes) said = 0
added (prepare n) said = 0
added (poll_event bytes) said = 0
added (take_closed_ask places) said = 0

-- and so does one that is taken
unfoldable pub given_back : Said → ℕ
given_back (number n) = 0
given_back done = 0
given_back (filed place n class) = 0
given_back nothing = 0
given_back (took h) = header_size + length h.packet
given_back again = 0
given_back absent = 0
given_back (answer b) = 0
given_back (closed fds) = 0
given_back (refused n) = 0

-- what a discard gives back it does not say
abbrev pub NoDiscard : Call → Type 0
NoDiscard (send kind) = Unit {0}
NoDiscard (enqueue_fds_ask list) = Unit {0}
NoDiscard (enqueue p) = Unit {0}
NoDiscard (discard n m) = ⊥
NoDiscard (poll n bytes places) = Unit {0}
NoDiscard (check n bytes) = Unit {0}
NoDiscard (poll_reply n bytes) = Unit {0}
NoDiscard (prepare n) = Unit {0}
NoDiscard (poll_event bytes) = Unit {0}
NoDiscard (take_closed_ask places) = Unit {0}
