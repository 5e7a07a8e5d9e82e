-- THE MODEL: one executable function for each call, in the words of the rules (01) and with the refusals in their order. Nothing here knows
-- a room. Refusal 9, for a state that is not sound, comes before all of these and is the business of whoever reads a state. Assumes nothing.
use Rattle.std.specs.Prelude.{Bool, true, false, not, List, [], ◌∷◌, ◌++◌, ℕ, ◌+◌, ◌-◌, ◌%◌, max, leb, ltb, eqb, length, take, drop, get_or, set}
use Rattle.octets.specs.Logic.{choose, both, either}
use Rattle.octets.specs.Bytes.{legal}
use Rattle.refusal.specs.Answer.{Answer, gives, refuse, pass}
use Rattle.sequence.specs.Sending.{sending}
use Rattle.requests.specs.Room.{requests_most, under_mode}
use Rattle.requests.specs.declared.Request.{Request}
use Rattle.requests.specs.declared.Mode.{Mode}
use Rattle.packet.specs.Packet as Packet
use Rattle.packet.specs.Packet.{least_packet, most_packet, code_of, PacketClass, packet_class, is_reply, unnumbered, number_after}
use Rattle.held.specs.Head.{header_size, most_store}
use Rattle.descriptors.specs.Room.{most_descriptors}
use Rattle.model.specs.Client.{Held, Client, set_numbers, set_outstanding, set_replies, set_events, set_waiting, set_closing, set_descriptors, arriving, first, used, descriptors_of, inside}
use Rattle.model.specs.declared.ReplyFdKind.{ReplyFdKind}
use Rattle.model.specs.declared.DiscardMode.{DiscardMode}
use Rattle.model.specs.declared.Place.{Place}

-- ---- Rooms: the start

-- "Request room K: 1 to 65,536 bytes", "Packet store S: 48 to 16,777,216 bytes", where 48 is what the least packet costs: the other ends of the ranges have their names where the rooms are
abbrev pub least_store : ℕ
least_store = header_size + least_packet

unfoldable pub roomy : ℕ → ℕ → Bool
roomy k s = both (both (leb 1 k) (leb k requests_most)) (both (leb least_store s) (leb s most_store))

-- nothing was sent or read, and nothing is held
abbrev pub fresh : ℕ → ℕ → ℕ → Client
fresh o k s = record { order = o; most_requests = k; most_bytes = s; numbers = record { written = 0; expected = 0; read = 0 }; outstanding = []; replies = []; events = []; waiting = []; closing = [] }

-- `new`: 9 for a room out of range, 13
unfoldable pub new : ℕ → ℕ → ℕ → Answer Client
new o k s = refuse (not (roomy k s)) 9 (refuse (not (legal o)) 13 (gives (fresh o k s)))

-- ---- Sending

abbrev pub has_reply : ReplyFdKind → Bool
has_reply ReplyFdKind.NoReply = false
has_reply ReplyFdKind.ReplyWithoutFds = true
has_reply ReplyFdKind.ReplyWithFds = true

abbrev pub has_descriptors : ReplyFdKind → Bool
has_descriptors ReplyFdKind.NoReply = false
has_descriptors ReplyFdKind.ReplyWithoutFds = false
has_descriptors ReplyFdKind.ReplyWithFds = true

-- "joins the outstanding run with no discard mode"
abbrev pub joining : ReplyFdKind → Request
joining kind = record { descriptors = has_descriptors kind; mode = Mode.Keep }

-- `send_request`: 3 and 6 by the rule of sending, then 5 where K requests are outstanding; otherwise the request gets its number and joins.
unfoldable pub send_request : Client → ReplyFdKind → Answer (ℕ × Client)
send_request c kind =
    pass (sending c.numbers.written c.numbers.expected (has_reply kind))
    (λ n. refuse (leb c.most_requests (length c.outstanding)) 5
    (gives (n.number, set_outstanding (set_numbers c (record { written = n.number; expected = n.expected; read = c.numbers.read })) (c.outstanding ++ (joining kind ∷ [])))))

-- ---- Descriptors

-- `enqueue_fds`: they join the waiting ones; 5 for over 256 inside
unfoldable pub enqueue_fds : Client → List ℕ → Answer (Unit × Client)
enqueue_fds c list = refuse (ltb most_descriptors (inside c + length list)) 5 (gives (tt, set_waiting c (c.waiting ++ list)))

-- `take_closed_fds`: the close list whole; 8 where the output is too small
unfoldable pub take_closed : Client → ℕ → Answer (List ℕ × Client)
take_closed c places = refuse (ltb places (length c.closing)) 8 (gives (c.closing, set_closing c []))

-- descriptors that the Rust would close by dropping, in that order, go to the end of the close list
abbrev pub close : List ℕ → Client → Client
close fds c = set_closing c (c.closing ++ fds)

-- ---- Numbering and filing

-- the number that a packet is filed under: `packet` has the rule
abbrev pub packet_number : Client → List ℕ → Answer ℕ
packet_number c p = number_after c.order c.numbers.read p

-- "It becomes the last read, and the next reply expected if that was lower. Then outstanding requests below the number go." A packet that carries no number raises nothing.
unfoldable pub numbered : Client → List ℕ → ℕ → Client
numbered c p n =
    set_outstanding
    (set_numbers c (record { written = c.numbers.written; expected = choose (unnumbered (code_of p)) c.numbers.expected (max c.numbers.expected n); read = n }))
    (drop (n - first c) c.outstanding)

-- "The request with that number, if still outstanding"
pub data Asked : Type 0 where
  nobody : Asked
  somebody : Request → Asked

unfoldable pub head_of : List Request → Asked
head_of [] = nobody
head_of (r ∷ l) = somebody r

unfoldable pub asked_of : Client → ℕ → Asked
asked_of c n = choose (ltb n (first c)) nobody (head_of (drop (n - first c) c.outstanding))

-- "An error: dropped under DiscardReplyAndError, an event under DiscardReply, otherwise a reply; with no such request, an event."
abbrev pub error_under : Mode → Place
error_under Mode.Keep = Place.Replies
error_under Mode.DiscardReply = Place.Events
error_under Mode.DiscardReplyAndError = Place.Dropped

abbrev pub error_place : Asked → Place
error_place nobody = Place.Events
error_place (somebody r) = error_under r.mode

-- "A reply: if the request has any discard mode the packet is dropped, otherwise held."
abbrev pub reply_under : Mode → Place
reply_under Mode.Keep = Place.Replies
reply_under Mode.DiscardReply = Place.Dropped
reply_under Mode.DiscardReplyAndError = Place.Dropped

abbrev pub reply_place : Asked → Place
reply_place nobody = Place.Replies
reply_place (somebody r) = reply_under r.mode

-- "Anything else is an event.": the place depends on the first byte through the class alone
unfoldable pub place_of : PacketClass → Asked → Place
place_of Packet.error a = error_place a
place_of Packet.reply a = reply_place a
place_of (Packet.event sent) a = Place.Events
place_of (Packet.generic sent) a = Place.Events

-- "if its request has descriptors, byte 1 of them leave the head of the waiting queue"
abbrev pub wants_descriptors : Asked → Bool
wants_descriptors nobody = false
wants_descriptors (somebody r) = r.descriptors

unfoldable pub claimed : List ℕ → Asked → ℕ
claimed p a = choose (both (is_reply (packet_class p)) (wants_descriptors a)) (get_or p 1 0) 0

abbrev pub is_held : Place → Bool
is_held Place.Replies = true
is_held Place.Events = true
is_held Place.Dropped = false

-- a packet at the end of its list with its descriptors; those of a dropped one are closed
abbrev pub filed : Place → Held → Client → Client
filed Place.Replies h c = set_replies c (c.replies ++ (h ∷ []))
filed Place.Events h c = set_events c (c.events ++ (h ∷ []))
filed Place.Dropped h c = close h.descriptors c

-- where a packet was filed, under which number, and its class
pub record Filing : Type 0 where
  pub place : Place
  pub number : ℕ
  pub class : PacketClass

-- What is decided about a packet before anything changes: where it goes, under which number, how many descriptors go with it, and its class.
pub record Task : Type 0 where
  pub place : Place
  pub number : ℕ
  pub claimed : ℕ
  pub class : PacketClass

-- as the request a of the number n has it
abbrev pub task_by : List ℕ → ℕ → Asked → Task
task_by p n a = record { place = place_of (packet_class p) a; number = n; claimed = claimed p a; class = packet_class p }

-- 02, M-103: "A numbered packet whose full number is above the last written must be refused": by its code, its number and the last written
unfoldable pub ahead : ℕ → ℕ → ℕ → Bool
ahead code n written = both (ltb written n) (not (unnumbered code))

-- A packet that has its number and whose request is known: 20 where it answers what was not asked, 4 where it claims more descriptors than wait, 5 where it is to be held and its cost does not fit.
unfoldable pub decide_by : Client → List ℕ → ℕ → Asked → Answer Task
decide_by c p n a =
    refuse (ahead (code_of p) n c.numbers.written) 20
    (refuse (ltb (length c.waiting) (claimed p a)) 4
    (refuse (both (is_held (place_of (packet_class p) a)) (ltb c.most_bytes (used c + (header_size + length p)))) 5
    (gives (task_by p n a))))

-- 1, 2, 3, 20, 4, 5
unfoldable pub decide : Client → List ℕ → Answer Task
decide c p =
    refuse (ltb (length p) least_packet) 1
    (refuse (ltb most_packet (length p)) 2
    (pass (packet_number c p) (λ n. decide_by c p n (asked_of c n))))

-- What was decided is carried out: the state gets the number, the claimed descriptors leave the waiting queue, and the packet is filed with them.
unfoldable pub take_in : Client → List ℕ → Task → Filing × Client
take_in c p t = (
  record { place = t.place; number = t.number; class = t.class },
  filed t.place (arriving c p t.number t.claimed) (set_waiting (numbered c p t.number) (drop t.claimed c.waiting)),
)

-- `enqueue_packet`
unfoldable pub enqueue_packet : Client → List ℕ → Answer (Filing × Client)
enqueue_packet c p = pass (decide c p) (λ t. gives (take_in c p t))

-- ---- Discarding

abbrev pub mode_of : DiscardMode → Mode
mode_of DiscardMode.DiscardReply = Mode.DiscardReply
mode_of DiscardMode.DiscardReplyAndError = Mode.DiscardReplyAndError

-- "sets the mode of an outstanding request"
unfoldable pub with_mode : Client → ℕ → DiscardMode → Client
with_mode c n m =
    choose (both (leb (first c) n) (leb n c.numbers.written))
    (set_outstanding c (set c.outstanding (n - first c) (under_mode (mode_of m) (get_or c.outstanding (n - first c) (joining ReplyFdKind.NoReply)))))
    c

-- the held packets of a number, the others, and those above it
unfoldable pub of_number : ℕ → List Held → List Held
of_number n [] = []
of_number n (h ∷ l) = choose (eqb h.number n) (h ∷ of_number n l) (of_number n l)

unfoldable pub not_of : ℕ → List Held → List Held
not_of n [] = []
not_of n (h ∷ l) = choose (eqb h.number n) (not_of n l) (h ∷ not_of n l)

unfoldable pub above : ℕ → List Held → List Held
above n [] = []
above n (h ∷ l) = choose (ltb n h.number) (h ∷ above n l) (above n l)

-- an error among the replies, and what it is as an event
abbrev pub is_error : Held → Bool
is_error h = Packet.is_error (packet_class h.packet)

abbrev pub as_event : Held → Held
as_event h = set_descriptors h []

unfoldable pub errors_of : List Held → List Held
errors_of [] = []
errors_of (h ∷ l) = choose (is_error h) (as_event h ∷ errors_of l) (errors_of l)

-- The Rust's `retain` closes what it removes from record k mod r on and then round, of r removed records with k kept behind them. Of a, b and
-- c, counted from 0, with two behind them that is from record 2 on: c, a, b; with four, from record 1 on: b, c, a.
unfoldable pub closing_order : ℕ → List Held → List Held
closing_order k l = drop (k % length l) l ++ take (k % length l) l

-- "then removes all held packets of that number; under DiscardReply the errors among them become events in their order"
abbrev pub discarding : DiscardMode → ℕ → Client → Client
discarding DiscardMode.DiscardReply n c =
    close (descriptors_of (of_number n c.replies)) (set_events (set_replies c (not_of n c.replies)) (c.events ++ errors_of (of_number n c.replies)))
discarding DiscardMode.DiscardReplyAndError n c =
    close (descriptors_of (closing_order (length (above n c.replies)) (of_number n c.replies))) (set_replies c (not_of n c.replies))

-- `discard_reply`: no refusal but 9
unfoldable pub discard_reply : Client → ℕ → DiscardMode → Answer (Unit × Client)
discard_reply c n m = gives (tt, discarding m n (with_mode c n m))

-- ---- Polling: oldest first; nothing found, then 8 for an output that is too small

-- the oldest packet of a number, and the others without it
pub data Found : Type 0 where
  nothing : Found
  at : Held → List Held → Found

abbrev pub behind : Held → Found → Found
behind h nothing = nothing
behind h (at x l) = at x (h ∷ l)

unfoldable pub find : ℕ → List Held → Found
find n [] = nothing
find n (h ∷ l) = choose (eqb h.number n) (at h l) (behind h (find n l))

-- `poll_for_reply_or_error` hands out the packet with its descriptors.
pub data Taken : Type 0 where
  none : Taken
  packet : Held → Taken

abbrev pub taken_by : Client → ℕ → ℕ → Found → Answer (Taken × Client)
taken_by c bytes places nothing = gives (none, c)
taken_by c bytes places (at h l) = refuse (either (ltb bytes (length h.packet)) (ltb places (length h.descriptors))) 8 (gives (packet h, set_replies c l))

unfoldable pub poll_for_reply_or_error : Client → ℕ → ℕ → ℕ → Answer (Taken × Client)
poll_for_reply_or_error c n bytes places = taken_by c bytes places (find n c.replies)

-- what the two calls below say
pub data PollReply : Type 0 where
  try_again : PollReply
  no_reply : PollReply
  reply : Held → PollReply

-- `poll_check_for_reply_or_error`: the descriptors are closed; "NoReply only if last read > number"
abbrev pub checked_by : Client → ℕ → ℕ → Found → Answer (PollReply × Client)
checked_by c n bytes nothing = gives (choose (ltb n c.numbers.read) no_reply try_again, c)
checked_by c n bytes (at h l) = refuse (ltb bytes (length h.packet)) 8 (gives (reply h, close h.descriptors (set_replies c l)))

unfoldable pub poll_check : Client → ℕ → ℕ → Answer (PollReply × Client)
poll_check c n bytes = checked_by c n bytes (find n c.replies)

-- `poll_for_reply`: the same, but "turns an error into an event", which needs no output
abbrev pub replied_by : Client → ℕ → Found → Answer (PollReply × Client)
replied_by c bytes nothing = gives (try_again, c)
replied_by c bytes (at h l) =
    choose (is_error h) (gives (no_reply, close h.descriptors (set_events (set_replies c l) (c.events ++ (as_event h ∷ [])))))
    (refuse (ltb bytes (length h.packet)) 8 (gives (reply h, close h.descriptors (set_replies c l))))

unfoldable pub poll_for_reply : Client → ℕ → ℕ → Answer (PollReply × Client)
poll_for_reply c n bytes = replied_by c bytes (find n c.replies)

-- `prepare_check_for_reply_or_error` "says whether next reply expected < number, and changes nothing"
unfoldable pub prepare_check : Client → ℕ → Bool
prepare_check c n = ltb c.numbers.expected n

-- `poll_for_event_with_sequence`: the oldest event
abbrev pub event_by : Client → ℕ → List Held → Answer (Taken × Client)
event_by c bytes [] = gives (none, c)
event_by c bytes (h ∷ l) = refuse (ltb bytes (length h.packet)) 8 (gives (packet h, set_events c l))

unfoldable pub poll_for_event : Client → ℕ → Answer (Taken × Client)
poll_for_event c bytes = event_by c bytes c.events
