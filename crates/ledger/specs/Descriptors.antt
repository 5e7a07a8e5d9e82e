-- Where descriptors are, and how they come and go. Definitions only. Assumes nothing.
use Rattle.std.specs.Prelude.{List, [], ◌∷◌, ◌++◌, ◌≡◌, ℕ, ◌+◌, take}
use Rattle.refusal.specs.Answer.{Answer, gives, refuses}
use Rattle.descriptors.specs.Room.{count}
use Rattle.model.specs.Client.{Client, descriptors_of}
use Rattle.model.specs.Calls.{Call, send, enqueue_fds_ask, enqueue, discard, poll, check, poll_reply, prepare, poll_event, take_closed_ask, Said, number, done, filed, nothing, took, again, absent, answer, closed, refused, Step}
use Rattle.model.specs.Reading.{Rooms}
use Rattle.model.specs.Says.{Shown, none, packet}
use Rattle.model.specs.declared.Connection.{Connection}
use Rattle.honest.specs.Run.{Entry}
use Rattle.session.specs.Ask.{Ask, send_request_ask, enqueue_packet_ask, discard_reply_ask, poll_for_reply_or_error_ask, poll_check_for_reply_or_error, poll_for_reply_ask, poll_for_event_with_sequence, take_closed_fds, prepare_check_for_reply_or_error, send_requests_ask, enqueue_packets_ask, poll_for_events_ask, Value, Outputs}
use Rattle.session.specs.Ask as Asked
use Rattle.session.specs.Session.{Session, new, call, restored}

-- ---- Of a state

-- the descriptors inside: those that wait, those that held replies have, and those to be closed
unfoldable pub within : Client → List ℕ
within c = c.waiting ++ (descriptors_of c.replies ++ c.closing)

-- ---- Of a call

-- a list, unless the call was refused
unfoldable pub unless_refused : List ℕ → Said → List ℕ
unless_refused list (number n) = list
unless_refused list done = list
unless_refused list (filed place n class) = list
unless_refused list nothing = list
unless_refused list (took h) = list
unless_refused list again = list
unless_refused list absent = list
unless_refused list (answer b) = list
unless_refused list (closed fds) = list
unless_refused list (refused n) = []

-- the descriptors that a call accepts: the list of `enqueue_fds`, and no other call brings any
unfoldable pub accepted : Call → Said → List ℕ
accepted (send kind) said = []
accepted (enqueue_fds_ask list) said = unless_refused list said
accepted (enqueue p) said = []
accepted (discard n m) said = []
accepted (poll n bytes places) said = []
accepted (check n bytes) said = []
accepted (poll_reply n bytes) said = []
accepted (prepare n) said = []
accepted (poll_event bytes) said = []
accepted (take_closed_ask places) said = []

-- those of the record that a call says it took, and the list that it says is to be closed
unfoldable pub took_with : Said → List ℕ
took_with (number n) = []
took_with done = []
took_with (filed place n class) = []
took_with nothing = []
took_with (took h) = h.descriptors
took_with again = []
took_with absent = []
took_with (answer b) = []
took_with (closed fds) = []
took_with (refused n) = []

unfoldable pub closed_by : Said → List ℕ
closed_by (number n) = []
closed_by done = []
closed_by (filed place n class) = []
closed_by nothing = []
closed_by (took h) = []
closed_by again = []
closed_by absent = []
closed_by (answer b) = []
closed_by (closed fds) = fds
closed_by (refused n) = []

-- The descriptors that a call hands out: `poll_for_reply_or_error` those of its packet, `take_closed_fds` the close list. The other polls hand out a packet without its descriptors.
unfoldable pub handed_out : Call → Said → List ℕ
handed_out (send kind) said = []
handed_out (enqueue_fds_ask list) said = []
handed_out (enqueue p) said = []
handed_out (discard n m) said = []
handed_out (poll n bytes places) said = took_with said
handed_out (check n bytes) said = []
handed_out (poll_reply n bytes) said = []
handed_out (prepare n) said = []
handed_out (poll_event bytes) said = []
handed_out (take_closed_ask places) said = closed_by said

-- BALANCE: each descriptor d is inside after the call or handed out by it, as often as it was inside before or accepted by it.
abbrev pub Balances : Client → Call → Step → Type 0
Balances c x s = (d : ℕ) → count d (within s.next) + count d (handed_out x s.said) ≡ count d (within c) + count d (accepted x s.said)

-- ---- Of a row of calls, each with what it said

unfoldable pub accepted_in : List Call → List Said → List ℕ
accepted_in [] said = []
accepted_in (x ∷ xs) [] = []
accepted_in (x ∷ xs) (s ∷ said) = accepted x s ++ accepted_in xs said

unfoldable pub handed_in : List Call → List Said → List ℕ
handed_in [] said = []
handed_in (x ∷ xs) [] = []
handed_in (x ∷ xs) (s ∷ said) = handed_out x s ++ handed_in xs said

-- ---- Of the public calls

-- the descriptors that the caller brings
abbrev pub brings : Ask → List ℕ
brings (send_request_ask kind) = []
brings (Asked.enqueue_fds_ask list) = list
brings (enqueue_packet_ask p) = []
brings (discard_reply_ask n mode) = []
brings (poll_for_reply_or_error_ask n out fds) = []
brings (poll_check_for_reply_or_error n out) = []
brings (poll_for_reply_ask n out) = []
brings (poll_for_event_with_sequence out) = []
brings (take_closed_fds out) = []
brings (prepare_check_for_reply_or_error n) = []
brings (send_requests_ask bytes) = []
brings (enqueue_packets_ask bytes) = []
brings (poll_for_events_ask out marks) = []

-- how many descriptors an answer says are at the start of the output
abbrev pub places_of : Shown → ℕ
places_of none = 0
places_of (packet z) = z.descriptors

-- the descriptors that it finds in its outputs
abbrev pub finds : (x : Ask) → Value x → Outputs x → List ℕ
finds (send_request_ask kind) v o = []
finds (Asked.enqueue_fds_ask list) v o = []
finds (enqueue_packet_ask p) v o = []
finds (discard_reply_ask n mode) v o = []
finds (poll_for_reply_or_error_ask n out fds) v o = take (places_of v) o.1
finds (poll_check_for_reply_or_error n out) v o = []
finds (poll_for_reply_ask n out) v o = []
finds (poll_for_event_with_sequence out) v o = []
finds (take_closed_fds out) v o = take v o
finds (prepare_check_for_reply_or_error n) v o = []
finds (send_requests_ask bytes) v o = []
finds (enqueue_packets_ask bytes) v o = []
finds (poll_for_events_ask out marks) v o = []

-- both, unless the call was refused
unfoldable pub brought : (x : Ask) → Answer (Value x × Connection) → List ℕ
brought x (gives y) = brings x
brought x (refuses n) = []

unfoldable pub found : (x : Ask) → Answer (Value x × Connection) → Outputs x → List ℕ
found x (gives y) o = finds x y.0 o
found x (refuses n) o = []

-- all that a session accepted, and all that it handed out; none is inside where it is saved
unfoldable pub session_accepted : {c : Connection} {r : Rooms} {l : List Entry} → Session c r l → List ℕ
session_accepted (new o r c h) = []
session_accepted (call x b ts a r' o h k) = brought x a ++ session_accepted k
session_accepted (restored reader buffer ids out n out' s q b v q' b' t k) = session_accepted k

unfoldable pub session_handed : {c : Connection} {r : Rooms} {l : List Entry} → Session c r l → List ℕ
session_handed (new o r c h) = []
session_handed (call x b ts a r' o h k) = found x a o ++ session_handed k
session_handed (restored reader buffer ids out n out' s q b v q' b' t k) = session_handed k
