-- A request sent, exactly: what would be sent, and putting it. Assumes nothing.
use Rattle.std.specs.Prelude.{◌≡◌, List, ℕ, leb, Result}
use Rattle.refusal.specs.Answer.{Answer, gives, refuse, pass}
use Rattle.sequence.specs.Sending.{Numbers, sending}
use Rattle.requests.specs.Room.{put_request}
use Rattle.model.specs.Model.{has_reply, joining}
use Rattle.model.specs.Reading.{Rooms, rooms, count}
use Rattle.model.specs.Promise.{Done, Exact, same}
use Rattle.model.specs.Says.{says_sent}
use Rattle.model.specs.declared.Connection.{Connection}
use Rattle.model.specs.declared.ReplyFdKind.{ReplyFdKind}
use Rattle.model.specs.declared.Sent.{Sent}
use Rattle.model.specs.Moved.{sent_state}
use Rattle.refusal.specs.declared.Refusal.{Refusal}

-- WHAT WOULD BE SENT: 3 and 6 by the rule of sending, 5 where as many requests are outstanding as the room has places; otherwise the request's number and the next reply expected.
unfoldable pub sendable : Connection → ReplyFdKind → Answer Numbers
sendable c kind = pass (sending c.written c.expected (has_reply kind)) (λ n. refuse (leb c.capacity (count c)) 5 (gives n))

-- PUTTING IT: the request's byte is written, and the state has its numbers.
abbrev pub sent_done : Connection → Rooms → ReplyFdKind → Numbers → Done ℕ
sent_done c r kind n = record { value = n.number; state = sent_state c n.number n.expected; left = rooms (put_request r.requests n.number (joining kind)) r.store r.slots }

unfoldable pub send_exact : Connection → Rooms → ReplyFdKind → Answer (Done ℕ)
send_exact c r kind = pass (sendable c kind) (λ n. gives (sent_done c r kind n))

-- The steps are exact, whatever the rooms that they are not lent.
pub record GoesUnder (c : Connection) (kind : ReplyFdKind) (number expected : ℕ) (q : List ℕ) (a : Connection) (q' : List ℕ) : Type 0 where
  pub state : a ≡ sent_state c number expected
  pub requests : q' ≡ put_request q number (joining kind)

pub record SendStep (c : Connection) (kind : ReplyFdKind) (q : List ℕ) (a : Result Sent Refusal) (q' : List ℕ) : Type 0 where
  pub exact : (s f : List ℕ) → Exact same (send_exact c (rooms q s f) kind) (rooms q s f) (says_sent a) (rooms q' s f)
