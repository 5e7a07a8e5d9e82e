-- Rows of sends, and what they say. Definitions only. Assumes nothing.
use Rattle.std.specs.Prelude.{List, [], ◌∷◌, ℕ, zero, suc, ◌+◌}
use Rattle.refusal.specs.Answer.{Answer, gives, refuses}
use Rattle.model.specs.Calls.{Call, send, Said, number, refused}
use Rattle.model.specs.Reading.{Rooms}
use Rattle.model.specs.declared.Connection.{Connection}
use Rattle.model.specs.declared.ReplyFdKind.{ReplyFdKind}
use Rattle.connection.specs.Calls.{Sends}
use Rattle.honest.specs.Public.{state_of}

-- 01, Values to meet: a fresh client with room for 65,536 requests
abbrev pub most_sends : ℕ
most_sends = 65536

-- n sends without a reply
unfoldable pub without_reply : ℕ → List Call
without_reply zero = []
without_reply (suc n) = send ReplyFdKind.NoReply ∷ without_reply n

-- n numbers from one on
unfoldable pub numbers_from : ℕ → ℕ → List Said
numbers_from k zero = []
numbers_from k (suc n) = number k ∷ numbers_from (k + 1) n

-- sends of any kinds, and as many refusals by 5
unfoldable pub sends_of : List ReplyFdKind → List Call
sends_of [] = []
sends_of (kind ∷ kinds) = send kind ∷ sends_of kinds

unfoldable pub all_no_room : List ReplyFdKind → List Said
all_no_room [] = []
all_no_room (kind ∷ kinds) = refused 5 ∷ all_no_room kinds

-- ---- the public call

-- what its answer says
unfoldable pub said_of : Answer (ℕ × Connection) → Said
said_of (gives x) = number x.0
said_of (refuses n) = refused n

-- a row of public sends, each given the state and rooms as the one before left them
pub data SendsRow : Connection → Rooms → List Call → List Said → Type 0 where
  none : {c : Connection} {r : Rooms} → SendsRow c r [] []
  one : {c : Connection} {r : Rooms} {xs : List Call} {said : List Said} (kind : ReplyFdKind) (a : Answer (ℕ × Connection)) (r' : Rooms) → Sends c r kind a r' → SendsRow (state_of a c) r' xs said
      → SendsRow c r (send kind ∷ xs) (said_of a ∷ said)
