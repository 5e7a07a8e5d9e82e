-- What calls that make many steps come to: the requests that were sent have the next numbers, and the events that were handed out are the first of those held. Assumes nothing.
use Rattle.std.specs.Prelude.{List, [], ◌∷◌, ◌++◌, ◌≡◌, ℕ, zero, suc, ◌+◌, length}
use Rattle.octets.specs.Put.{put}
use Rattle.model.specs.Client.{Held, Client, set_events}
use Rattle.model.specs.Reading.{Rooms, reads}
use Rattle.model.specs.PollForEvents.{packets_of, marks_of, ShownHandings}
use Rattle.model.specs.declared.Connection.{Connection}

-- so a row takes the first ones
pub record HandsFirst (c : Client) (events : List Held) (c' : Client) : Type 0 where
  pub in_order : c.events ≡ events ++ c'.events
  pub all_else : c' ≡ set_events c c'.events

-- what the public call hands out, and where
pub record InOrder (c : Connection) (r : Rooms) (out marks : List ℕ) (v : ShownHandings) (c' : Connection) (r' : Rooms) (out' marks' : List ℕ) : Type 0 where
  pub events : List Held
  pub first : HandsFirst (reads c r) events (reads c' r')
  pub count : v.count ≡ length events
  pub bytes : v.bytes ≡ length (packets_of events)
  pub packets : out' ≡ put out 0 (packets_of events)
  pub marked : marks' ≡ put marks 0 (marks_of events)

-- ---- sends

-- so many numbers from k on
unfoldable pub counting : ℕ → ℕ → List ℕ
counting k zero = []
counting k (suc n) = k ∷ counting (k + 1) n

-- so a row takes the next ones
pub record Consecutive (c : Client) (numbers : List ℕ) (c' : Client) : Type 0 where
  pub counted : numbers ≡ counting (c.numbers.written + 1) (length numbers)
  pub written : c'.numbers.written ≡ c.numbers.written + length numbers
