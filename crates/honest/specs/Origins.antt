-- THE VERY PACKET: each held record is followed from the packet whose taking in put it there, call by call, so that its number is that packet's true number, and not that of an equal one. Assumes nothing.
use Rattle.std.specs.Prelude.{false, List, [], ◌∷◌, ◌++◌, ◌⊎◌, ◌≡◌, ℕ, zero, suc, length}
use Rattle.refusal.specs.Answer.{Answer, gives, refuses}
use Rattle.packet.specs.Packet.{code_of, unnumbered}
use Rattle.model.specs.Client.{Held, Client}
use Rattle.model.specs.Model.{fresh, Filing, enqueue_packet, as_event}
use Rattle.model.specs.Calls.{Call, enqueue, step}
use Rattle.model.specs.declared.Place.{Place}
use Rattle.model.specs.Batch.{Each}
use Rattle.honest.specs.Run.{Entry, noted, Runs, start, call, held_as}
use Rattle.honest.specs.Server.{Packet, Own, packets_in}

-- a held record, and where it came from: how many packets that carry a number were taken in before its own
pub record Followed : Type 0 where
  pub held : Held
  pub origin : ℕ

-- the two lists of a client
pub record Lists : Type 0 where
  pub replies : List Followed
  pub events : List Followed

abbrev pub lists : List Followed → List Followed → Lists
lists replies events = record { replies = replies; events = events }

abbrev pub each : {A B : Type 0} → (A → B) → List A → List B
each f [] = []
each f (x ∷ l) = f x ∷ each f l

-- they are the records that the client holds
abbrev pub OfClient : Lists → Client → Type 0
OfClient x c = (each (λ f. f.held) x.replies ≡ c.replies) × (each (λ f. f.held) x.events ≡ c.events)

-- ---- What a call may do with them

-- each of a list stays, moves or goes, all in their order
pub data Sorts {A : Type 0} : List A → List A → List A → Type 0 where
  none : Sorts [] [] []
  stays : {x : A} {all stay move : List A} → Sorts all stay move → Sorts (x ∷ all) (x ∷ stay) move
  moves : {x : A} {all stay move : List A} → Sorts all stay move → Sorts (x ∷ all) stay (x ∷ move)
  goes : {x : A} {all stay move : List A} → Sorts all stay move → Sorts (x ∷ all) stay move

-- a reply that moves becomes an event, and is still the same packet
abbrev pub turned_event : Followed → Followed
turned_event f = record { held = as_event f.held; origin = f.origin }

-- Of the replies each stays, goes, or moves behind the events; of the events each stays or goes; and nothing comes.
pub record Moved (x y : Lists) : Type 0 where
  pub move : List Followed
  pub stay : List Followed
  pub replies : Sorts x.replies y.replies move
  pub events : Sorts x.events stay []
  pub behind : y.events ≡ stay ++ each turned_event move

-- A packet that is taken in comes last of its list, and nothing else changes.
abbrev pub joined : Place → Followed → Lists → Lists
joined Place.Replies f x = lists (x.replies ++ (f ∷ [])) x.events
joined Place.Events f x = lists x.replies (x.events ++ (f ∷ []))
joined Place.Dropped f x = x

-- by what intake says of the packet p; l is the log so far
abbrev pub joined_by : {A : Type 0} → Client → List ℕ → List Entry → Answer (Filing × A) → Lists → Lists
joined_by c p l (gives f) x = joined f.0.place (record { held = held_as c p f.0.number; origin = length (packets_in l) }) x
joined_by c p l (refuses n) x = x

-- THE RECORDS OF A RUN, followed from its start: a packet joins them, and every other call moves them so that they are again what the client holds.
pub data Traced : (c : Client) (l : List Entry) → Runs c l → Lists → Type 0 where
  nothing : (o k s : ℕ) → Traced (fresh o k s) [] (start o k s) (lists [] [])
  takes : {c : Client} {l : List Entry} {r : Runs c l} {x : Lists} (p : List ℕ) (t : ℕ) → Traced c l r x → Traced (step c (enqueue p)).next (noted c (enqueue p) t l) (call (enqueue p) t r) (joined_by c p l (enqueue_packet c p) x)
  after : {c : Client} {l : List Entry} {r : Runs c l} {x : Lists} (z : Call) (t : ℕ) (y : Lists) → Own z → Traced c l r x → Moved x y → OfClient y (step c z).next → Traced (step c z).next (noted c z t l) (call z t r) y

-- ---- What is to be shown

-- p is the packet number k of a list, from 0 on
abbrev pub At : List Packet → ℕ → Packet → Type 0
At [] k p = ⊥
At (q ∷ l) zero p = q ≡ p
At (q ∷ l) (suc k) p = At l k p

-- the packet that a record came from, of these, is the record's, and the record's number is its true number, if it carries one
abbrev pub Tied : List Packet → Followed → Type 0
Tied ps f = unnumbered (code_of f.held.packet) ≡ false → At ps f.origin (record { true_number = f.held.number; bytes = f.held.packet })

abbrev pub AllTied : List Packet → Lists → Type 0
AllTied ps x = Each (Tied ps) x.replies × Each (Tied ps) x.events

-- P is true of one of them
abbrev pub Any : {A : Type 0} → (A → Type 0) → List A → Type 0
Any P [] = ⊥
Any P (x ∷ l) = P x ⊎ Any P l

-- h is one of the records, and it is tied
abbrev pub OneOf : List Packet → Lists → Held → Type 0
OneOf ps x h = Any (λ (f : Followed). (f.held ≡ h) × Tied ps f) (x.replies ++ x.events)
