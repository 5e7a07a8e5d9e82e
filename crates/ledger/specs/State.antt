-- What counts as state: outcomes as they are read, rows of public calls, and when a part of the state is needed. Definitions only. Assumes nothing.
use Rattle.std.specs.Prelude.{Bool, true, false, List, [], ◌∷◌, ◌≡◌, ℕ, replicate}
use Rattle.refusal.specs.Answer.{Answer, gives, refuses}
use Rattle.requests.specs.declared.Mode.{Mode}
use Rattle.requests.specs.declared.Request.{Request}
use Rattle.model.specs.Client.{Numbers, Held, Client, held_packet}
use Rattle.model.specs.Model.{mode_of}
use Rattle.model.specs.Calls.{Call, run}
use Rattle.model.specs.Encoding.{InRange, Alike}
use Rattle.model.specs.Reading.{Rooms, reads}
use Rattle.model.specs.declared.Connection.{Connection}
use Rattle.model.specs.declared.DiscardMode.{DiscardMode}
use Rattle.honest.specs.Public.{state_of}
use Rattle.session.specs.Ask.{Ask, Value, Outputs, told, Answers, OfBytes}

-- ---- An outcome as it is read

-- what comes of a call: what it tells, and the state that the caller goes on with
pub record Seen (B : Type 0) : Type 0 where
  pub answer : Answer B
  pub next : Client

-- of a public call, the state as it is read with the rooms that are left; after a refusal it is the one before
abbrev pub as_read : {B : Type 0} → Connection → Answer (B × Connection) → Rooms → Seen B
as_read c a r = record { answer = told a; next = reads (state_of a c) r }

-- and of the model, where f shows what it gives
unfoldable pub shown_by : {A B : Type 0} → (A → B) → Client → Answer (A × Client) → Seen B
shown_by f m (gives x) = record { answer = gives (f x.0); next = x.1 }
shown_by f m (refuses n) = record { answer = refuses n; next = m }

-- its outputs after that: with what is given as w says, and after a refusal as they were lent
unfoldable pub written_by : {A O : Type 0} → O → (A → O) → Answer (A × Client) → O
written_by o w (gives x) = w x.0
written_by o w (refuses n) = o

-- SAME: two calls, of states c and d, tell the same and leave states that are alike with the rooms r and q that they leave.
pub record Same {B : Type 0} (c : Connection) (a : Answer (B × Connection)) (r : Rooms) (d : Connection) (b : Answer (B × Connection)) (q : Rooms) : Type 0 where
  pub tells : told a ≡ told b
  pub leaves : Alike (state_of a c) r (state_of b d) q

-- ---- Rows of public calls

-- what the caller of a call has from it: what it tells, and the outputs
abbrev pub Heard : Ask → Type 0
Heard x = Answer (Value x) × Outputs x

abbrev pub AllHeard : List Ask → Type 0
AllHeard [] = Unit {0}
AllHeard (x ∷ xs) = Heard x × AllHeard xs

-- A ROW of public calls, each given the state and rooms as the one before left them, with what is heard of each; it begins with c and r, and ends with c' and r'.
pub data Row : (xs : List Ask) → Connection → Rooms → AllHeard xs → Connection → Rooms → Type 0 where
  none : {c : Connection} {r : Rooms} → Row [] c r tt c r
  call : {c : Connection} {r : Rooms} (x : Ask) (a : Answer (Value x × Connection)) (r' : Rooms) (o : Outputs x) → OfBytes x → Answers x c r a r' o → {xs : List Ask} {hs : AllHeard xs} {c' : Connection} {r'' : Rooms} → Row xs (state_of a c) r' hs c' r''
      → Row (x ∷ xs) c r ((told a, o), hs) c' r''

-- ---- Needed

-- A part of a client's state is needed: there are two values of it, each in range with all else the same, and calls that do not say the same of them.
pub record Needed {P : Type 0} (with_part : P → Client) : Type 0 where
  pub one : P
  pub other : P
  pub is_in_range : InRange (with_part one)
  pub other_in_range : InRange (with_part other)
  pub calls : List Call
  pub differ : (run (with_part one) calls).said ≡ (run (with_part other) calls).said → ⊥

-- One request was sent, whose reply has descriptors, and a packet of it was read; descriptor 7 waits. Then part by part the clients that have all else so.
abbrev client : ℕ → ℕ → ℕ → Numbers → List Request → List Held → List Held → List ℕ → List ℕ → Client
client o k s n q rs es ws cs = record { order = o; most_requests = k; most_bytes = s; numbers = n; outstanding = q; replies = rs; events = es; waiting = ws; closing = cs }

abbrev at : ℕ → ℕ → ℕ → Numbers
at w e r = record { written = w; expected = e; read = r }

abbrev asked : Bool → Mode → List Request
asked d m = record { descriptors = d; mode = m } ∷ []

abbrev pub with_order : ℕ → Client
with_order o = client o 4 500 (at 1 1 1) (asked true Mode.Keep) [] [] (7 ∷ []) []

abbrev pub with_k : ℕ → Client
with_k k = client 108 k 500 (at 1 1 1) (asked true Mode.Keep) [] [] (7 ∷ []) []

abbrev pub with_s : ℕ → Client
with_s s = client 108 4 s (at 1 1 1) (asked true Mode.Keep) [] [] (7 ∷ []) []

abbrev pub with_written : ℕ → Client
with_written n = client 108 4 500 (at n 1 1) (asked true Mode.Keep) [] [] (7 ∷ []) []

abbrev pub with_expected : ℕ → Client
with_expected n = client 108 4 500 (at 1 n 1) (asked true Mode.Keep) [] [] (7 ∷ []) []

abbrev pub with_read : ℕ → Client
with_read n = client 108 4 500 (at 1 1 n) (asked true Mode.Keep) [] [] (7 ∷ []) []

abbrev pub with_outstanding : List Request → Client
with_outstanding l = client 108 4 500 (at 1 1 1) l [] [] (7 ∷ []) []

-- of a request, whether it has descriptors, whether it has a mode, and which
abbrev pub with_described : Bool → Client
with_described b = client 108 4 500 (at 1 1 1) (asked b Mode.Keep) [] [] (7 ∷ []) []

abbrev pub with_request_mode : Mode → Client
with_request_mode m = client 108 4 500 (at 1 1 1) (asked true m) [] [] (7 ∷ []) []

abbrev pub with_discard : DiscardMode → Client
with_discard m = with_request_mode (mode_of m)

abbrev pub with_replies : List Held → Client
with_replies l = client 108 4 500 (at 1 1 1) (asked true Mode.Keep) l [] (7 ∷ []) []

abbrev pub with_events : List Held → Client
with_events l = client 108 4 500 (at 1 1 1) (asked true Mode.Keep) [] l (7 ∷ []) []

-- of a held record, its number, its packet and a reply's descriptors; of two their order
abbrev pub with_number : ℕ → Client
with_number n = with_events (held_packet n (replicate 32 0) [] ∷ [])

abbrev pub with_packet : List ℕ → Client
with_packet p = with_events (held_packet 1 p [] ∷ [])

abbrev pub with_held : List ℕ → Client
with_held fds = with_replies (held_packet 1 (replicate 32 0) fds ∷ [])

abbrev pub with_turn : Bool → Client
with_turn true = with_events (held_packet 0 (replicate 32 0) [] ∷ held_packet 1 (replicate 32 0) [] ∷ [])
with_turn false = with_events (held_packet 1 (replicate 32 0) [] ∷ held_packet 0 (replicate 32 0) [] ∷ [])

abbrev pub with_waiting : List ℕ → Client
with_waiting l = client 108 4 500 (at 1 1 1) (asked true Mode.Keep) [] [] l []

abbrev pub with_closing : List ℕ → Client
with_closing l = client 108 4 500 (at 1 1 1) (asked true Mode.Keep) [] [] (7 ∷ []) l
