-- DEMAND 3: what a run is, what is asked of the server, and what is to be shown. Over the model alone; definitions only. Assumes nothing.
use Rattle.std.specs.Prelude.{Bool, true, false, List, [], ◌∷◌, ◌++◌, ◌⊎◌, ◌≡◌, ℕ, ◌+◌, ◌%◌, ◌≤◌, ◌<◌}
use Rattle.octets.specs.Logic.{choose}
use Rattle.refusal.specs.Answer.{Answer, gives, refuses}
use Rattle.sequence.specs.Numbering.{wire_values}
use Rattle.model.specs.Client.{Numbers, Held, Client, arriving}
use Rattle.packet.specs.Packet.{code_of, unnumbered, wire_of}
use Rattle.model.specs.Model.{fresh, has_reply, send_request, asked_of, claimed, Filing, enqueue_packet}
use Rattle.model.specs.Calls.{Call, send, enqueue_fds_ask, enqueue, discard, poll, check, poll_reply, prepare, poll_event, take_closed_ask, Said, step}
use Rattle.model.specs.Calls as Calls
use Rattle.model.specs.declared.Place.{Place}
use Rattle.model.specs.Batch.{Each}

-- ---- A run

-- The log tells what was accepted, the latest first: a request, whose number is its place among them, from 1 on; and a packet that carries a number, with its true number, which the engine never sees, and with what the engine said of it, where it was filed and under which number.
pub data Entry : Type 0 where
  sent : (has-reply : Bool) → Entry
  took : (true_number : ℕ) (packet : List ℕ) (filing : Filing) → Entry

-- what a send and a packet add to the log: a refusal adds nothing, and so does a packet that carries no number
unfoldable pub note_sent : {A : Type 0} → Bool → Answer A → List Entry → List Entry
note_sent has-reply (gives x) log = sent has-reply ∷ log
note_sent has-reply (refuses n) log = log

unfoldable pub note_took : {A : Type 0} → ℕ → List ℕ → Answer (Filing × A) → List Entry → List Entry
note_took t p (gives x) log = choose (unnumbered (code_of p)) log (took t p x.0 ∷ log)
note_took t p (refuses n) log = log

-- what a call adds; t is the true number of the packet that it brings, if it brings one
unfoldable pub noted : Client → Call → ℕ → List Entry → List Entry
noted c (send kind) t log = note_sent (has_reply kind) (send_request c kind) log
noted c (enqueue_fds_ask list) t log = log
noted c (enqueue p) t log = note_took t p (enqueue_packet c p) log
noted c (discard n m) t log = log
noted c (poll n bytes places) t log = log
noted c (check n bytes) t log = log
noted c (poll_reply n bytes) t log = log
noted c (prepare n) t log = log
noted c (poll_event bytes) t log = log
noted c (take_closed_ask places) t log = log

-- "take a fresh engine, its sends and other calls, and a server's packets taken in order, mixed as one likes, each call given the state as the one before left it": any call, with any arguments, at any time. A refused packet leaves no trace, so that the log has the packets in the server's order where a refused one is offered again before a later one.
pub data Runs : Client → List Entry → Type 0 where
  start : (o k s : ℕ) → Runs (fresh o k s) []
  call : {c : Client} {log : List Entry} (x : Call) (t : ℕ) → Runs c log → Runs (step c x).next (noted c x t log)

-- ---- The server: all of this speaks of the log, and never of the engine's numbers

-- how many requests were sent
abbrev pub sends : List Entry → ℕ
sends [] = 0
sends (sent has-reply ∷ l) = sends l + 1
sends (took t p f ∷ l) = sends l

-- q is the number of a request with a reply
abbrev pub WithReply : List Entry → ℕ → Type 0
WithReply [] q = ⊥
WithReply (sent true ∷ l) q = (q ≡ sends l + 1) ⊎ WithReply l q
WithReply (sent false ∷ l) q = WithReply l q
WithReply (took t p f ∷ l) q = WithReply l q

-- a packet with the true number q came
abbrev pub Heard : List Entry → ℕ → Type 0
Heard [] q = ⊥
Heard (sent has-reply ∷ l) q = Heard l q
Heard (took t p f ∷ l) q = (q ≡ t) ⊎ Heard l q

-- The four premises, on a packet p with the true number t that comes after l on a connection of byte order o, of any code but 11 and 139, which carry no number. It carries "the low 16 bits of its true number";
abbrev pub Wire : ℕ → ℕ → List ℕ → Type 0
Wire o t p = wire_of o p ≡ t % wire_values

-- "true numbers never fall"
abbrev pub Rises : List Entry → ℕ → Type 0
Rises l t = (u : ℕ) → Heard l u → u ≤ t

-- "nor pass the requests sent by then"
abbrev pub Known : List Entry → ℕ → Type 0
Known l t = t ≤ sends l

-- and "each request with a reply" has had "a numbered packet of its own number before any of a greater".
abbrev pub Answered : List Entry → ℕ → Type 0
Answered l t = (q : ℕ) → WithReply l q → q < t → Heard l q

pub record Fair (o : ℕ) (l : List Entry) (t : ℕ) (p : List ℕ) : Type 0 where
  pub wire : Wire o t p
  pub rises : Rises l t
  pub known : Known l t
  pub answered : Answered l t

-- each packet of a log was as P says when it came
abbrev pub Along : (List Entry → ℕ → List ℕ → Type 0) → List Entry → Type 0
Along P [] = Unit {0}
Along P (sent has-reply ∷ l) = Along P l
Along P (took t p f ∷ l) = P l t p × Along P l

-- the server is honest
abbrev pub Honest : ℕ → List Entry → Type 0
Honest o = Along (Fair o)

-- ---- What is to be shown

-- the engine's number of each packet is the true one
abbrev pub Right : List Entry → Type 0
Right [] = Unit {0}
Right (sent has-reply ∷ l) = Right l
Right (took t p f ∷ l) = (f.number ≡ t) × Right l

-- 02, M-103, with any server: the last read does not pass next reply expected, nor does that pass the last written.
pub record Ordered (n : Numbers) : Type 0 where
  pub read_most : n.read ≤ n.expected
  pub expected_most : n.expected ≤ n.written

-- the refusals that an honest packet can meet: for its length, for want of descriptors or of room
abbrev pub Ordinary : ℕ → Type 0
Ordinary n = n ≡ 1 ⊎ n ≡ 2 ⊎ n ≡ 4 ⊎ n ≡ 5

-- From c to c' the record h went to the end of its list, or nowhere where it was dropped; nothing else is held or gone.
abbrev pub Lands : Place → Held → Client → Client → Type 0
Lands Place.Replies h c c' = (c'.replies ≡ c.replies ++ (h ∷ [])) × (c'.events ≡ c.events)
Lands Place.Events h c c' = (c'.replies ≡ c.replies) × (c'.events ≡ c.events ++ (h ∷ []))
Lands Place.Dropped h c c' = (c'.replies ≡ c.replies) × (c'.events ≡ c.events)

-- the record of a packet under the number n, with the descriptors that it takes
abbrev pub held_as : Client → List ℕ → ℕ → Held
held_as c p n = arriving c p n (claimed p (asked_of c n))

-- "filed under its true number, or if dropped was reckoned by it": t is the number that the engine says, the last read, and that of the record, which has the packet whole.
pub record Filed (c : Client) (p : List ℕ) (t : ℕ) (x : Filing × Client) : Type 0 where
  pub number : x.0.number ≡ t
  pub last_read : x.1.numbers.read ≡ t
  pub record_is : Lands x.0.place (held_as c p t) c x.1

-- P is true of each record that is held
abbrev pub Holds : (Held → Type 0) → Client → Type 0
Holds P c = Each P c.replies × Each P c.events

-- P is true of what a call hands out, if that is a record
abbrev pub Hands : (Held → Type 0) → Said → Type 0
Hands P (Calls.number n) = Unit {0}
Hands P Calls.done = Unit {0}
Hands P (Calls.filed place n class) = Unit {0}
Hands P Calls.nothing = Unit {0}
Hands P (Calls.took h) = P h
Hands P Calls.again = Unit {0}
Hands P Calls.absent = Unit {0}
Hands P (Calls.answer b) = Unit {0}
Hands P (Calls.closed list) = Unit {0}
Hands P (Calls.refused n) = Unit {0}
