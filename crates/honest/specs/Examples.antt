-- Premises and conclusions at their ends, computed: rows that the nearest stronger or weaker ones fail. Assumes nothing.
use Rattle.std.specs.Prelude.{◌≡◌, refl, Bool, true, false, List, [], ◌∷◌, ℕ, replicate}
use Rattle.std.proofs.Common.{ap, arith}
use Rattle.octets.specs.Logic.{choose, both, either, apart}
use Rattle.octets.specs.Bytes.{number_in, low_number, turned}
use Rattle.octets.specs.Put.{cut}
use Rattle.octets.specs.Field.{field}
use Rattle.refusal.specs.Answer.{gives, refuses}
use Rattle.packet.specs.Packet.{unnumbered, wire_of, event, was_sent, class_of}
use Rattle.model.specs.Client.{Numbers, Client, held_packet, set_replies, set_events}
use Rattle.model.specs.Model.{fresh, asked_of, claimed, Filing}
use Rattle.model.specs.declared.Place.TheVariants as Place
use Rattle.honest.specs.Run.{Entry, sent, took, note_sent, note_took, sends, Wire, Right, Ordered, Lands}
use Rattle.honest.specs.Server.{Packet, carrying, packets_in}
use Rattle.honest.specs.Origins.{Followed, Lists, lists, none, stays, moves, goes, Moved, joined_by, Tied}
use Rattle.honest.specs.Test.{numbers_asked, numbers_heard, every, among, fairb, honestb}

-- a packet with two bytes of a number
abbrev bearing : ℕ → ℕ → ℕ → List ℕ
bearing code a b = code ∷ 9 ∷ a ∷ b ∷ replicate 28 7

abbrev filed : ℕ → Filing
filed n = record { place = Place.Events; number = n; class = event false }

-- of number t, filed under n
abbrev came : ℕ → ℕ → Entry
came t n = took t (bearing 2 t 0) (filed n)

-- requests 1 with a reply, 2 without and 3 with one
abbrev asked : List Entry
asked = sent true ∷ sent false ∷ sent true ∷ []

-- what is noted: nothing of a refusal, nor of a packet that carries no number
pub notes : (note_sent {A = ℕ} true (gives 7) asked ≡ sent true ∷ asked) × (note_sent {A = ℕ} true (refuses 5) asked ≡ asked) × (note_took {A = ℕ} 5 (bearing 2 4 0) (gives (filed 4, 7)) asked ≡ took 5 (bearing 2 4 0) (filed 4) ∷ asked)
    × (note_took {A = ℕ} 5 (bearing 11 4 0) (gives (filed 4, 7)) asked ≡ asked) × (note_took {A = ℕ} 5 (bearing 139 4 0) (gives (filed 4, 7)) asked ≡ asked) × (note_took {A = ℕ} 5 (bearing 2 4 0) (refuses 5) asked ≡ asked)
unfolding note_sent note_took unnumbered choose either
notes = (refl, refl, refl, refl, refl, refl)

pub counts : (sends (came 1 1 ∷ asked) ≡ 3) × (numbers_asked (came 1 1 ∷ asked) ≡ 3 ∷ 1 ∷ []) × (numbers_heard (came 2 8 ∷ came 1 9 ∷ asked) ≡ 2 ∷ 1 ∷ [])
unfolding numbers_asked numbers_heard
counts = (refl, refl, refl)

-- the low 16 bits of the true number, in the order of the connection
pub wires : Wire 108 65540 (bearing 2 4 0) × Wire 66 65540 (bearing 2 0 4) × (wire_of 108 (bearing 2 4 3) ≡ 772)
unfolding field number_in low_number cut turned choose
wires = (refl, refl, refl)

-- a packet of a number t is fair after l
abbrev fair : List Entry → ℕ → Bool
fair l t = fairb 108 l t (bearing 2 t 0)

-- numbers may stay and not fall; may be as great as the requests sent and no greater; and pass a request with a reply only where a packet of its own number came, though they may stand at it
pub fairness : (fair (came 2 2 ∷ came 1 1 ∷ asked) 2 ≡ true) × (fair (came 2 2 ∷ came 1 1 ∷ asked) 1 ≡ false) × (fair (came 1 1 ∷ asked) 3 ≡ true) × (fair (came 1 1 ∷ sent false ∷ sent true ∷ []) 3 ≡ false)
    × (fair asked 0 ≡ true) × (fair asked 1 ≡ true) × (fair asked 2 ≡ false) × (fair (came 1 1 ∷ asked) 2 ≡ true) × (fair (came 0 0 ∷ asked) 2 ≡ false) × (fairb 108 asked 1 (bearing 2 2 0) ≡ false)
    × (fair (came 3 3 ∷ came 1 1 ∷ asked) 3 ≡ true)
unfolding fairb every among numbers_asked numbers_heard field number_in low_number cut turned both either choose
fairness = (refl, refl, refl, refl, refl, refl, refl, refl, refl, refl, refl)

-- each packet of a log is asked by what came before it, not by what came after
pub honesty : (honestb 108 (sent true ∷ came 1 1 ∷ sent true ∷ []) ≡ true) × (honestb 108 (sent true ∷ came 2 2 ∷ sent true ∷ []) ≡ false) × (honestb 108 (came 1 1 ∷ came 2 2 ∷ asked) ≡ false)
unfolding honestb fairb every among numbers_asked numbers_heard field number_in low_number cut turned both either choose
honesty = (refl, refl, refl)

-- the conclusions say no of a wrong number, and of a record in the other list or that is lost
pub right : Right (came 4 4 ∷ sent true ∷ came 3 3 ∷ []) × (Right (came 4 4 ∷ sent true ∷ came 3 2 ∷ []) → ⊥)
right = ((refl, (refl, tt)), λ r. let z : ◌≡◌ {A = ℕ} 2 3 = r.1.0 in omega arith)

-- numbers may be equal, and none may pass the next
abbrev at : ℕ → ℕ → ℕ → Numbers
at w e r = record { written = w; expected = e; read = r }

pub ordered : Ordered (at 7 7 7) × (Ordered (at 7 7 8) → ⊥) × (Ordered (at 7 8 7) → ⊥)
ordered = (record { read_most = omega arith; expected_most = omega arith }, λ w. omega (arith, w.read_most), λ w. omega (arith, w.expected_most))

abbrev empty : Client
empty = fresh 108 4 500

abbrev replied : Client
replied = set_replies empty (held_packet 5 (51 ∷ []) (6 ∷ []) ∷ [])

abbrev told : Client
told = set_events empty (held_packet 5 (51 ∷ []) (6 ∷ []) ∷ [])

pub lands : Lands Place.Replies (held_packet 5 (51 ∷ []) (6 ∷ [])) empty replied × Lands Place.Events (held_packet 5 (51 ∷ []) (6 ∷ [])) empty told × Lands Place.Dropped (held_packet 5 (51 ∷ []) (6 ∷ [])) told told
lands = ((refl, refl), (refl, refl), (refl, refl))

-- ---- the server

abbrev packet : ℕ → List ℕ → Packet
packet t p = record { true_number = t; bytes = p }

-- of its packets those that carry a number, and those of a log in the order in which they came
pub packets : (carrying (packet 4 (bearing 2 4 0) ∷ packet 5 (bearing 11 5 0) ∷ packet 6 (bearing 139 6 0) ∷ packet 7 (bearing 140 7 0) ∷ []) ≡ packet 4 (bearing 2 4 0) ∷ packet 7 (bearing 140 7 0) ∷ [])
    × (packets_in (came 4 8 ∷ sent true ∷ came 3 9 ∷ []) ≡ packet 3 (bearing 2 3 0) ∷ packet 4 (bearing 2 4 0) ∷ [])
unfolding carrying packets_in unnumbered choose either
packets = (refl, refl)

-- ---- records that are followed

-- two packets with the same bytes, of requests 4 and 65,540
abbrev twins : List Packet
twins = packet 4 (bearing 1 4 0) ∷ packet 65540 (bearing 1 4 0) ∷ []

abbrev follow : ℕ → List ℕ → ℕ → Followed
follow n p k = record { held = held_packet n p (6 ∷ []); origin = k }

-- each is tied to its own packet, and not to the other; one that carries no number is asked for none
pub ties : Tied twins (follow 65540 (bearing 1 4 0) 1) × Tied twins (follow 4 (bearing 1 4 0) 0) × (Tied twins (follow 65540 (bearing 1 4 0) 0) → ⊥) × (Tied twins (follow 4 (bearing 1 4 0) 2) → ⊥) × Tied twins (follow 4 (bearing 11 4 0) 9) × Tied twins (follow 4 (bearing 139 4 0) 9)
unfolding unnumbered either
ties = (λ e. refl, λ e. refl, λ t. omega (arith, ap (λ (p : Packet). p.true_number) (t refl)), λ t. t refl, λ e. apart refl e, λ e. apart refl e)

-- of three replies the second moves behind the events and keeps its packet, and the third goes; of the events the first goes
abbrev before : Lists
before = lists (follow 1 (bearing 1 1 0) 10 ∷ follow 2 (bearing 0 2 0) 20 ∷ follow 3 (bearing 1 3 0) 30 ∷ []) (follow 4 (bearing 2 4 0) 40 ∷ follow 5 (bearing 2 5 0) 50 ∷ [])

abbrev afterwards : Lists
afterwards = lists (follow 1 (bearing 1 1 0) 10 ∷ []) (follow 5 (bearing 2 5 0) 50 ∷ record { held = held_packet 2 (bearing 0 2 0) []; origin = 20 } ∷ [])

pub moving : Moved before afterwards
moving = record { move = _; stay = _; replies = stays (moves (goes none)); events = goes (stays none); behind = refl }

-- a packet that is taken in comes last of its list, from as many packets as came before it
pub joining : joined_by {A = ℕ} (fresh 108 4 500) (bearing 2 7 0) (came 4 8 ∷ sent true ∷ came 3 9 ∷ []) (gives (filed 7, 8)) before
    ≡ lists before.replies (follow 4 (bearing 2 4 0) 40 ∷ follow 5 (bearing 2 5 0) 50 ∷ record { held = held_packet 7 (bearing 2 7 0) []; origin = 2 } ∷ [])
unfolding packets_in claimed asked_of class_of was_sent choose both
joining = refl
