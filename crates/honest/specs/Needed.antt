-- Each premise is needed: a run that meets the three others, in which a packet is filed under a number that is not its own. Assumes nothing.
use Rattle.std.specs.Prelude.{true, false, List, [], ◌∷◌, ◌≡◌, refl, ℕ, zero, suc, ◌+◌, ◌≤◌, ◌<◌, length, replicate}
use Rattle.std.proofs.Common.{inl, inr, ap, ◌∙◌, add-one, arith, le-ltb}
use Rattle.std.proofs.lemmas.List.{length-replicate, replicate-append-replicate}
use Rattle.std.proofs.lemmas.Bool.{lt-leb}
use Rattle.refusal.specs.Answer.{gives}
use Rattle.sequence.specs.Numbering.{last_number}
use Rattle.packet.specs.Packet as Packet
use Rattle.model.specs.Client.{Client, set_numbers, set_outstanding}
use Rattle.model.specs.Model.{fresh, joining, send_request, Filing, take_in, enqueue_packet}
use Rattle.model.specs.Calls.{send, enqueue, step}
use Rattle.model.specs.declared.ReplyFdKind.TheVariants.{NoReply, ReplyWithoutFds}
use Rattle.model.specs.declared.Place.TheVariants.{Events}
use Rattle.honest.specs.Run.{Entry, sent, took, Runs, start, call, sends, WithReply, Heard, Wire, Rises, Known, Answered, Along, Right}
use Rattle.honest.specs.Computing.{computing, packet_of, send_to, packet_to}

-- There is a run in which each packet is as P says, and not each was given its true number.
pub record Wrong (P : ℕ → List Entry → ℕ → List ℕ → Type 0) : Type 0 where
  pub state : Client
  pub log : List Entry
  pub run : Runs state log
  pub so : Along (P state.order) log
  pub wrong : Right log → ⊥

-- an event with its wire number
abbrev event : ℕ → List ℕ
event wire = packet_of 2 0 wire

abbrev as_events : ℕ → Filing
as_events n = record { place = Events; number = n; class = Packet.event false }

-- A packet of request 1 that carries 0 is filed under 0.
pub wire_needed : Wrong (λ o l t p. Rises l t × Known l t × Answered l t)
unfolding computing
wire_needed =
    record {
      state = (step (step (fresh 108 4 500) (send NoReply)).next (enqueue (event 0))).next;
      log = took 1 (event 0) (as_events 0) ∷ sent false ∷ [];
      run = call (enqueue (event 0)) 1 (call (send NoReply) 0 (start 108 4 500));
      so = ((λ u h. absurd h, omega arith, λ q a. absurd a), tt);
      wrong = λ r. omega (arith, r.0);
    }

-- A packet of request 65,536, when nothing was sent, is filed under 0.
pub known_needed : Wrong (λ o l t p. Wire o t p × Rises l t × Answered l t)
unfolding computing
known_needed =
    record {
      state = (step (fresh 108 4 500) (enqueue (event 0))).next;
      log = took 65536 (event 0) (as_events 0) ∷ [];
      run = call (enqueue (event 0)) 65536 (start 108 4 500);
      so = ((refl, λ u h. absurd h, λ q a. absurd a), tt);
      wrong = λ r. omega (arith, r.0);
    }

-- ---- n requests with a reply, all outstanding, and not one packet

abbrev asked : ℕ → Client
asked n = set_outstanding (set_numbers (fresh 108 65536 96) (record { written = n; expected = n; read = 0 })) (replicate n (joining ReplyWithoutFds))

asks : ℕ → List Entry
asks zero = []
asks (suc n) = sent true ∷ asks n

asks_sends : (n : ℕ) → sends (asks n) ≡ n
unfolding asks
asks_sends zero = refl
asks_sends (suc n) = add-one _ ∙ ap suc (asks_sends n)

asks_heard : (n u : ℕ) → Heard (asks n) u → ⊥
unfolding asks
asks_heard zero u h = h
asks_heard (suc n) u h = asks_heard n u h

asks_least : (n q : ℕ) → WithReply (asks n) q → 1 ≤ q
unfolding asks
asks_least zero q a = absurd a
asks_least (suc n) q (inl a) = omega arith
asks_least (suc n) q (inr a) = asks_least n q a

asks_each : (P : List Entry → ℕ → List ℕ → Type 0) (n : ℕ) → Along P (asks n)
unfolding asks
asks_each P zero = tt
asks_each P (suc n) = asks_each P n

asks_one : (n : ℕ) → n < 65536 → send_request (asked n) ReplyWithoutFds ≡ gives (n + 1, asked (n + 1))
unfolding computing
asks_one n h =
    let l : length (replicate n (joining ReplyWithoutFds)) ≡ n = length-replicate n (joining ReplyWithoutFds) in
    rw (lt-leb last_number n (omega arith), l, lt-leb 65536 n h, replicate-append-replicate n 1 (joining ReplyWithoutFds))

asks_run : (n : ℕ) → n ≤ 65536 → Runs (asked n) (asks n)
unfolding asks
asks_run zero h = start 108 65536 96
asks_run (suc n) h = rw add-one at (send_to ReplyWithoutFds (n + 1) (asked (n + 1)) (asks_one n h) (asks_run n (omega arith)))

-- an event of the number n that was taken in
abbrev came : ℕ → ℕ → Client → Client
came n wire c = (take_in c (event wire) (record { place = Events; number = n; claimed = 0; class = Packet.event false })).1

module _ (n : ℕ) (h : 65536 ≤ n) where
  comes_none : enqueue_packet (asked n) (event 0) ≡ gives (as_events 0, came 0 0 (asked n))
  unfolding computing
  comes_none = rw (le-ltb n 0 (omega arith))

  comes_one : enqueue_packet (asked n) (event 1) ≡ gives (as_events 1, came 1 1 (asked n))
  unfolding computing
  comes_one = rw (le-ltb n 1 (omega arith))

  comes_far : enqueue_packet (came 1 1 (asked n)) (event 0) ≡ gives (as_events 65536, came 65536 0 (came 1 1 (asked n)))
  unfolding computing
  comes_far = rw (le-ltb n 65536 h)

-- An event of request 1, when 65,536 requests with a reply were sent, and after it one of no request: it is filed under 65,536.
pub rises_needed : Wrong (λ o l t p. Wire o t p × Known l t × Answered l t)
unfolding computing
rises_needed = after 65536 (omega arith) (omega arith)
  where
    after : (n : ℕ) → n ≤ 65536 → 65536 ≤ n → Wrong (λ o l t p. Wire o t p × Known l t × Answered l t)
    after n h g =
        record {
          state = came 65536 0 (came 1 1 (asked n));
          log = took 0 (event 0) (as_events 65536) ∷ took 1 (event 1) (as_events 1) ∷ asks n;
          run = packet_to 0 (event 0) (as_events 65536) _ refl (comes_far n g) (packet_to 1 (event 1) (as_events 1) _ refl (comes_one n g) (asks_run n h));
          so = ((refl, omega arith, λ q a less. absurd (omega arith)), ((refl, omega (arith, asks_sends n), λ q a less. absurd (omega (arith, asks_least n q a))), asks_each _ n));
          wrong = λ r. omega (arith, r.0);
        }

-- A packet of request 65,536, when 65,536 requests with a reply were sent and not one was answered, is filed under 0.
pub answered_needed : Wrong (λ o l t p. Wire o t p × Rises l t × Known l t)
unfolding computing
answered_needed = after 65536 (omega arith) (omega arith)
  where
    after : (n : ℕ) → n ≤ 65536 → 65536 ≤ n → Wrong (λ o l t p. Wire o t p × Rises l t × Known l t)
    after n h g =
        record {
          state = came 0 0 (asked n);
          log = took 65536 (event 0) (as_events 0) ∷ asks n;
          run = packet_to 65536 (event 0) (as_events 0) _ refl (comes_none n g) (asks_run n h);
          so = ((refl, λ u a. absurd (asks_heard n u a), omega (arith, asks_sends n)), asks_each _ n);
          wrong = λ r. omega (arith, r.0);
        }
