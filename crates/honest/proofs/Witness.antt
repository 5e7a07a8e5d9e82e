-- Laws of `specs/Witness.antt`. Assumes nothing.
use Rattle.std.specs.Prelude.{Bool, true, false, List, [], ◌∷◌, ◌++◌, ◌≡◌}
use Rattle.std.proofs.Common.{inl, inr, ⊎_elim, sym, ap, subst, ◌∙◌, add-one}
use Rattle.std.proofs.Math.Path.{refl}
use Prim.Native.Nat.{ℕ, zero, suc, ◌+◌, ◌-◌, ◌%◌, ◌≤◌, ◌<◌, max}
use Rattle.std.proofs.Math.Decide.{dec_le}
use native.Mathlib.Omega.{arith}
use Rattle.std.proofs.Math.ListN.{length, length-append}
use Rattle.std.proofs.Math.Seq.{drop_at}
use borrow.Author.Tests.{lt-leb, le-ltb, eq-eqb}
use Rattle.octets.specs.Logic.{choose, both, either}
use Rattle.octets.specs.Bytes.{bytes_of, low_bytes, turned}
use Rattle.refusal.specs.Answer.{gives, refuse, pass}
use Rattle.sequence.specs.Numbering.{last_number, wire_values}
use Rattle.packet.specs.Packet as Packet
use Rattle.packet.specs.Packet.{unnumbered, wire_of, was_sent, PacketClass, class_of}
use Rattle.requests.specs.declared.Request.{Request}
use Rattle.model.specs.Client.{Client, held_packet, costs, set_replies}
use Rattle.model.specs.Model as Model
use Rattle.model.specs.Model.{fresh, joining, send_request, Filing, somebody, packet_number, enqueue_packet, packet, poll_for_reply_or_error}
use Rattle.model.specs.Calls.{Call, send, enqueue_fds_ask, enqueue, discard, poll, check, poll_reply, prepare, poll_event, take_closed_ask, Said, number, done, filed, absent, answer, closed, refused, step, run}
use Rattle.model.specs.Calls as Calls
use Rattle.model.specs.declared.ReplyFdKind.TheVariants.{NoReply, ReplyWithoutFds, ReplyWithFds}
use Rattle.model.specs.declared.DiscardMode.TheVariants.{DiscardReply}
use Rattle.model.specs.declared.Place.{Place}
use Rattle.model.specs.declared.Place.TheVariants.{Replies, Events, Dropped}
use Rattle.honest.specs.Run.{Entry, sent, took, noted, Runs, start, call, sends, WithReply, Heard, Wire, Fair, Honest}
use Rattle.honest.specs.Computing.{computing, packet_of, packet_wire, send_to, packet_to, poll_to}
use Rattle.honest.specs.Server.{Packet, carrying, HonestServer}
use Rattle.honest.proofs.Theorems.{next_number}
use Rattle.honest.specs.Test.{numbers_asked, numbers_heard, every, among, fairb, honestb}
use Rattle.honest.proofs.TestLaws.{honest_by}
use Rattle.honest.specs.Witness.{Move, client_at, between, reply_to, in_replies, rounds, Through}

abbrev made : List Move → List Call
made [] = []
made (m ∷ ms) = m.call ∷ made ms

abbrev logged : Client → List Entry → List Move → List Entry
logged c l [] = l
logged c l (m ∷ ms) = logged (step c m.call).next (noted c m.call m.true_number l) ms

moves_run : (ms : List Move) (c : Client) (l : List Entry) → Runs c l → Runs (run c (made ms)).end (logged c l ms)
unfolding run
moves_run [] c l r = r
moves_run (m ∷ ms) c l r = moves_run ms (step c m.call).next (noted c m.call m.true_number l) (call m.call m.true_number r)

abbrev does : Call → Move
does x = record { call = x; true_number = 0 }

abbrev brings : ℕ → List ℕ → Move
brings t p = record { call = enqueue p; true_number = t }

abbrev held_at : ℕ → List ℕ → List ℕ → Said
held_at n p fds = Calls.took (held_packet n p fds)

-- Four requests; an event and a KeymapNotify fill the store; a reply is refused, an event is polled, and the reply is offered again; then an error, a KeymapNotify that SendEvent made, a reply with a descriptor, one that is discarded, and an event that is refused once.
abbrev moves : List Move
moves = does (send ReplyWithoutFds) ∷ does (send NoReply) ∷ does (send ReplyWithFds) ∷ does (send ReplyWithoutFds) ∷ does (enqueue_fds_ask (7 ∷ [])) ∷ does (discard 4 DiscardReply) ∷ brings 0 (packet_of 2 0 0) ∷ does (enqueue (packet_of 11 255 65535)) ∷ brings 1 (packet_of 1 0 1) ∷ does (poll_event 32) ∷ brings 1 (packet_of 1 0 1) ∷ does (poll_event 32) ∷ brings 2 (packet_of 0 3 2) ∷ does (poll 1 32 0) ∷ does (enqueue (packet_of 139 254 1)) ∷ does (poll_event 32) ∷ does (poll_reply 2 0) ∷ brings 3 (packet_of 1 1 3) ∷ brings 4 (packet_of 1 0 4) ∷ brings 4 (packet_of 2 0 4) ∷ does (poll_event 32) ∷ brings 4 (packet_of 2 0 4) ∷ does (check 3 32) ∷ does (take_closed_ask 1) ∷ does (prepare 4) ∷ []

abbrev says : List Said
says = number 1 ∷ number 2 ∷ number 3 ∷ number 4 ∷ done ∷ done ∷ filed Events 0 (Packet.event false) ∷ filed Events 0 (Packet.event false) ∷ refused 5 ∷ held_at 0 (packet_of 2 0 0) [] ∷ filed Replies 1 Packet.reply ∷ held_at 0 (packet_of 11 255 65535) [] ∷ filed Replies 2 Packet.error ∷ held_at 1 (packet_of 1 0 1) [] ∷ filed Events 2 (Packet.event true) ∷ held_at 2 (packet_of 139 254 1) [] ∷ absent ∷ filed Replies 3 Packet.reply ∷ filed Dropped 4 Packet.reply ∷ refused 5 ∷ held_at 2 (packet_of 0 3 2) [] ∷ filed Events 4 (Packet.event false) ∷ held_at 3 (packet_of 1 1 3) (7 ∷ []) ∷ closed (7 ∷ []) ∷ answer false ∷ []

pub witness_says : (run (fresh 108 4 100) (made moves)).said ≡ says
unfolding computing
witness_says = refl

-- The key bits of the sent KeymapNotify are the number of no request that the server could mean, from the last that it answered, 2, up to the last that was sent, 4; nor, past 65,536, of one from 65,538 up to 65,540: were they a number, the server would not be honest.
pub keyed : (t : ℕ) → Wire 108 t (packet_of 139 254 1) → (2 ≤ t → t ≤ 4 → ⊥) × (65538 ≤ t → t ≤ 65540 → ⊥)
unfolding computing
keyed t w = (λ from most. omega (arith, w), λ from most. omega (arith, w))

pub witness_run : Runs (run (fresh 108 4 100) (made moves)).end (logged (fresh 108 4 100) [] moves)
witness_run = moves_run moves (fresh 108 4 100) [] (start 108 4 100)

pub witness_honest : Honest 108 (logged (fresh 108 4 100) [] moves)
unfolding computing numbers_asked numbers_heard every among fairb honestb
witness_honest = honest_by 108 (logged (fresh 108 4 100) [] moves) refl

-- ---- A server may be silent: two requests without a reply get no packet before the reply to a later one, and the last request, which has a reply, is still pending

abbrev third : Packet
third = record { true_number = 3; bytes = packet_of 1 0 3 }

abbrev quiet_log : List Entry
quiet_log = sent true ∷ took 3 (packet_of 1 0 3) (record { place = Replies; number = 3; class = Packet.reply }) ∷ sent true ∷ sent false ∷ sent false ∷ []

abbrev quiet : List Move
quiet = does (send NoReply) ∷ does (send NoReply) ∷ does (send ReplyWithoutFds) ∷ brings 3 third.bytes ∷ does (send ReplyWithoutFds) ∷ []

pub quiet_run : Runs (run (fresh 108 4 48) (made quiet)).end quiet_log
unfolding computing
quiet_run = moves_run quiet (fresh 108 4 48) [] (start 108 4 48)

pub quiet_honest : HonestServer 108 (third ∷ []) quiet_log
unfolding computing carrying
quiet_honest =
    record {
      wire = (refl, tt);
      rising = (tt, tt);
      known = (omega arith, tt);
      answered = λ q a. ⊎_elim (λ (e : q ≡ 4). inr (omega arith, tt)) (λ b. ⊎_elim (λ (e : q ≡ 3). inl (sym e)) (λ z. absurd z) b) a;
    }

-- ---- Runs of any length: n times a request, its reply, and a poll that takes it

abbrev last : Request
last = joining ReplyWithoutFds

-- the same once the next request went out, and once its reply came
abbrev sent_one : ℕ → ℕ → List Request → Client
sent_one k n rest = client_at k (record { written = n + 1; expected = n + 1; read = n }) (rest ++ (last ∷ []))

abbrev took_one : ℕ → ℕ → Client
took_one k n = set_replies (between k n (last ∷ [])) (held_packet n (reply_to n) [] ∷ [])

module _ (k n : ℕ) (rest : List Request) (room : 2 ≤ k) (short : length rest ≤ 1) (fewer : length rest ≤ n) (fits : n < last_number) where
  send_one : send_request (between k n rest) ReplyWithoutFds ≡ gives (n + 1, sent_one k n rest)
  unfolding computing
  send_one = rw (lt-leb last_number n fits, lt-leb k (length rest) (omega arith))

  -- the request is the one behind the rest
  way : n + 1 - (n + 1 + 1 - length (rest ++ (last ∷ []))) ≡ length rest
  way = simp length-append (omega arith)

  asked_one : Model.asked_of (sent_one k n rest) (n + 1) ≡ somebody last
  unfolding Model.asked_of Model.head_of choose
  asked_one =
      let h : n + 1 + 1 - length (rest ++ (last ∷ [])) ≤ n + 1 = simp length-append (omega arith) in
      rw (le-ltb (n + 1) (n + 1 + 1 - length (rest ++ (last ∷ []))) h, way, drop_at rest (last ∷ []) (length rest) refl)

  take_one : packet_number (sent_one k n rest) (reply_to (n + 1)) ≡ gives (n + 1) → enqueue_packet (sent_one k n rest) (reply_to (n + 1)) ≡ gives (in_replies (n + 1), took_one k (n + 1))
  unfolding enqueue_packet pass refuse bytes_of turned low_bytes choose Model.take_in Model.decide Model.ahead Model.decide_by Model.place_of Model.claimed class_of was_sent both either costs Model.numbered unnumbered
  take_one e =
      let m : max (n + 1) (n + 1) ≡ n + 1 = omega arith in
      rw (e, le-ltb (n + 1) (n + 1) (omega arith), asked_one, way, drop_at rest (last ∷ []) (length rest) refl, m)

poll_one : (k n : ℕ) → poll_for_reply_or_error (took_one k n) n 32 0 ≡ gives (packet (held_packet n (reply_to n) []), between k n (last ∷ []))
unfolding computing
poll_one k n = rw (eq-eqb n n refl)

-- the server is honest in it
pub reply_wire : (t : ℕ) → wire_of 108 (reply_to t) ≡ t % wire_values
reply_wire t = packet_wire 108 1 0 (t % wire_values) (omega arith)

pub rounds_sends : (n : ℕ) → sends (rounds n) ≡ n
unfolding rounds unnumbered either
rounds_sends zero = refl
rounds_sends (suc n) = add-one _ ∙ ap suc (rounds_sends n)

rounds_heard : (n u : ℕ) → Heard (rounds n) u → u ≤ n
unfolding rounds
rounds_heard zero u h = absurd h
rounds_heard (suc n) u (inl h) = omega arith
rounds_heard (suc n) u (inr h) = omega (arith, rounds_heard n u h)

rounds_asked : (n q : ℕ) → WithReply (rounds n) q → Heard (rounds n) q
unfolding rounds
rounds_asked zero q a = a
rounds_asked (suc n) q (inl a) = inl (omega (arith, rounds_sends n))
rounds_asked (suc n) q (inr a) = inr (rounds_asked n q a)

rounds_fair : (n : ℕ) → Fair 108 (sent true ∷ rounds n) (suc n) (reply_to (suc n))
rounds_fair n =
    record {
      wire = reply_wire (suc n);
      rises = λ u h. omega (arith, rounds_heard n u h);
      known = omega (arith, rounds_sends n);
      answered = λ q a less. ⊎_elim (λ z. absurd (omega (arith, rounds_sends n))) (λ b. rounds_asked n q b) a;
    }

pub rounds_honest : (n : ℕ) → Honest 108 (rounds n)
unfolding rounds unnumbered either
rounds_honest zero = tt
rounds_honest (suc n) = (rounds_fair n, rounds_honest n)

round : (k n : ℕ) → 2 ≤ k → n < last_number → Through k n → Through k (suc n)
unfolding rounds unnumbered either
round k n room h m =
    let fair : Fair 108 (sent true ∷ rounds n) (n + 1) (reply_to (n + 1)) = rw add-one (rounds_fair n) in
    let asks = send_to ReplyWithoutFds (n + 1) (sent_one k n m.rest) (send_one k n m.rest room m.short m.fewer h) m.run in
    let e = next_number asks (rounds_honest n) (n + 1) (reply_to (n + 1)) refl fair in
    let takes = packet_to (n + 1) (reply_to (n + 1)) (in_replies (n + 1)) (took_one k (n + 1)) refl (take_one k n m.rest room m.short m.fewer h e) asks in
    let polls = poll_to (n + 1) 32 0 _ (between k (n + 1) (last ∷ [])) (poll_one k (n + 1)) takes in
    record { rest = last ∷ []; short = omega arith; fewer = omega arith; run = rw add-one at polls }

-- ANY LENGTH: up to the last number there are rounds, far past where wire numbers begin again.
pub any_length : (k n : ℕ) → 2 ≤ k → n ≤ last_number → Through k n
unfolding rounds
any_length k zero room h = record { rest = []; short = omega arith; fewer = omega arith; run = start 108 k 100 }
any_length k (suc n) room h = round k n room h (any_length k n room (omega arith))

-- ---- A run with every kind of call and packet past 65,536

-- after as many rounds as there are wire numbers
abbrev far : Client
far = between 5 wire_values (last ∷ [])

far_run : Runs far (rounds wire_values)
unfolding round
far_run = (round 5 65535 (omega arith) (omega arith) (any_length 5 65535 (omega arith) (omega arith))).run

-- the moves of the first run again: their wire numbers are the same, their true numbers 65,536 greater
abbrev far_moves : List Move
far_moves = does (send ReplyWithoutFds) ∷ does (send NoReply) ∷ does (send ReplyWithFds) ∷ does (send ReplyWithoutFds) ∷ does (enqueue_fds_ask (7 ∷ [])) ∷ does (discard 65540 DiscardReply) ∷ brings 65536 (packet_of 2 0 0) ∷ does (enqueue (packet_of 11 255 65535)) ∷ brings 65537 (packet_of 1 0 1) ∷ does (poll_event 32) ∷ brings 65537 (packet_of 1 0 1) ∷ does (poll_event 32) ∷ brings 65538 (packet_of 0 3 2) ∷ does (poll 65537 32 0) ∷ does (enqueue (packet_of 139 254 1)) ∷ does (poll_event 32) ∷ does (poll_reply 65538 0) ∷ brings 65539 (packet_of 1 1 3) ∷ brings 65540 (packet_of 1 0 4) ∷ brings 65540 (packet_of 2 0 4) ∷ does (poll_event 32) ∷ brings 65540 (packet_of 2 0 4) ∷ does (check 65539 32) ∷ does (take_closed_ask 1) ∷ does (prepare 65540) ∷ []

abbrev far_says : List Said
far_says = number 65537 ∷ number 65538 ∷ number 65539 ∷ number 65540 ∷ done ∷ done ∷ filed Events 65536 (Packet.event false) ∷ filed Events 65536 (Packet.event false) ∷ refused 5 ∷ held_at 65536 (packet_of 2 0 0) [] ∷ filed Replies 65537 Packet.reply ∷ held_at 65536 (packet_of 11 255 65535) [] ∷ filed Replies 65538 Packet.error ∷ held_at 65537 (packet_of 1 0 1) [] ∷ filed Events 65538 (Packet.event true) ∷ held_at 65538 (packet_of 139 254 1) [] ∷ absent ∷ filed Replies 65539 Packet.reply ∷ filed Dropped 65540 Packet.reply ∷ refused 5 ∷ held_at 65538 (packet_of 0 3 2) [] ∷ filed Events 65540 (Packet.event false) ∷ held_at 65539 (packet_of 1 1 3) (7 ∷ []) ∷ closed (7 ∷ []) ∷ answer false ∷ []

pub far_says_lem : (run far (made far_moves)).said ≡ far_says
unfolding computing
far_says_lem = refl

abbrev far_sent : List Entry
far_sent = sent true ∷ sent true ∷ sent false ∷ sent true ∷ rounds wire_values

abbrev filed_in : Place → ℕ → PacketClass → Filing
filed_in place n k = record { place = place; number = n; class = k }

abbrev far_log : List Entry
far_log = took 65540 (packet_of 2 0 4) (filed_in Events 65540 (Packet.event false)) ∷ took 65540 (packet_of 1 0 4) (filed_in Dropped 65540 Packet.reply) ∷ took 65539 (packet_of 1 1 3) (filed_in Replies 65539 Packet.reply) ∷ took 65538 (packet_of 0 3 2) (filed_in Replies 65538 Packet.error) ∷ took 65537 (packet_of 1 0 1) (filed_in Replies 65537 Packet.reply) ∷ took 65536 (packet_of 2 0 0) (filed_in Events 65536 (Packet.event false)) ∷ far_sent

far_logged : logged far (rounds wire_values) far_moves ≡ far_log
unfolding computing
far_logged = refl

pub far_witness : Runs (run far (made far_moves)).end far_log
far_witness = subst (λ (l : List Entry). Runs (run far (made far_moves)).end l) far_logged (moves_run far_moves far (rounds wire_values) far_run)

-- all that was heard is at most top, and of what was asked all up to top was heard
record Upto (l : List Entry) (top : ℕ) : Type 0 where
  heard : (u : ℕ) → Heard l u → u ≤ top
  answered : (q : ℕ) → WithReply l q → q ≤ top → Heard l q

rounds_upto : (n : ℕ) → Upto (rounds n) n
rounds_upto n = record { heard = rounds_heard n; answered = λ q a less. rounds_asked n q a }

sent_upto : (b : Bool) (l : List Entry) (top : ℕ) → top ≤ sends l → Upto l top → Upto (sent b ∷ l) top
sent_upto true l top h k = record { heard = k.heard; answered = λ q a less. ⊎_elim (λ (e : q ≡ sends l + 1). absurd (omega arith)) (λ b. k.answered q b less) a }
sent_upto false l top h k = record { heard = k.heard; answered = k.answered }

took_upto : (l : List Entry) (top t : ℕ) (p : List ℕ) (f : Filing) → top ≤ t → t ≤ top + 1 → Upto l top → Upto (took t p f ∷ l) t
took_upto l top t p f h g k =
    record {
      heard = λ u a. ⊎_elim (λ (e : u ≡ t). omega arith) (λ b. omega (arith, k.heard u b)) a;
      answered = λ q a less. elim (dec_le q top) [ yes y ↦ inr (k.answered q a y) | no n ↦ inl (omega arith) ];
    }

upto_fair : (l : List Entry) (top t : ℕ) (p : List ℕ) → top ≤ t → t ≤ top + 1 → t ≤ sends l → wire_of 108 p ≡ t % wire_values → Upto l top → Fair 108 l t p
upto_fair l top t p h g s w k =
    record { wire = w; rises = λ u a. omega (arith, k.heard u a); known = s; answered = λ q a less. k.answered q a (omega arith) }

far_sent_lem : Upto far_sent 65536
far_sent_lem =
    let e : sends (rounds wire_values) ≡ wire_values = rounds_sends wire_values in
    sent_upto true _ 65536 (omega arith) (sent_upto true _ 65536 (omega arith) (sent_upto false _ 65536 (omega arith) (sent_upto true _ 65536 (omega arith) (rounds_upto wire_values))))

pub far_honest : Honest 108 far_log
unfolding computing
far_honest =
    let e : sends (rounds wire_values) ≡ wire_values = rounds_sends wire_values in
    let a = far_sent_lem in
    let b = took_upto _ 65536 65536 (packet_of 2 0 0) (filed_in Events 65536 (Packet.event false)) (omega arith) (omega arith) a in
    let c = took_upto _ 65536 65537 (packet_of 1 0 1) (filed_in Replies 65537 Packet.reply) (omega arith) (omega arith) b in
    let d = took_upto _ 65537 65538 (packet_of 0 3 2) (filed_in Replies 65538 Packet.error) (omega arith) (omega arith) c in
    let f = took_upto _ 65538 65539 (packet_of 1 1 3) (filed_in Replies 65539 Packet.reply) (omega arith) (omega arith) d in
    let g = took_upto _ 65539 65540 (packet_of 1 0 4) (filed_in Dropped 65540 Packet.reply) (omega arith) (omega arith) f in (
      upto_fair _ 65540 65540 _ (omega arith) (omega arith) (omega arith) refl g,
      (
        upto_fair _ 65539 65540 _ (omega arith) (omega arith) (omega arith) refl f,
        (
          upto_fair _ 65538 65539 _ (omega arith) (omega arith) (omega arith) refl d,
          (
            upto_fair _ 65537 65538 _ (omega arith) (omega arith) (omega arith) refl c,
            (
              upto_fair _ 65536 65537 _ (omega arith) (omega arith) (omega arith) refl b,
              (
                upto_fair _ 65536 65536 _ (omega arith) (omega arith) (omega arith) refl a,
                rounds_honest wire_values,
              ),
            ),
          ),
        ),
      ),
    )
