-- No part of a client's state is superfluous: for each, two states that differ in it alone, and calls that answer differently. Assumes nothing.
use Rattle.std.specs.Prelude.{Bool, true, false, List, [], ◌∷◌, ◌≡◌, refl, ℕ, leb, length, replicate}
use Rattle.std.proofs.Common.{sym, ap, ◌∙◌, arith, leb-true}
use Rattle.octets.specs.Logic.{choose, both, either, both_left, both_right}
use Rattle.octets.specs.Bytes.{legal, bytes_of, number_in, low_bytes, low_number, turned}
use Rattle.octets.specs.Put.{cut}
use Rattle.octets.specs.Field.{field}
use Rattle.refusal.specs.Answer.{refuse, pass}
use Rattle.sequence.specs.Numbering.{last_number, full, in_range}
use Rattle.sequence.specs.Sending.{sending, must_sync}
use Rattle.requests.specs.Room.{requests_most}
use Rattle.requests.specs.declared.Mode.TheVariants as Mode
use Rattle.packet.specs.Packet as Packet
use Rattle.packet.specs.Packet.{least_packet, most_packet, unnumbered, number_after, was_sent, class_of}
use Rattle.held.specs.Head.{most_store}
use Rattle.descriptors.specs.Room.{most_descriptors}
use Rattle.model.specs.Client.{Held, Client, held_packet, used, costs, descriptors_of, inside}
use Rattle.model.specs.Model as Model
use Rattle.model.specs.Model.{least_store, joining}
use Rattle.model.specs.Calls.{Call, send, enqueue, poll, check, prepare, poll_event, take_closed_ask, Said, number, filed, nothing, took, again, absent, answer, closed, refused, step, run}
use Rattle.model.specs.declared.DiscardMode.TheVariants.{DiscardReply, DiscardReplyAndError}
use Rattle.model.specs.declared.ReplyFdKind.TheVariants.{NoReply}
use Rattle.model.specs.declared.Place.TheVariants.{Replies, Events, Dropped}
use Rattle.model.specs.Batch.{Each}
use Rattle.model.specs.Encoding.{ReplyFits, EventFits, NeverFall, InRange}
use Rattle.ledger.specs.State.{Needed, with_order, with_k, with_s, with_written, with_expected, with_read, with_outstanding, with_described, with_request_mode, with_discard, with_replies, with_events, with_number, with_packet, with_held, with_turn, with_waiting, with_closing}

-- ---- the ranges as a test

unfoldable holds : ℕ → ℕ → Held → Bool
holds last most h = both (leb least_packet (length h.packet)) (both (leb (length h.packet) most_packet) (both (leb h.number last) (leb (length h.descriptors) most)))

unfoldable each : ℕ → ℕ → List Held → Bool
each last most [] = true
each last most (h ∷ l) = both (holds last most h) (each last most l)

unfoldable falls : ℕ → List Held → Bool
falls from [] = true
falls from (h ∷ l) = both (leb from h.number) (falls h.number l)

unfoldable ranged : Client → Bool
ranged m =
    both (legal m.order) (both (both (both (leb 1 m.most_requests) (leb m.most_requests requests_most)) (both (leb least_store m.most_bytes) (leb m.most_bytes most_store)))
    (both (both (leb m.numbers.written last_number) (both (leb m.numbers.expected last_number) (leb m.numbers.read last_number)))
    (both (both (leb (length m.outstanding) m.numbers.written) (leb (length m.outstanding) m.most_requests))
    (both (both (each m.numbers.read 255 m.replies) (both (each m.numbers.read 0 m.events) (falls 0 m.replies))) (both (leb (used m) m.most_bytes) (leb (inside m) most_descriptors))))))

empty : (l : List ℕ) → leb (length l) 0 ≡ true → l ≡ []
empty [] h = refl
empty (x ∷ l) h = absurd (let z = leb-true (length (x ∷ l)) 0 h in omega arith)

replies_in : (last : ℕ) (l : List Held) → each last 255 l ≡ true → Each (ReplyFits last) l
unfolding each holds
replies_in last [] h = tt
replies_in last (x ∷ l) h =
    let z = both_left _ _ h in
    let a = both_right _ _ z in
    let b = both_right _ _ a in
    (record { least = leb-true _ _ (both_left _ _ z); most = leb-true _ _ (both_left _ _ a); known = leb-true _ _ (both_left _ _ b); descriptors = leb-true _ _ (both_right _ _ b) }, replies_in last l (both_right _ _ h))

events_in : (last : ℕ) (l : List Held) → each last 0 l ≡ true → Each (EventFits last) l
unfolding each holds
events_in last [] h = tt
events_in last (x ∷ l) h =
    let z = both_left _ _ h in
    let a = both_right _ _ z in
    let b = both_right _ _ a in
    (record { least = leb-true _ _ (both_left _ _ z); most = leb-true _ _ (both_left _ _ a); known = leb-true _ _ (both_left _ _ b); descriptors = empty x.descriptors (both_right _ _ b) }, events_in last l (both_right _ _ h))

never_falls : (from : ℕ) (l : List Held) → falls from l ≡ true → NeverFall from l
unfolding falls
never_falls from [] h = tt
never_falls from (x ∷ l) h = (leb-true _ _ (both_left _ _ h), never_falls x.number l (both_right _ _ h))

is_in_range : (m : Client) → ranged m ≡ true → InRange m
unfolding ranged
is_in_range m h =
    let a = both_right _ _ h in
    let k = both_left _ _ (both_left _ _ a) in
    let s = both_right _ _ (both_left _ _ a) in
    let b = both_right _ _ a in
    let n = both_left _ _ b in
    let c = both_right _ _ b in
    let o = both_left _ _ c in
    let d = both_right _ _ c in
    let p = both_left _ _ d in
    let e = both_right _ _ d in
    record {
      order = both_left _ _ h;
      requests_least = leb-true _ _ (both_left _ _ k);
      requests_most_lem = leb-true _ _ (both_right _ _ k);
      store_least = leb-true _ _ (both_left _ _ s);
      store_most = leb-true _ _ (both_right _ _ s);
      written_most = leb-true _ _ (both_left _ _ n);
      expected_most = leb-true _ _ (both_left _ _ (both_right _ _ n));
      read_most = leb-true _ _ (both_right _ _ (both_right _ _ n));
      run_from_one = leb-true _ _ (both_left _ _ o);
      run_most = leb-true _ _ (both_right _ _ o);
      replies = replies_in _ _ (both_left _ _ p);
      events = events_in _ _ (both_left _ _ (both_right _ _ p));
      replies_never_fall = never_falls 0 _ (both_right _ _ (both_right _ _ p));
      used_most = leb-true _ _ (both_left _ _ e);
      descriptors_most = leb-true _ _ (both_right _ _ e);
    }

-- ---- part by part

-- two values, the calls, and what each comes to
needed : {P : Type 0} (state : P → Client) (x y : P) (calls : List Call) (u v : List Said) → ranged (state x) ≡ true → ranged (state y) ≡ true → (run (state x) calls).said ≡ u → (run (state y) calls).said ≡ v → (u ≡ v → ⊥) → Needed state
needed state x y calls u v f g p q d = record { one = x; other = y; is_in_range = is_in_range (state x) f; other_in_range = is_in_range (state y) g; calls = calls; differ = λ e. d (sym p ∙ e ∙ q) }

-- a packet of 32 bytes: its code, its byte 1, and a wire number of one byte in little order
abbrev packet : ℕ → ℕ → ℕ → List ℕ
packet code second wire = code ∷ second ∷ wire ∷ 0 ∷ replicate 28 0

abbrev error : List ℕ
error = packet 0 0 1

abbrev reply : List ℕ
reply = packet 1 1 1

abbrev event : List ℕ
event = packet 2 0 1

abbrev zeros : List ℕ
zeros = replicate 32 0

abbrev held : List ℕ → List ℕ → Held
held p fds = held_packet 1 p fds

-- packets that are handed out, and are not the same
module _ (h k : Held) where
  took_apart : (h ≡ k → ⊥) → took h ∷ [] ≡ took k ∷ [] → ⊥
  took_apart d e = let z : h ≡ k = cc in d z

  number_apart : (h.number ≡ k.number → ⊥) → took h ∷ [] ≡ took k ∷ [] → ⊥
  number_apart d e = took_apart (λ z. d (ap (λ (x : Held). x.number) z)) e

  packet_apart : (h.packet ≡ k.packet → ⊥) → took h ∷ [] ≡ took k ∷ [] → ⊥
  packet_apart d e = took_apart (λ z. d (ap (λ (x : Held). x.packet) z)) e

  descriptors_apart : (h.descriptors ≡ k.descriptors → ⊥) → took h ∷ [] ≡ took k ∷ [] → ⊥
  descriptors_apart d e = took_apart (λ z. d (ap (λ (x : Held). x.descriptors) z)) e

  -- behind an answer that is
  filed_apart : (h.descriptors ≡ k.descriptors → ⊥) → filed Replies 1 Packet.reply ∷ took h ∷ [] ≡ filed Replies 1 Packet.reply ∷ took k ∷ [] → ⊥
  filed_apart d e = let z : took h ∷ [] ≡ took k ∷ [] = cc in descriptors_apart d z

-- In the order of the table. K and S by what has room; the numbers by what is said; requests by where a packet is filed; the rest by what is handed out.
pub each_needed :
    Needed with_order × Needed with_k × Needed with_s × Needed with_written × Needed with_expected × Needed with_read × Needed with_outstanding × Needed with_described × Needed with_request_mode × Needed with_discard × Needed with_replies × Needed with_events × Needed with_number × Needed with_packet × Needed with_held × Needed with_turn × Needed with_waiting × Needed with_closing
unfolding ranged each holds falls legal run step Model.send_request Model.enqueue_packet Model.take_closed Model.poll_for_reply_or_error Model.poll_check Model.prepare_check Model.poll_for_event Model.find pass refuse sending must_sync both either choose number_after unnumbered class_of was_sent in_range full field number_in cut turned bytes_of low_bytes low_number Model.numbered Model.asked_of Model.head_of Model.place_of Model.claimed Model.take_in Model.decide Model.ahead Model.decide_by costs descriptors_of
each_needed = (
  needed with_order 108 66 (enqueue event ∷ []) (filed Events 1 (Packet.event false) ∷ []) (refused 20 ∷ []) refl refl refl refl (λ e. let z : ◌≡◌ {A = ℕ} 0 1 = cc in omega arith),
  needed with_k 1 2 (send NoReply ∷ []) (refused 5 ∷ []) (number 2 ∷ []) refl refl refl refl (λ e. let z : ◌≡◌ {A = ℕ} 0 1 = cc in omega arith),
  needed with_s 48 96 (enqueue event ∷ enqueue event ∷ []) (filed Events 1 (Packet.event false) ∷ refused 5 ∷ []) (filed Events 1 (Packet.event false) ∷ filed Events 1 (Packet.event false) ∷ []) refl refl refl refl (λ e. let z : ◌≡◌ {A = ℕ} 0 1 = cc in omega arith),
  needed with_written 1 2 (send NoReply ∷ []) (number 2 ∷ []) (number 3 ∷ []) refl refl refl refl (λ e. let z : ◌≡◌ {A = ℕ} 2 3 = cc in omega arith),
  needed with_expected 0 1 (prepare 1 ∷ []) (answer true ∷ []) (answer false ∷ []) refl refl refl refl (λ e. let z : ◌≡◌ {A = ℕ} 0 1 = cc in omega arith),
  needed with_read 0 1 (check 0 32 ∷ []) (again ∷ []) (absent ∷ []) refl refl refl refl (λ e. let z : ◌≡◌ {A = ℕ} 0 1 = cc in omega arith),
  needed with_outstanding [] (joining NoReply ∷ []) (enqueue error ∷ []) (filed Events 1 Packet.error ∷ []) (filed Replies 1 Packet.error ∷ []) refl refl refl refl (λ e. let z : ◌≡◌ {A = ℕ} 0 1 = cc in omega arith),
  needed with_described true false (enqueue reply ∷ poll 1 32 1 ∷ []) (filed Replies 1 Packet.reply ∷ took (held reply (7 ∷ [])) ∷ []) (filed Replies 1 Packet.reply ∷ took (held reply []) ∷ []) refl refl refl refl (λ e. filed_apart (held reply (7 ∷ [])) (held reply []) (λ l. let z : ◌≡◌ {A = ℕ} 0 1 = cc in omega arith) e),
  needed with_request_mode Mode.Keep Mode.DiscardReply (enqueue error ∷ []) (filed Replies 1 Packet.error ∷ []) (filed Events 1 Packet.error ∷ []) refl refl refl refl (λ e. let z : ◌≡◌ {A = ℕ} 0 1 = cc in omega arith),
  needed with_discard DiscardReply DiscardReplyAndError (enqueue error ∷ []) (filed Events 1 Packet.error ∷ []) (filed Dropped 1 Packet.error ∷ []) refl refl refl refl (λ e. let z : ◌≡◌ {A = ℕ} 0 1 = cc in omega arith),
  needed with_replies [] (held reply [] ∷ []) (poll 1 32 0 ∷ []) (nothing ∷ []) (took (held reply []) ∷ []) refl refl refl refl (λ e. let z : ◌≡◌ {A = ℕ} 0 1 = cc in omega arith),
  needed with_events [] (held event [] ∷ []) (poll_event 32 ∷ []) (nothing ∷ []) (took (held event []) ∷ []) refl refl refl refl (λ e. let z : ◌≡◌ {A = ℕ} 0 1 = cc in omega arith),
  needed with_number 0 1 (poll_event 32 ∷ []) (took (held_packet 0 zeros []) ∷ []) (took (held_packet 1 zeros []) ∷ []) refl refl refl refl (number_apart (held_packet 0 zeros []) (held_packet 1 zeros []) (λ l. omega arith)),
  needed with_packet event error (poll_event 32 ∷ []) (took (held event []) ∷ []) (took (held error []) ∷ []) refl refl refl refl (packet_apart (held event []) (held error []) (λ l. let z : ◌≡◌ {A = ℕ} 2 0 = cc in omega arith)),
  needed with_held (8 ∷ []) (9 ∷ []) (poll 1 32 1 ∷ []) (took (held zeros (8 ∷ [])) ∷ []) (took (held zeros (9 ∷ [])) ∷ []) refl refl refl refl (descriptors_apart (held zeros (8 ∷ [])) (held zeros (9 ∷ [])) (λ l. let z : ◌≡◌ {A = ℕ} 8 9 = cc in omega arith)),
  needed with_turn true false (poll_event 32 ∷ []) (took (held_packet 0 zeros []) ∷ []) (took (held_packet 1 zeros []) ∷ []) refl refl refl refl (number_apart (held_packet 0 zeros []) (held_packet 1 zeros []) (λ l. omega arith)),
  needed with_waiting (7 ∷ []) (8 ∷ []) (enqueue reply ∷ poll 1 32 1 ∷ []) (filed Replies 1 Packet.reply ∷ took (held reply (7 ∷ [])) ∷ []) (filed Replies 1 Packet.reply ∷ took (held reply (8 ∷ [])) ∷ []) refl refl refl refl (λ e. filed_apart (held reply (7 ∷ [])) (held reply (8 ∷ [])) (λ l. let z : ◌≡◌ {A = ℕ} 7 8 = cc in omega arith) e),
  needed with_closing [] (7 ∷ []) (take_closed_ask 9 ∷ []) (closed [] ∷ []) (closed (7 ∷ []) ∷ []) refl refl refl refl (λ e. let z : ◌≡◌ {A = ℕ} 0 1 = cc in omega arith),
)
