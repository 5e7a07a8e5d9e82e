-- Laws of `specs/RoomLaws.antt`. Assumes nothing.
use Rattle.std.specs.Prelude.{Bool, true, false, not, List, [], ◌∷◌, ◌↔◌, ◌≡◌, refl, ℕ, ◌+◌, ◌<◌, leb}
use Rattle.std.proofs.Common.{sym, ap, ◌∙◌, subst, arith}
use Rattle.std.proofs.Math.ListN.{length}
use borrow.Author.Tests.{leb-true, leb-false, le-leb, lt-leb, ltb-true, ltb-false, lt-ltb, le-ltb}
use Rattle.octets.specs.Logic.{choose, both, both_left, both_right, both_yes, apart}
use Rattle.refusal.specs.Answer.{Answer, gives, refuses, refuse, pass, pass_refuse}
use Rattle.sequence.specs.Numbering.{last_number}
use Rattle.sequence.specs.Sending.{sync_span, must_sync, sending}
use Rattle.packet.specs.Laws.{number_refused}
use Rattle.packet.specs.Packet.{least_packet, most_packet}
use Rattle.held.specs.Head.{header_size}
use Rattle.descriptors.specs.Room.{most_descriptors}
use Rattle.model.specs.Client.{Held, Client, used, inside}
use Rattle.model.specs.Deciding.{filed_by}
use Rattle.model.proofs.Deciding.{enqueue_chain}
use Rattle.model.specs.Model as Model
use Rattle.model.specs.Model.{has_reply, send_request, enqueue_fds, take_closed, packet_number, asked_of, claimed, enqueue_packet, discard_reply, Found, at, find, Taken, PollReply, taken_by, poll_for_reply_or_error, checked_by, poll_check, replied_by, poll_for_reply, event_by, poll_for_event}
use Rattle.model.specs.Batch.{Turn, goes, stops, Many, onward, on_turn, many, Stop, ended, refused, meaningless, model_turn}
use Rattle.model.specs.SendRequests.{send_requests}
use Rattle.model.specs.PollForEvents.{turns, Lent, lent, room_for, handing, event_turn, Handings, or_refused, handed, poll_for_events}
use Rattle.model.specs.Reading.{Rooms, reads}
use Rattle.model.specs.ReadingLaws.{length_out, used_read, inside_read}
use Rattle.model.specs.Sound.{Sound}
use Rattle.model.specs.declared.Connection.{Connection}
use Rattle.model.specs.declared.ReplyFdKind.{ReplyFdKind}
use Rattle.batch.specs.Feed.{enqueue_packets}
use Rattle.session.specs.Ask.{Ask, enqueue_fds_ask, send_request_ask, enqueue_packet_ask, discard_reply_ask, poll_for_reply_or_error_ask, poll_check_for_reply_or_error, poll_for_reply_ask, poll_for_event_with_sequence, take_closed_fds, prepare_check_for_reply_or_error, send_requests_ask, enqueue_packets_ask, poll_for_events_ask, form, Value, Outputs, Answers}
use Rattle.session.specs.AskLaws.{has_form}
use Rattle.ledger.specs.Promised.{refused_on, refused_past, refused_here, here_refused, refused_alone, promise_by}
use Rattle.ledger.specs.Room.{Filled, filled, kept, SendShort, PacketShort, NoRoom}
use Rattle.ledger.specs.RoomLaws.{sent_on}

-- ---- sending

pub no_sync_false : (hr : Bool) (w e : ℕ) → both (not hr) (must_sync w e) ≡ false → hr ≡ false → w < e + sync_span
unfolding both must_sync
no_sync_false true w e h q = apart refl q
no_sync_false false w e h q = leb-false _ _ h

pub false_no_sync : (hr : Bool) (w e : ℕ) → (hr ≡ false → w < e + sync_span) → both (not hr) (must_sync w e) ≡ false
unfolding both must_sync
false_no_sync true w e h = refl
false_no_sync false w e h = lt-leb (e + sync_span) w (h refl)

-- sending is three tests in a row
pub send_row : (c : Client) (kind : ReplyFdKind)
    → send_request c kind
    ≡ refuse (leb last_number c.numbers.written) 3
    (refuse (both (not (has_reply kind)) (must_sync c.numbers.written c.numbers.expected)) 6
    (refuse (leb c.most_requests (length c.outstanding)) 5 (gives (c.numbers.written + 1, sent_on c kind))))
unfolding send_request sending pass
send_row c kind = pass_refuse _ 3 _ _ ∙ ap (refuse (leb last_number c.numbers.written) 3) (pass_refuse _ 6 _ _)

module _ (c : Client) (kind : ReplyFdKind) where
  send_short : send_request c kind ≡ refuses 5 → SendShort (filled c) c kind
  send_short q =
      let a = refused_on _ 3 5 _ (λ i. omega arith) (sym (send_row c kind) ∙ q) in
      let b = refused_on _ 6 5 _ (λ i. omega arith) a.1 in
      record { not_ended = leb-false _ _ a.0; no_sync = no_sync_false (has_reply kind) _ _ b.0; full = leb-true _ _ (refused_here _ 5 _ b.1) }

  short_send : SendShort (filled c) c kind → send_request c kind ≡ refuses 5
  short_send s =
      send_row c kind
      ∙ refused_past _ 3 5 _ (lt-leb last_number c.numbers.written s.not_ended)
      (refused_past _ 6 5 _ (false_no_sync (has_reply kind) _ _ s.no_sync) (here_refused _ 5 _ (le-leb c.most_requests (length c.outstanding) s.full)))

-- ---- descriptors

module _ (c : Client) (list : List ℕ) where
  fds_short : enqueue_fds c list ≡ refuses 5 → most_descriptors < inside c + length list
  unfolding enqueue_fds
  fds_short q = ltb-true _ _ (refused_here _ 5 _ q)

  short_fds : most_descriptors < inside c + length list → enqueue_fds c list ≡ refuses 5
  unfolding enqueue_fds
  short_fds h = here_refused _ 5 _ (lt-ltb most_descriptors (inside c + length list) h)

-- ---- intake

pass_refused : {A B : Type 0} (a : Answer A) (f : A → Answer B) (k : ℕ) → ((n : ℕ) → a ≡ refuses n → n ≡ k → ⊥) → pass a f ≡ refuses k → (x : A) × (a ≡ gives x) × (f x ≡ refuses k)
unfolding pass
pass_refused (gives x) f k d e = (x, refl, e)
pass_refused (refuses n) f k d e = absurd (d n refl (cc))

-- a number is refused by 3 alone
number_ends : (c : Client) (p : List ℕ) (n : ℕ) → packet_number c p ≡ refuses n → n ≡ 5 → ⊥
number_ends c p n e q = omega (arith, number_refused c.order c.numbers.read p n e)

module _ (c : Client) (p : List ℕ) where
  packet_short : enqueue_packet c p ≡ refuses 5 → PacketShort (filled c) c p
  packet_short q =
      let a = refused_on _ 1 5 _ (λ i. omega arith) (sym (enqueue_chain c p) ∙ q) in
      let b = refused_on _ 2 5 _ (λ i. omega arith) a.1 in
      let n = pass_refused (packet_number c p) _ 5 (number_ends c p) b.1 in
      let w = refused_on _ 20 5 _ (λ i. omega arith) n.2 in
      let d = refused_on _ 4 5 _ (λ i. omega arith) w.1 in
      let f = refused_here _ 5 _ d.1 in
      let over : c.most_bytes < used c + (header_size + length p) = ltb-true _ _ (both_right _ _ f) in
      record {
        not_short = ltb-false _ _ a.0;
        not_long = ltb-false _ _ b.0;
        number = n.0;
        numbered = n.1;
        was_asked = w.0;
        enough_wait = ltb-false _ _ d.0;
        to_be_held = both_left _ _ f;
        full = omega (arith, over);
      }

  short_packet : PacketShort (filled c) c p → enqueue_packet c p ≡ refuses 5
  unfolding pass
  short_packet s =
      enqueue_chain c p
      ∙ refused_past _ 1 5 _ (le-ltb (length p) least_packet s.not_short)
      (refused_past _ 2 5 _ (le-ltb most_packet (length p) s.not_long)
      (ap (λ (y : Answer ℕ). pass y (λ n. filed_by c p n (asked_of c n))) s.numbered
      ∙ taking))
    where
      taking : filed_by c p s.number (asked_of c s.number) ≡ refuses 5
      taking =
          refused_past _ 20 5 _ s.was_asked
          (refused_past _ 4 5 _ (le-ltb (length c.waiting) (claimed p (asked_of c s.number)) s.enough_wait)
          (here_refused _ 5 _ (both_yes _ _ s.to_be_held (lt-ltb c.most_bytes (used c + (header_size + length p)) (omega (arith, s.full))))))

-- ---- the others

-- by 8 alone
closed_by_lem : (c : Client) (places k : ℕ) → take_closed c places ≡ refuses k → k ≡ 8
unfolding take_closed
closed_by_lem c places k e = refused_alone _ 8 _ k e

taken_by_lem : (c : Client) (bytes places k : ℕ) (f : Found) → taken_by c bytes places f ≡ refuses k → k ≡ 8
taken_by_lem c bytes places k Model.nothing e = absurd (let z : ◌≡◌ {A = ℕ} 0 1 = cc in omega arith)
taken_by_lem c bytes places k (at h l) e = refused_alone _ 8 _ k e

checked_by_lem : (c : Client) (n bytes k : ℕ) (f : Found) → checked_by c n bytes f ≡ refuses k → k ≡ 8
checked_by_lem c n bytes k Model.nothing e = absurd (let z : ◌≡◌ {A = ℕ} 0 1 = cc in omega arith)
checked_by_lem c n bytes k (at h l) e = refused_alone _ 8 _ k e

replied_choose : (b t : Bool) (x y : PollReply × Client) (k : ℕ) → choose b (gives x) (refuse t 8 (gives y)) ≡ refuses k → k ≡ 8
unfolding choose
replied_choose true t x y k q = absurd (let z : ◌≡◌ {A = ℕ} 0 1 = cc in omega arith)
replied_choose false t x y k q = refused_alone t 8 y k q

replied_by_lem : (c : Client) (bytes k : ℕ) (f : Found) → replied_by c bytes f ≡ refuses k → k ≡ 8
replied_by_lem c bytes k Model.nothing e = absurd (let z : ◌≡◌ {A = ℕ} 0 1 = cc in omega arith)
replied_by_lem c bytes k (at h l) e = replied_choose _ _ _ _ k e

event_by_lem : (c : Client) (bytes k : ℕ) (l : List Held) → event_by c bytes l ≡ refuses k → k ≡ 8
event_by_lem c bytes k [] e = absurd (let z : ◌≡◌ {A = ℕ} 0 1 = cc in omega arith)
event_by_lem c bytes k (h ∷ l) e = refused_alone _ 8 _ k e

never : {A : Type 0} {a : Answer A} → ((k : ℕ) → a ≡ refuses k → k ≡ 8) → (a ≡ refuses 5) ↔ ⊥
never h = (λ e. (let z = h 5 e in omega arith), λ z. absurd z)

always : {A : Type 0} (x : A) → (gives x ≡ refuses 5) ↔ ⊥
always x = (λ e. (let z : ◌≡◌ {A = ℕ} 0 1 = cc in omega arith), λ z. absurd z)

-- so a row of polls
event_stops : (c : Client) (bytes room k : ℕ) → handing room (model_turn (poll_for_event c bytes)) ≡ stops (refused k) → k ≡ 8
unfolding handing model_turn poll_for_event
event_stops c bytes room k = go (event_by c bytes c.events) (λ n. event_by_lem c bytes n c.events)
  where
    go : (a : Answer (Taken × Client)) → ((n : ℕ) → a ≡ refuses n → n ≡ 8) → handing room (model_turn a) ≡ stops (refused k) → k ≡ 8
    go (gives x) by e = taken x.0 x.1 e
      where
        taken : (v : Taken) (s : Client) → handing room (goes v s) ≡ stops (refused k) → k ≡ 8
        taken Model.none s q = absurd (let z : ◌≡◌ {A = ℕ} 0 1 = cc in omega arith)
        taken (Model.packet h) s q = absurd (let z : ◌≡◌ {A = ℕ} 0 1 = cc in omega arith)
    go (refuses n) by e = by k (let z : n ≡ k = cc in ap refuses z)

row_stops : (t : Lent Client) (xs : List Bool) (k : ℕ) → (many event_turn ended t xs).stopped ≡ refused k → k ≡ 8
unfolding many on_turn event_turn
row_stops t [] k e = absurd (let z : ◌≡◌ {A = ℕ} 0 1 = cc in omega arith)
row_stops t (b ∷ xs) k e = go (event_turn t b) refl (λ t'. row_stops t' xs k) e
  where
    go : (y : Turn Held Stop (Lent Client)) → y ≡ event_turn t b → ((t' : Lent Client) → (many event_turn ended t' xs).stopped ≡ refused k → k ≡ 8)
        → (on_turn (λ a s'. onward (a ∷ []) (many event_turn ended s' xs)) (λ w. record { values = []; stopped = w; end = t }) y).stopped ≡ refused k → k ≡ 8
    go (goes h t') q on i = on t' i
    go (stops w) q on i = event_stops t.at (room_for b t.room) t.room k (sym q ∙ ap stops i)

events_by : (c : Client) (room marks k : ℕ) → poll_for_events c room marks ≡ refuses k → k ≡ 8
unfolding poll_for_events handed or_refused
events_by c room marks k e = go (many event_turn ended (lent c room) (turns marks)) (row_stops (lent c room) (turns marks) k) e
  where
    go : (y : Many Held Stop (Lent Client)) → (y.stopped ≡ refused k → k ≡ 8) → handed y ≡ refuses k → k ≡ 8
    go y by i = by (last y.values y.stopped i)
      where
        last : (vs : List Held) (w : Stop) → or_refused {B = Handings × Client} vs w (gives (record { events = y.values; stopped = y.stopped }, y.end.at)) ≡ refuses k → w ≡ refused k
        last [] ended q = absurd (let z : ◌≡◌ {A = ℕ} 0 1 = cc in omega arith)
        last [] (refused n) q = let z : n ≡ k = cc in ap refused z
        last [] meaningless q = absurd (let z : ◌≡◌ {A = ℕ} 0 1 = cc in omega arith)
        last (h ∷ vs) w q = absurd (let z : ◌≡◌ {A = ℕ} 0 1 = cc in omega arith)

-- ---- every call

pub no_room : (x : Ask) (c : Client) → ((form x).modelled c ≡ refuses 5) ↔ NoRoom (filled c) c x
unfolding discard_reply poll_for_reply_or_error poll_check poll_for_reply poll_for_event send_requests enqueue_packets
no_room (send_request_ask kind) c = (send_short c kind, short_send c kind)
no_room (enqueue_fds_ask list) c = (fds_short c list, short_fds c list)
no_room (enqueue_packet_ask p) c = (packet_short c p, short_packet c p)
no_room (discard_reply_ask n mode) c = always _
no_room (poll_for_reply_or_error_ask n out fds) c = never (λ k. taken_by_lem c (length out) (length fds) k (find n c.replies))
no_room (poll_check_for_reply_or_error n out) c = never (λ k. checked_by_lem c n (length out) k (find n c.replies))
no_room (poll_for_reply_ask n out) c = never (λ k. replied_by_lem c (length out) k (find n c.replies))
no_room (poll_for_event_with_sequence out) c = never (λ k. event_by_lem c (length out) k c.events)
no_room (take_closed_fds out) c = never (λ k. closed_by_lem c (length out) k)
no_room (prepare_check_for_reply_or_error n) c = always _
no_room (send_requests_ask bytes) c = always _
no_room (enqueue_packets_ask bytes) c = always _
no_room (poll_for_events_ask out marks) c = never (λ k. events_by c (length out) (length marks) k)

-- the rooms of a sound state are filled as it is read
pub kept_filled : (c : Connection) (r : Rooms) → Sound c r → kept c ≡ filled (reads c r)
kept_filled c r S = sym (λ i. record { requests = length_out c r S i; bytes = used_read c r S i; descriptors = inside_read c r S i })

pub call_no_room : (x : Ask) (c : Connection) (r : Rooms) (a : Answer (Value x × Connection)) (r' : Rooms) (o : Outputs x) → Answers x c r a r' o → (a ≡ refuses 5) ↔ (Sound c r × NoRoom (kept c) (reads c r) x)
call_no_room x c r a r' o h = (there, back)
  where
    by : (a ≡ refuses 5) ↔ (Sound c r × ((form x).modelled (reads c r) ≡ refuses 5))
    by = promise_by (form x).shows _ (form x).modelled c r a r' (has_form x c r a r' o h).promise 5 (λ i. omega arith)

    there : a ≡ refuses 5 → Sound c r × NoRoom (kept c) (reads c r) x
    there i =
        let z = by.0 i in
        (z.0, rw (kept_filled c r z.0) ((no_room x (reads c r)).0 z.1))

    back : Sound c r × NoRoom (kept c) (reads c r) x → a ≡ refuses 5
    back s = by.1 (s.0, (no_room x (reads c r)).1 (subst (λ (y : Filled). NoRoom y (reads c r) x) (kept_filled c r s.0) s.1))
