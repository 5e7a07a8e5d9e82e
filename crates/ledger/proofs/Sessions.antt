-- Each public call balances: it does, as it is read, what the model does, and leaves in its outputs what the model hands out. So a session balances. Assumes nothing.
use Rattle.std.specs.Prelude.{Bool, List, [], ◌≡◌, ℕ, ◌+◌, length, take, drop}
use Rattle.std.proofs.Math.Path.{refl, ap}
use Rattle.std.proofs.Common.{sym, ◌∙◌, arith}
use Rattle.std.proofs.lemmas.List.{take-append-le}
use Rattle.std.proofs.Math.Seq.{take-length}
use Rattle.octets.specs.Put.{put}
use Rattle.refusal.specs.Answer.{Answer, gives, refuses, gives_rest, gives_same}
use Rattle.requests.specs.Room.{capacity}
use Rattle.descriptors.specs.Room.{count}
use Rattle.descriptors.specs.Room as Slots
use Rattle.descriptors.specs.Counting.{count_append, count_inside}
use Rattle.packet_reader.specs.Frame.{cut_packets}
use Rattle.model.specs.Client.{Client, descriptors_of}
use Rattle.model.specs.Model.{fresh, Taken, Filing, send_request, enqueue_packet, poll_for_reply_or_error, poll_for_event}
use Rattle.model.specs.Model as Model
use Rattle.model.specs.Calls.{send, enqueue_fds_ask, enqueue, discard, poll, check, poll_reply, poll_event, take_closed_ask, step}
use Rattle.model.specs.Batch.{Turn, goes, many, read_turn, ended}
use Rattle.model.specs.BatchLaws.{many_keeps}
use Rattle.model.specs.SendRequests.{kind_of, send_turn, send_requests}
use Rattle.model.specs.PollForEvents.{turns, lent, room_for, event_turn, poll_for_events}
use Rattle.model.specs.Feed.{Stopped, model_took}
use Rattle.model.specs.Promise.{Done, answer_of, rooms_of, model_of, guarded}
use Rattle.model.specs.Reading.{Rooms, slots_of, reads}
use Rattle.model.specs.ReadingLaws.{descriptors_read}
use Rattle.model.specs.Says.{shown_taken, descriptors_of_taken}
use Rattle.model.specs.Sound.{Sound}
use Rattle.model.specs.declared.Connection.{Connection}
use Rattle.model.specs.declared.ReplyFdKind.{ReplyFdKind}
use Rattle.batch.specs.Feed.{stop_at, enqueue_packets}
use Rattle.batch.specs.Theorems.{Any, all_any}
use Rattle.savepoint.specs.Calls.{laid}
use Rattle.savepoint.proofs.Theorems.{again_alike}
use Rattle.connection.specs.Opening.{opens_fresh}
use Rattle.honest.specs.Run.{Entry}
use Rattle.honest.specs.Public.{state_of}
use Rattle.session.specs.Ask.{Ask, send_request_ask, enqueue_packet_ask, discard_reply_ask, poll_for_reply_or_error_ask, poll_check_for_reply_or_error, poll_for_reply_ask, poll_for_event_with_sequence, take_closed_fds, prepare_check_for_reply_or_error, send_requests_ask, enqueue_packets_ask, poll_for_events_ask, form, Value, Outputs, Answers}
use Rattle.session.specs.Ask as Asked
use Rattle.session.specs.AskLaws.{outputs_of, has_form}
use Rattle.session.specs.Session.{Session, new, call, restored}
use Rattle.ledger.specs.Descriptors.{within, accepted, unless_refused, handed_out, took_with, closed_by, brings, places_of, finds, brought, found, session_accepted, session_handed}
use Rattle.ledger.proofs.Balance.{count_within, balances}
use Rattle.ledger.proofs.Many.{send_given, took_given, event_given, handed_gives}

-- what stands at the start of an output is found there
start_found : (out v : List ℕ) → take (length v) (put out 0 v) ≡ v
unfolding put
start_found out v = take-append-le (length v) v (drop (0 + length v) out) (omega arith) ∙ take-length v

-- a row of turns that each keep P keeps it
row_keeps : {A W X S : Type 0} (turn : S → X → Turn A W S) (P : S → Type 0) → ((s : S) (x : X) (a : A) (s' : S) → goes a s' ≡ turn s x → P s → P s') → (over : W) (s : S) (xs : List X) → P s → P (many turn over s xs).end
row_keeps turn P law over s xs p = many_keeps turn (λ t x. read_turn (λ u. u) (turn t x)) (λ u. u) P Any (λ t g x f. refl) (λ t g x f a t' q. law t x a t' q g) over s xs p (all_any xs)

module _ (d : ℕ) where
  -- ---- single calls that a row makes

  send_still : (m : Client) (kind : ReplyFdKind) (n : ℕ) (m' : Client) → send_request m kind ≡ gives (n, m') → count d (within m') + count d [] ≡ count d (within m) + count d []
  unfolding step accepted handed_out
  send_still m kind n m' q = rw q at (balances m (send kind) d)

  packet_still : (m : Client) (p : List ℕ) (f : Filing) (m' : Client) → enqueue_packet m p ≡ gives (f, m') → count d (within m') + count d [] ≡ count d (within m) + count d []
  unfolding step accepted handed_out
  packet_still m p f m' q = rw q at (balances m (enqueue p) d)

  event_still : (m : Client) (bytes : ℕ) (v : Taken) (m' : Client) → poll_for_event m bytes ≡ gives (v, m') → count d (within m') + count d [] ≡ count d (within m) + count d []
  unfolding step accepted handed_out
  event_still m bytes v m' q = rw q at (balances m (poll_event bytes) d)

  -- ---- rows

  sends_still : (m : Client) (bytes : List ℕ) → count d (within (many send_turn ended m bytes).end) ≡ count d (within m)
  sends_still m bytes =
      row_keeps send_turn (λ s. count d (within s) ≡ count d (within m)) (λ s b n s' q p. omega (arith, send_still s (kind_of b) n s' (sym (send_given s b n s' q)))) ended m bytes refl

  packets_still : (m : Client) (over : Stopped) (ps : List (List ℕ)) → count d (within (many (λ c p. model_took (length p) (enqueue_packet c p)) over m ps).end) ≡ count d (within m)
  packets_still m over ps =
      row_keeps (λ c p. model_took (length p) (enqueue_packet c p)) (λ s. count d (within s) ≡ count d (within m))
      (λ s p v s' q k. omega (arith, packet_still s p v.filing s' (sym (took_given (length p) (enqueue_packet s p) v s' q)))) over m ps refl

  events_still : (m : Client) (room : ℕ) (xs : List Bool) → count d (within (many event_turn ended (lent m room) xs).end.at) ≡ count d (within m)
  events_still m room xs =
      row_keeps event_turn (λ t. count d (within t.at) ≡ count d (within m))
      (λ t b h t' q k. omega (arith, event_still t.at (room_for b t.room) (Model.packet h) t'.at (sym (event_given t b h t' q)))) ended (lent m room) xs refl

  -- ---- every call, in the model

  polled : (m m' : Client) (n bytes : ℕ) (fds : List ℕ) (v : Taken) → poll_for_reply_or_error m n bytes (length fds) ≡ gives (v, m')
      → count d (within m') + count d (take (places_of (shown_taken v)) (put fds 0 (descriptors_of_taken v))) ≡ count d (within m) + count d []
  unfolding step accepted handed_out took_with
  polled m m' n bytes fds Model.none q = rw (start_found fds []) (rw q at (balances m (poll n bytes (length fds)) d))
  polled m m' n bytes fds (Model.packet h) q = rw (start_found fds h.descriptors) (rw q at (balances m (poll n bytes (length fds)) d))

  modelled_balances : (x : Ask) (m : Client) (v : (form x).Given) (m' : Client) → (form x).modelled m ≡ gives (v, m')
      → count d (within m') + count d (finds x ((form x).shows v) ((form x).written v)) ≡ count d (within m) + count d (brings x)
  unfolding step accepted unless_refused handed_out closed_by send_requests enqueue_packets poll_for_events
  modelled_balances (send_request_ask kind) m v m' q = send_still m kind v m' q
  modelled_balances (Asked.enqueue_fds_ask list) m v m' q = rw q at (balances m (enqueue_fds_ask list) d)
  modelled_balances (enqueue_packet_ask p) m v m' q = packet_still m p v m' q
  modelled_balances (discard_reply_ask n mode) m v m' q = rw q at (balances m (discard n mode) d)
  modelled_balances (poll_for_reply_or_error_ask n out fds) m v m' q = polled m m' n (length out) fds v q
  modelled_balances (poll_check_for_reply_or_error n out) m v m' q = rw q at (balances m (check n (length out)) d)
  modelled_balances (poll_for_reply_ask n out) m v m' q = rw q at (balances m (poll_reply n (length out)) d)
  modelled_balances (poll_for_event_with_sequence out) m v m' q = event_still m (length out) v m' q
  modelled_balances (take_closed_fds out) m v m' q = rw (start_found out v) (rw q at (balances m (take_closed_ask (length out)) d))
  modelled_balances (prepare_check_for_reply_or_error n) m v m' q = ap (λ (y : Client). count d (within y) + count d []) (sym (ap (λ y. y.1) (gives_same q)))
  modelled_balances (send_requests_ask bytes) m v m' q = ap (λ (y : Client). count d (within y) + count d []) (sym (ap (λ y. y.1) (gives_same q))) ∙ ap (λ (n : ℕ). n + count d []) (sends_still m bytes)
  modelled_balances (enqueue_packets_ask bytes) m v m' q =
      let cut = cut_packets m.order bytes in
      ap (λ (y : Client). count d (within y) + count d []) (sym (ap (λ y. y.1) (gives_same q))) ∙ ap (λ (n : ℕ). n + count d []) (packets_still m (stop_at m.order cut.left) cut.packets)
  modelled_balances (poll_for_events_ask out marks) m v m' q =
      ap (λ (y : Client). count d (within y) + count d []) (sym (handed_gives (many event_turn ended (lent m (length out)) (turns (length marks))) v m' q).1) ∙ ap (λ (n : ℕ). n + count d []) (events_still m (length out) (turns (length marks)))

  -- ---- the public call

  pub call_conserved : (x : Ask) (c : Connection) (r : Rooms) (a : Answer (Value x × Connection)) (r' : Rooms) (o : Outputs x) → Answers x c r a r' o
      → count d (within (reads (state_of a c) r')) + count d (found x a o) ≡ count d (within (reads c r)) + count d (brought x a)
  unfolding answer_of rooms_of model_of guarded outputs_of state_of brought found
  call_conserved x c r a r' o h =
      let k = has_form x c r a r' o h in
      rw (k.promise.exact.answers, k.promise.exact.leaves, k.outputs) (go (guarded c r ((form x).exactly c r)) k.promise.model)
    where
      go : (z : Answer (Done (form x).Given)) → model_of z ≡ guarded c r ((form x).modelled (reads c r))
          → count d (within (reads (state_of (answer_of (form x).shows z) c) (rooms_of z r))) + count d (found x (answer_of (form x).shows z) (outputs_of (form x).lent (form x).written z)) ≡ count d (within (reads c r)) + count d (brought x (answer_of (form x).shows z))
      go (gives y) q = modelled_balances x (reads c r) y.value (reads y.state y.left) (sym (gives_rest _ 9 _ q))
      go (refuses n) q = refl

-- ---- the session

none_within : (d o k s : ℕ) → count d (within (fresh o k s)) ≡ 0
unfolding within descriptors_of count
none_within d o k s = refl

pub session_balances : {c : Connection} {r : Rooms} {l : List Entry} (k : Session c r l) (d : ℕ) → count d (session_accepted k) ≡ count d (within (reads c r)) + count d (session_handed k)
unfolding session_accepted session_handed count
session_balances (new o r c h) d = omega (arith, ap (λ (y : Client). count d (within y)) (opens_fresh o r c h), none_within d o (capacity r.requests) (length r.store))
session_balances (call {c = c} {r = r} x b ts a r' o h k) d =
    omega (arith, session_balances k d, call_conserved d x c r a r' o h, count_append d (brought x a) (session_accepted k), count_append d (found x a o) (session_handed k))
session_balances (restored {c = c} {r = r} reader buffer ids out n out' s q b v q' b' t k) d =
    omega (arith, session_balances k d, ap (λ (y : Client). count d (within y)) (again_alike (laid c r reader buffer ids) out n out' s q b v q' b' t).same)

-- in the slots of a sound state there stands what is inside
pub within_slots : (c : Connection) (r : Rooms) → Sound c r → (d : ℕ) → count d (within (reads c r)) ≡ count d (Slots.inside (slots_of c r))
unfolding reads
within_slots c r S d = omega (arith, count_within d (reads c r), ap (count d) (descriptors_read c r S), count_inside d (slots_of c r))
