-- THE THEOREMS over whole calls, statements alone: each is proved by a law of another file. Assumes nothing.
use Rattle.std.specs.Prelude.{true, List, ◌∷◌, ◌++◌, ◌↔◌, ◌≡◌, refl, ℕ, ◌+◌, ◌-◌, ◌≤◌, length, take, drop, Result}
use Rattle.std.proofs.Common.{sym}
use Rattle.octets.specs.Put.{put}
use Rattle.refusal.specs.Answer.{Answer, gives, refuses}
use Rattle.packet_reader.specs.Alike as Readers
use Rattle.packet_reader.specs.Reader as Reader
use Rattle.packet_reader.specs.Stream.{Feeds}
use Rattle.packet_reader.specs.declared.PacketReader.{PacketReader}
use Rattle.requests.specs.Room.{capacity}
use Rattle.sequence.specs.Sending.{sync_span}
use Rattle.descriptors.specs.Room.{count}
use Rattle.descriptors.specs.Room as Slots
use Rattle.model.specs.Client.{Held, Client, used, costs}
use Rattle.model.specs.Model.{fresh, has_reply, is_error, at, find}
use Rattle.model.specs.Calls.{Call, send, discard, poll_reply, Said, number, done, absent, refused, step, run}
use Rattle.model.specs.Encoding.{InRange, Encodes, Alike}
use Rattle.model.proofs.EncodingLaws as EncodingLaws
use Rattle.model.specs.Reading.{Rooms, slots_of, reads}
use Rattle.model.specs.ReadingLaws.{used_read}
use Rattle.model.specs.Says.{ShownPoll, says_next}
use Rattle.model.specs.Sound.{Sound, soundb}
use Rattle.model.specs.SendRequests.{Sendings, send_requests, ShownSendings}
use Rattle.model.specs.PollForEvents.{Handings, poll_for_events, ShownHandings}
use Rattle.model.specs.Feed.{Feeding, bytes_taken}
use Rattle.model.specs.declared.Connection.{Connection}
use Rattle.model.specs.declared.DiscardMode.{DiscardMode}
use Rattle.model.specs.declared.ReplyFdKind.{ReplyFdKind}
use Rattle.batch.specs.Feed.{enqueue_packets}
use Rattle.savepoint.specs.Calls.{Laid, Values, Saves, Restores}
use Rattle.connection.specs.Calls.{Opens, Discards, PollsReply, SendsMany, PollsEvents}
use Rattle.connection.specs.Opening as Opening
use Rattle.connection.specs.Promises.{opens_one}
use Rattle.connection.specs.Theorems.{Sentence}
use Rattle.connection.specs.Theorems as Connection
use Rattle.honest.specs.Run as Log
use Rattle.honest.specs.Public.{state_of}
use Rattle.session.specs.Ask.{Ask, form, Value, Outputs, told, Answers, OfBytes}
use Rattle.session.specs.AskLaws as AskLaws
use Rattle.session.specs.Session.{Session}
use Rattle.session.proofs.Theorems as Session
use Rattle.ledger.specs.Descriptors.{within, accepted, handed_out, accepted_in, handed_in, brought, found, session_accepted, session_handed}
use Rattle.ledger.specs.Room.{filled, kept, NoRoom, added, given_back, NoDiscard}
use Rattle.ledger.specs.Sends.{most_sends, without_reply, numbers_from, sends_of, all_no_room, SendsRow}
use Rattle.ledger.specs.State.{as_read, shown_by, written_by, Same, AllHeard, Row, Needed, with_order, with_k, with_s, with_written, with_expected, with_read, with_outstanding, with_described, with_request_mode, with_discard, with_replies, with_events, with_number, with_packet, with_held, with_turn, with_waiting, with_closing}
use Rattle.ledger.proofs.Balance as Balance
use Rattle.ledger.proofs.Sessions as Sessions
use Rattle.ledger.proofs.RoomLaws as RoomLaws
use Rattle.ledger.specs.Moving as Moving
use Rattle.ledger.proofs.Used as Used
use Rattle.ledger.proofs.SendsLaws as SendsLaws
use Rattle.ledger.specs.Outcomes.{spoken}
use Rattle.ledger.specs.Outcomes as Outcomes
use Rattle.ledger.specs.Many as Many
use Rattle.ledger.proofs.Many as ManyLaws
use Rattle.ledger.specs.Again as Again
use Rattle.ledger.proofs.StateLaws as StateLaws
use Rattle.ledger.specs.Needed as Part
use Rattle.refusal.specs.declared.Refusal.{Refusal}

-- ---- 1. SOUND EXACTLY

-- The test behind refusal 9 holds exactly where the rules' sentence does.
pub sound_exactly : (c : Connection) (r : Rooms) → (soundb c r ≡ true) ↔ Sentence c r
sound_exactly c r = Connection.sound_exactly c r

-- And so exactly where state and rooms are an encoding of a model's state whose parts are in range,
pub encoded_exactly : (c : Connection) (r : Rooms) → (soundb c r ≡ true) ↔ ((m : Client) × Encodes m c r × InRange m)
encoded_exactly c r = EncodingLaws.encoded_exactly c r

-- which is the one that they are read as.
pub encoded_read : (m : Client) (c : Connection) (r : Rooms) → Encodes m c r → InRange m → reads c r ≡ m
encoded_read m c r e i = EncodingLaws.encoded_read m c r e i

-- ---- 2. EACH STATE THAT A CALL LEAVES IS SOUND

-- The state that `new` hands back is sound with the rooms that it was lent.
pub new_sound : (o : ℕ) (r : Rooms) (c : Connection) → Opens o r (gives (tt, c)) → Sound c r
new_sound o r c h = Opening.opens_sound o r c h

-- What any other public call hands back is sound with the rooms that it leaves; a packet that it is given is of bytes.
pub call_sound : (x : Ask) → OfBytes x → (c : Connection) (r : Rooms) (v : Value x) (c' : Connection) (r' : Rooms) (o : Outputs x) → Answers x c r (gives (v, c')) r' o → Sound c' r'
call_sound x b c r v c' r' o h = AskLaws.handed_sound x b c r v c' r' o h

-- So state and rooms are sound at any time of a session: no call of it is refused by 9.
pub session_sound : {c : Connection} {r : Rooms} {l : List Log.Entry} → Session c r l → Sound c r
session_sound k = Session.session_sound k

-- ---- 3. USED, AND NO ROOM

-- 01, Numbering and filing: "A held record costs 16 bytes and its packet length".
pub record_costs : (h : Held) (l : List Held) → costs (h ∷ l) ≡ 16 + length h.packet + costs l
unfolding costs
record_costs h l = refl

-- What the window of a sound state has is the sum of the costs over both lists.
pub used_sum : (c : Connection) (r : Rooms) → Sound c r → c.window.end - c.window.start ≡ costs (reads c r).replies + costs (reads c r).events
used_sum c r S = sym (used_read c r S)

-- Over each call, a discard apart (5. below): what is used after it with what it gave back is what was used before with what it added. A packet that is held adds its cost, one that is taken gives it back at once, and a move does neither.
pub used_over : (c : Client) (x : Call) → NoDiscard x → used (step c x).next + given_back (step c x).said ≡ used c + added x (step c x).said
used_over c x o = Used.uses c x o

-- In the model a call is refused by 5 exactly where it lacks room.
pub no_room : (x : Ask) (m : Client) → ((form x).modelled m ≡ refuses 5) ↔ NoRoom (filled m) m x
no_room x m = RoomLaws.no_room x m

-- A public call is refused by 5 exactly where the state is sound and it lacks room, by the counts that the connection keeps: `send_request` where 3 and 6 do not apply and K requests are outstanding, `enqueue_fds` where over 256 would be inside, `enqueue_packet` where 1 to 4 do not apply, the packet is to be held, and used plus its cost is over S; no other call is.
pub call_no_room : (x : Ask) (c : Connection) (r : Rooms) (a : Answer (Value x × Connection)) (r' : Rooms) (o : Outputs x) → Answers x c r a r' o → (a ≡ refuses 5) ↔ (Sound c r × NoRoom (kept c) (reads c r) x)
call_no_room x c r a r' o h = RoomLaws.call_no_room x c r a r' o h

-- ---- 4. DESCRIPTORS ARE CONSERVED, each counted as often as it is there

-- Over each call of the model: inside after it or handed out, as often as inside before or accepted.
pub conserved : (c : Client) (x : Call) (d : ℕ) → count d (within (step c x).next) + count d (handed_out x (step c x).said) ≡ count d (within c) + count d (accepted x (step c x).said)
conserved c x d = Balance.balances c x d

-- Over any row of calls on a fresh client: what was accepted is inside or was handed out.
pub run_conserved : (o k s : ℕ) (xs : List Call) (d : ℕ) → count d (accepted_in xs (run (fresh o k s) xs).said) ≡ count d (within (run (fresh o k s) xs).end) + count d (handed_in xs (run (fresh o k s) xs).said)
run_conserved o k s xs d = Balance.run_fresh o k s xs d

-- Over each public call: inside after it or found by the caller in its outputs, as often as inside before or brought. `enqueue_fds` brings descriptors, `poll_for_reply_or_error` and `take_closed_fds` hand some out, and every other call keeps them all inside.
pub call_conserved : (x : Ask) (c : Connection) (r : Rooms) (a : Answer (Value x × Connection)) (r' : Rooms) (o : Outputs x) → Answers x c r a r' o → (d : ℕ)
    → count d (within (reads (state_of a c) r')) + count d (found x a o) ≡ count d (within (reads c r)) + count d (brought x a)
call_conserved x c r a r' o h d = Sessions.call_conserved d x c r a r' o h

-- Over a session, however long: what it accepted is inside or was found by the caller in its outputs.
pub session_conserved : {c : Connection} {r : Rooms} {l : List Log.Entry} (k : Session c r l) (d : ℕ) → count d (session_accepted k) ≡ count d (within (reads c r)) + count d (session_handed k)
session_conserved k d = Sessions.session_balances k d

-- What is inside a sound state is what stands in its slots.
pub within_slots : (c : Connection) (r : Rooms) → Sound c r → (d : ℕ) → count d (within (reads c r)) ≡ count d (Slots.inside (slots_of c r))
within_slots c r S d = Sessions.within_slots c r S d

-- ---- 5. A MOVE NEVER LACKS ROOM

-- Where the oldest reply of a number is an error, `poll_for_reply` moves it whatever the output, and what is used stays.
pub move_room : (c : Client) (n bytes : ℕ) (h : Held) (l : List Held) → find n c.replies ≡ at h l → is_error h ≡ true → ((step c (poll_reply n bytes)).said ≡ absent) × (used (step c (poll_reply n bytes)).next ≡ used c)
move_room c n bytes h l found error = (Moving.move_said c n bytes h l found error, Moving.move_step_used c n bytes h l found error)

-- `discard_reply` is always done, and no more is used after it.
pub discard_room : (c : Client) (n : ℕ) (m : DiscardMode) → ((step c (discard n m)).said ≡ done) × (used (step c (discard n m)).next ≤ used c)
discard_room c n m = (Moving.discard_said c n m, Moving.discard_used c n m)

module _ (c : Connection) (r : Rooms) (n : ℕ) where
  -- The public calls: such a `poll_for_reply` is refused by 9 alone,
  pub move_refused : (out : List ℕ) (x : Held) (l : List Held) → find n (reads c r).replies ≡ at x l → is_error x ≡ true → (a : Answer (ShownPoll × Connection)) (r' : Rooms) (out' : List ℕ) → PollsReply c r n out a r' out' → (k : ℕ) → a ≡ refuses k → k ≡ 9
  move_refused out x l found error a r' out' h k e = Moving.moves_by c r n out x l found error a r' out' h k e

  -- and keeps the length of the window;
  pub move_used : (out : List ℕ) (x : Held) (l : List Held) → find n (reads c r).replies ≡ at x l → is_error x ≡ true → (v : ShownPoll) (c' : Connection) (r' : Rooms) (out' : List ℕ) → PollsReply c r n out (gives (v, c')) r' out'
      → c'.window.end - c'.window.start ≡ c.window.end - c.window.start
  move_used out x l found error v c' r' out' h = Moving.moves_used c r n out x l found error v c' r' out' h

  -- `discard_reply` is refused by 9 alone,
  pub discard_refused : (mode : DiscardMode) (a : Answer (Unit × Connection)) (r' : Rooms) → Discards c r n mode a r' → (k : ℕ) → a ≡ refuses k → k ≡ 9
  discard_refused mode a r' h k e = Moving.discards_by c r n mode a r' h k e

  -- and never lengthens the window.
  pub discard_used : (mode : DiscardMode) (c' : Connection) (r' : Rooms) → Discards c r n mode (gives (tt, c')) r' → c'.window.end - c'.window.start ≤ c.window.end - c.window.start
  discard_used mode c' r' h = Moving.discards_used c r n mode c' r' h

-- ---- 6. ONE OUTCOME: there is one, and only one; a refusal leaves all as found

-- Any two answers that the promise of `new` allows are equal.
pub new_one : (o : ℕ) (r : Rooms) (a b : Result Connection Refusal) → Opens o r (says_next a) → Opens o r (says_next b) → a ≡ b
new_one o r a b p q = opens_one o r a b p q

-- Whatever state and rooms any other public call is given, there is an outcome that its promise allows,
pub call_answers : (x : Ask) → OfBytes x → (c : Connection) (r : Rooms) → (a : Answer (Value x × Connection)) × (r' : Rooms) × (o : Outputs x) × Answers x c r a r' o
call_answers x b c r = AskLaws.some_answer x b c r

-- and any two answers that it allows are equal, with the rooms that it leaves and every output.
pub call_one : (x : Ask) (c : Connection) (r : Rooms) (a b : (spoken x).Enum) (s t : Rooms) (o p : Outputs x) → Answers x c r ((spoken x).says c a) s o → Answers x c r ((spoken x).says c b) t p → (a ≡ b) × (s ≡ t) × (o ≡ p)
call_one x c r a b s t o p h i = Outcomes.call_one x c r a b s t o p h i

-- A public call that is refused leaves rooms and outputs as found, and hands no state back.
pub call_refused : (x : Ask) (c : Connection) (r : Rooms) (n : ℕ) (s : Rooms) (o : Outputs x) → Answers x c r (refuses n) s o → (s ≡ r) × (o ≡ (form x).lent)
call_refused x c r n s o h = Outcomes.call_refused x c r n s o h

-- ---- 7. CALLS THAT MAKE MANY STEPS

-- The requests that `send_requests` sent have the numbers behind the last written, one after the other, and no others are sent.
pub sends_next : (c : Client) (bytes : List ℕ) (x : Sendings) (c' : Client) → send_requests c bytes ≡ gives (x, c') → Many.Consecutive c x.numbers c'
sends_next c bytes x c' e = ManyLaws.sends_next c bytes x c' e

-- The public call: the last number is as far from the last written as requests were sent, and is that of the state handed back.
pub send_requests_count : (c : Connection) (r : Rooms) (bytes : List ℕ) (v : ShownSendings) (c' : Connection) (r' : Rooms) → SendsMany c r bytes (gives (v, c')) r' → (v.last ≡ c.written + v.count) × (c'.written ≡ v.last)
send_requests_count c r bytes v c' r' h = ManyLaws.sends_count c r bytes v c' r' h

-- The events that `poll_for_events` hands out are the first of those held, in order; those behind them stay, and nothing else changes.
pub events_first : (c : Client) (room marks : ℕ) (x : Handings) (c' : Client) → poll_for_events c room marks ≡ gives (x, c') → Many.HandsFirst c x.events c'
events_first c room marks x c' e = ManyLaws.events_first c room marks x c' e

-- The public call: so it is as state and rooms are read, and those events stand in the outputs.
pub poll_for_events_in_order : (c : Connection) (r : Rooms) (out marks : List ℕ) (v : ShownHandings) (c' : Connection) (r' : Rooms) (out' marks' : List ℕ) → PollsEvents c r out marks (gives (v, c')) r' out' marks'
    → Many.InOrder c r out marks v c' r' out' marks'
poll_for_events_in_order c r out marks v c' r' out' marks' h = ManyLaws.events_in_order c r out marks v c' r' out' marks' h

-- A run of bytes in two pieces is the run: where `enqueue_packets` stopped for want of bytes, what it left with more behind it brings to the same packets and the same state as all at once.
pub feed_again : (m : Client) (a b : List ℕ) (f : Feeding) (m' : Client) → gives (f, m') ≡ enqueue_packets m a → Again.Waits f.stopped
    → enqueue_packets m (a ++ b) ≡ Again.with_taken f.packets (enqueue_packets m' (drop (bytes_taken f.packets) a ++ b))
feed_again m a b f m' e h = Again.again m a b f m' e h

-- ---- 8. A FRESH ENGINE BEHAVES AS THE VALUE TABLE SAYS

-- Fresh, K 65,536: each row of up to 65,534 sends without a reply passes, numbered from 1 on.
pub fresh_sends : (o s n : ℕ) → n ≤ sync_span → (run (fresh o most_sends s) (without_reply n)).said ≡ numbers_from 1 n
fresh_sends o s n h = SendsLaws.fresh_sends o s n h

-- "65,534 sends without reply pass, the next is 6; one with a reply gets 65,535; one more without passes; any further is 5": whatever kinds follow.
pub fresh_values : (o s : ℕ) (kind : ReplyFdKind) → has_reply kind ≡ true → (kinds : List ReplyFdKind)
    → (run (fresh o most_sends s) (without_reply 65534 ++ (send ReplyFdKind.NoReply ∷ send kind ∷ send ReplyFdKind.NoReply ∷ sends_of kinds))).said
    ≡ numbers_from 1 65534 ++ (refused 6 ∷ number 65535 ∷ number 65536 ∷ all_no_room kinds)
fresh_values o s kind reply kinds = SendsLaws.fresh_values o s kind reply kinds

-- The public calls: whatever `send_request` answers after a `new` with such a room is what the model says of the same row, and so that table.
pub new_values : (o : ℕ) (r : Rooms) (c : Connection) → Opens o r (gives (tt, c)) → capacity r.requests ≡ most_sends → (kind : ReplyFdKind) → has_reply kind ≡ true → (kinds : List ReplyFdKind)
    → (said : List Said) → SendsRow c r (without_reply 65534 ++ (send ReplyFdKind.NoReply ∷ send kind ∷ send ReplyFdKind.NoReply ∷ sends_of kinds)) said → said ≡ numbers_from 1 65534 ++ (refused 6 ∷ number 65535 ∷ number 65536 ∷ all_no_room kinds)
new_values o r c h k kind reply kinds said row = SendsLaws.new_values o r c h k kind reply kinds said row

-- ---- 9. WHAT COUNTS AS STATE: what a client's state is read as, all of it and nothing else

-- STATE ALONE: what a public call tells, the state that it leaves as that is read, and what stands in its outputs are the model's of the state as it is read: where things stand in the rooms has no part in them.
pub call_alone : (x : Ask) (c : Connection) (r : Rooms) → Sound c r → (a : Answer (Value x × Connection)) (r' : Rooms) (o : Outputs x) → Answers x c r a r' o
    → (as_read c a r' ≡ shown_by (form x).shows (reads c r) ((form x).modelled (reads c r))) × (o ≡ written_by (form x).lent (form x).written ((form x).modelled (reads c r)))
call_alone x c r S a r' o h = (let z = StateLaws.call_alone x c r S a r' o h in (z.seen, z.outputs))

-- Two fresh states of one byte order, in rooms of the same lengths: `new` tells the same, whatever stands in the rooms,
pub new_same : (o : ℕ) (r q : Rooms) → capacity r.requests ≡ capacity q.requests → length r.store ≡ length q.store → length r.slots ≡ length q.slots → (a b : Answer (Unit × Connection)) → Opens o r a → Opens o q b → told a ≡ told b
new_same o r q k s f a b h i = StateLaws.new_same o r q k s f a b h i

-- and the states that it hands back are alike.
pub new_alike : (o : ℕ) (r q : Rooms) → capacity r.requests ≡ capacity q.requests → length r.store ≡ length q.store → (c d : Connection) → Opens o r (gives (tt, c)) → Opens o q (gives (tt, d)) → Alike c r d q
new_alike o r q k s c d h i = StateLaws.new_alike o r q k s c d h i

-- THE SAME STATE: of two states that are read as the same, however they lie in their rooms, a public call tells the same, writes the same into equal outputs, and leaves states that are read as the same again.
pub call_same : (x : Ask) → OfBytes x → (c : Connection) (r : Rooms) (d : Connection) (q : Rooms) → Alike c r d q → (a b : Answer (Value x × Connection)) (r' q' : Rooms) (o p : Outputs x) → Answers x c r a r' o → Answers x d q b q' p
    → Same c a r' d b q' × (o ≡ p)
call_same x w c r d q k a b r' q' o p h i = StateLaws.call_same x w c r d q k a b r' q' o p h i

-- OVER ROWS: two rows of the same public calls, however long, that begin with states that are alike: the same is heard of each call, answers and outputs, and the states at the end are alike again.
pub rows_same : (xs : List Ask) (c : Connection) (r : Rooms) (d : Connection) (q : Rooms) → Alike c r d q → (hs gs : AllHeard xs) (c' : Connection) (r' : Rooms) (d' : Connection) (q' : Rooms) → Row xs c r hs c' r' → Row xs d q gs d' q' → (hs ≡ gs) × Alike c' r' d' q'
rows_same xs c r d q k hs gs c' r' d' q' l m = StateLaws.rows_same k l m

-- So with two whole sessions, each from its `new` on.
pub sessions_same : (o : ℕ) (r q : Rooms) → capacity r.requests ≡ capacity q.requests → length r.store ≡ length q.store → (c d : Connection) → Opens o r (gives (tt, c)) → Opens o q (gives (tt, d))
    → (xs : List Ask) (hs gs : AllHeard xs) (c' : Connection) (r' : Rooms) (d' : Connection) (q' : Rooms) → Row xs c r hs c' r' → Row xs d q gs d' q' → hs ≡ gs
sessions_same o r q k s c d h i xs hs gs c' r' d' q' l m = (StateLaws.rows_same (StateLaws.new_alike o r q k s c d h i) l m).0

-- SAVED, AND RESTORED IN OTHER ROOMS. The rig's save code forgot next reply expected: restored runs asked for a sync where the originals had not, and 412 sound matches were filed as desyncs. Here every part of the state is in the file.
module _ (x : Laid) (out : List ℕ) (n : ℕ) (out' : List ℕ) (s : Saves x out (gives n) out') (q : Rooms) (b : List ℕ) (v : Values) (q' : Rooms) (b' : List ℕ) (t : Restores (take n out') q b (gives v) q' b') where
  -- A RESTORED RUN ANSWERS AS THE ORIGINAL: of the same public calls, however many, the one that was restored hears what the one that was saved hears, answers and outputs, and they are left alike.
  pub restored_same : (xs : List Ask) (hs gs : AllHeard xs) (c' : Connection) (r' : Rooms) (d' : Connection) (s' : Rooms) → Row xs x.connection x.rooms hs c' r' → Row xs v.0 q' gs d' s' → (hs ≡ gs) × Alike c' r' d' s'
  restored_same xs hs gs c' r' d' s' l m = StateLaws.restored_same x out n out' s q b v q' b' t l m

  -- The allocator is the one that was saved.
  pub restored_ids : v.1.1 ≡ x.ids
  restored_ids = StateLaws.restored_ids x out n out' s q b v q' b' t

  -- The reader is alike with the one that was saved:
  pub restored_reader : Readers.Alike x.reader x.buffer v.1.0 b'
  restored_reader = StateLaws.restored_reader x out n out' s q b v q' b' t

  -- `remaining_capacity` answers the same,
  pub restored_capacity : Reader.capacity x.reader x.buffer ≡ Reader.capacity v.1.0 b'
  restored_capacity = Readers.alike_capacity x.reader x.buffer v.1.0 b' restored_reader

  -- and so does `advance` by k bytes of a piece that was put into the lent part;
  pub restored_advanced : (piece : List ℕ) (k : ℕ) → k ≤ length piece → Reader.advanced x.reader (put x.buffer x.reader.filled piece) k ≡ Reader.advanced v.1.0 (put b' v.1.0.filled piece) k
  restored_advanced = Readers.alike_advanced x.reader x.buffer v.1.0 b' restored_reader

  -- fed the same pieces, however many, both give the same packets and are left alike.
  pub restored_feeds : (pieces ps ps' : List (List ℕ)) (f g : PacketReader) (d e : List ℕ) → Feeds x.reader x.buffer pieces ps f d → Feeds v.1.0 b' pieces ps' g e → (ps ≡ ps') × Readers.Alike f d g e
  restored_feeds pieces ps ps' f g d e h i = Readers.alike_feeds restored_reader h i

-- NOTHING SUPERFLUOUS: of each part there are two values in range, all else the same, and calls that answer differently: byte order, K, S, the last number written, the next reply expected, the last read, the outstanding requests, of one whether it has descriptors, whether it has a mode and which, replies, events, of a held record its number, its packet and a reply's descriptors, of two their order, the descriptors that wait, and those to be closed.
pub each_needed :
    Needed with_order × Needed with_k × Needed with_s × Needed with_written × Needed with_expected × Needed with_read × Needed with_outstanding × Needed with_described × Needed with_request_mode × Needed with_discard × Needed with_replies × Needed with_events × Needed with_number × Needed with_packet × Needed with_held × Needed with_turn × Needed with_waiting × Needed with_closing
each_needed = Part.each_needed
