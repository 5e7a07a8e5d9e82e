-- What the runs of `Examples.antt` do not show, computed: the state's parts, rows of calls, how state and rooms are read, when they are sound, and what answers say. Each row is failed by the nearest other readings. Assumes nothing.
use Rattle.std.specs.Prelude.{◌≡◌, Bool, true, false, List, [], ◌∷◌, ◌++◌, ℕ, ◌+◌, replicate, Ok, Err, Some, None}
use Rattle.std.proofs.Math.Path.{refl}
use Rattle.octets.specs.Logic.{choose, both, either}
use Rattle.octets.specs.Bytes.{legal, bytes_of, number_in, low_bytes, low_number, turned}
use Rattle.octets.specs.Put.{put, cut}
use Rattle.octets.specs.Field.{field}
use Rattle.refusal.specs.Answer.{Answer, gives, refuses, refuse, pass}
use Rattle.refusal.specs.declared.Refusal.TheVariants as Refusal
use Rattle.sequence.specs.Sending.{sending, must_sync}
use Rattle.requests.specs.Room as Requests
use Rattle.requests.specs.declared.Request.{Request}
use Rattle.requests.specs.declared.Mode.{Mode}
use Rattle.held.specs.General.{same}
use Rattle.held.specs.Head as Head
use Rattle.held.specs.Reading as Store
use Rattle.descriptors.specs.Room as Slots
use Rattle.packet.specs.Packet as Packet
use Rattle.packet.specs.Packet.{was_sent, class_of}
use Rattle.packet.specs.declared.Class.{Class}
use Rattle.model.specs.Client.{Numbers, Held, Client, set_numbers, set_outstanding, set_replies, set_events, set_waiting, set_closing, held_packet, set_descriptors, arriving, first, costs, used, descriptors_of, inside}
use Rattle.model.specs.Model as Model
use Rattle.model.specs.Reading.{Rooms, rooms, count, with_descriptors, reads}
use Rattle.model.specs.Sound.{limitsb, runb, numbersb, holdsb, heldb, soundb}
use Rattle.model.specs.Moved.{moved_state, sent_state}
use Rattle.model.specs.Promise.{Done, answer_of, rooms_of, output_of, model_of}
use Rattle.model.specs.Batch as Batch
use Rattle.model.specs.Batch.{many, on_turn, model_turn, exact_turn, goes, stops, site, notes}
use Rattle.model.specs.SendRequests.{send_turn, send_requests}
use Rattle.model.specs.PollForEvents.{turns, packets_of, marks_of, shown_handings}
use Rattle.model.specs.Feed as Feed
use Rattle.model.specs.Feed.{model_took, exact_took, says_halt, says_fed}
use Rattle.model.specs.Says as Says
use Rattle.model.specs.SaysBatch.{says_sent_many, says_events}
use Rattle.model.specs.Encoding.{reply_row, event_row}
use Rattle.model.specs.declared.Connection.{Connection}
use Rattle.model.specs.declared.Handed.{Handed}
use Rattle.model.specs.declared.Place.TheVariants as Place
use Rattle.model.specs.declared.PollReply.TheVariants as PollReply
use Rattle.model.specs.declared.Stop.TheVariants as Stop
use Rattle.model.specs.declared.Halt.TheVariants as Halt
use Rattle.refusal.specs.declared.Refusal.{Refusal}

-- ---- the state

abbrev numbers : ℕ → ℕ → ℕ → Numbers
numbers w e r = record { written = w; expected = e; read = r }

abbrev request : Bool → Mode → Request
request d m = record { descriptors = d; mode = m }

-- a state by its nine parts, and one with all of them distinct
abbrev client : ℕ → ℕ → ℕ → Numbers → List Request → List Held → List Held → List ℕ → List ℕ → Client
client o k s n q l e w c = record { order = o; most_requests = k; most_bytes = s; numbers = n; outstanding = q; replies = l; events = e; waiting = w; closing = c }

abbrev asked : List Request
asked = request true Mode.Keep ∷ request false Mode.DiscardReply ∷ []

abbrev answered : List Held
answered = held_packet 5 (51 ∷ 52 ∷ []) (21 ∷ 22 ∷ []) ∷ held_packet 6 (61 ∷ []) (23 ∷ []) ∷ []

abbrev told : List Held
told = held_packet 4 (41 ∷ 42 ∷ 43 ∷ []) [] ∷ []

abbrev whole : Client
whole = client 66 4 500 (numbers 9 8 7) asked answered told (31 ∷ 32 ∷ 33 ∷ 34 ∷ []) (11 ∷ [])

-- one part anew, and the others as they were
pub anew : (set_numbers whole (numbers 3 2 1) ≡ client 66 4 500 (numbers 3 2 1) asked answered told (31 ∷ 32 ∷ 33 ∷ 34 ∷ []) (11 ∷ [])) × (set_outstanding whole [] ≡ client 66 4 500 (numbers 9 8 7) [] answered told (31 ∷ 32 ∷ 33 ∷ 34 ∷ []) (11 ∷ []))
    × (set_replies whole [] ≡ client 66 4 500 (numbers 9 8 7) asked [] told (31 ∷ 32 ∷ 33 ∷ 34 ∷ []) (11 ∷ [])) × (set_events whole [] ≡ client 66 4 500 (numbers 9 8 7) asked answered [] (31 ∷ 32 ∷ 33 ∷ 34 ∷ []) (11 ∷ []))
    × (set_waiting whole (35 ∷ []) ≡ client 66 4 500 (numbers 9 8 7) asked answered told (35 ∷ []) (11 ∷ [])) × (set_closing whole [] ≡ client 66 4 500 (numbers 9 8 7) asked answered told (31 ∷ 32 ∷ 33 ∷ 34 ∷ []) [])
    × (Model.fresh 66 3 50 ≡ client 66 3 50 (numbers 0 0 0) [] [] [] [] [])
anew = (refl, refl, refl, refl, refl, refl, refl)

-- the first of two outstanding numbers up to 9; 16 bytes with each packet; descriptors in the packets' order; 4 that wait, 3 held and 1 to be closed; what a packet becomes with the first 3 that wait
pub follows : (first whole ≡ 8) × (costs answered ≡ 35) × (used whole ≡ 54) × (descriptors_of answered ≡ 21 ∷ 22 ∷ 23 ∷ []) × (inside whole ≡ 8) × (arriving whole (71 ∷ []) 6 3 ≡ record { number = 6; packet = 71 ∷ []; descriptors = 31 ∷ 32 ∷ 33 ∷ [] })
    × (set_descriptors (held_packet 5 (51 ∷ []) (1 ∷ [])) (2 ∷ 3 ∷ []) ≡ held_packet 5 (51 ∷ []) (2 ∷ 3 ∷ []))
unfolding costs descriptors_of
follows = (refl, refl, refl, refl, refl, refl, refl)

-- ---- rows of calls

-- bytes 2, 1 and 0: the numbers in order, the state after the last, and the next reply expected that of the last with a reply
pub sends : send_requests (Model.fresh 66 4 500) (2 ∷ 1 ∷ 0 ∷ [])
    ≡ gives (record { numbers = 1 ∷ 2 ∷ 3 ∷ []; last = 3; stopped = Batch.ended }, client 66 4 500 (numbers 3 2 0) (request true Mode.Keep ∷ request false Mode.Keep ∷ request false Mode.Keep ∷ []) [] [] [] [])
unfolding send_requests send_turn many on_turn model_turn Model.send_request sending must_sync pass refuse both choose
sends = refl

-- three marks for each event: its number, the length of its packet, and its class; a turn for each three, and one more
pub marks : (marks_of answered ≡ 5 ∷ 2 ∷ 2 ∷ 6 ∷ 1 ∷ 2 ∷ []) × (marks_of (held_packet 7 (0 ∷ []) [] ∷ held_packet 8 (163 ∷ 1 ∷ []) [] ∷ []) ≡ 7 ∷ 1 ∷ 0 ∷ 8 ∷ 2 ∷ 5 ∷ []) × (packets_of answered ≡ 51 ∷ 52 ∷ 61 ∷ []) × (shown_handings (record { events = answered; stopped = Batch.refused 8 }) ≡ record { count = 2; bytes = 3; stopped = Batch.refused 8 })
    × (turns 8 ≡ true ∷ true ∷ false ∷ []) × (turns 6 ≡ true ∷ true ∷ false ∷ []) × (turns 5 ≡ true ∷ false ∷ []) × (turns 0 ≡ false ∷ [])
unfolding marks_of packets_of turns class_of was_sent choose
marks = (refl, refl, refl, refl, refl, refl, refl, refl)

-- a log gets what each turn gave beside its input, as far as there are both
pub noted : (notes (λ (x : ℕ) (a : ℕ) (l : List (ℕ × ℕ)). (x, a) ∷ l) (1 ∷ 2 ∷ 3 ∷ []) (7 ∷ 8 ∷ []) [] ≡ (2, 8) ∷ (1, 7) ∷ []) × (notes (λ (x : ℕ) (a : ℕ) (l : List (ℕ × ℕ)). (x, a) ∷ l) (1 ∷ []) (7 ∷ 8 ∷ []) [] ≡ (1, 7) ∷ [])
unfolding notes
noted = (refl, refl)

-- ---- the reading

-- a connection by its numbers, its window and its counts
abbrev connection : ℕ → ℕ → ℕ → ℕ → ℕ → ℕ → ℕ → ℕ → ℕ → ℕ → ℕ → ℕ → Connection
connection o k s w e r f start end closed held waiting =
    record { order = o; capacity = k; room = s; written = w; expected = e; read = r; first = f; window = record { start = start; end = end }; counts = record { closed = closed; held = held; waiting = waiting } }

-- three bytes, two replies and an event between them, and one byte
abbrev store : List ℕ
store = 1 ∷ 2 ∷ 3 ∷ (Store.flat (Head.held 5 2 0 (51 ∷ 52 ∷ []) ∷ Head.held 4 0 1 (41 ∷ 42 ∷ 43 ∷ []) ∷ Head.held 6 1 0 (61 ∷ []) ∷ []) ++ (9 ∷ []))

-- numbers 8 and 9 have the bytes 1 and 2; of the slots one is to be closed, three are held and four wait
pub reading : reads (connection 66 4 500 9 8 7 8 3 57 1 3 4) (rooms (1 ∷ 2 ∷ 5 ∷ 4 ∷ []) store (11 ∷ 21 ∷ 22 ∷ 23 ∷ 31 ∷ 32 ∷ 33 ∷ 34 ∷ 91 ∷ [])) ≡ whole
unfolding reads with_descriptors Requests.outstanding Requests.upto Requests.request_at Requests.byte_at Requests.request_of Requests.mode_of Slots.holding Slots.waiting Slots.closing Store.records Store.read_all Store.read_up_to Store.only Store.flat Head.decoded Head.num_of Head.len_of Head.fds_of Head.kind_of Head.encoded field number_in low_number cut bytes_of low_bytes turned choose
reading = refl

-- the state with some numbers anew, and records of held packets
pub moves : (moved_state (connection 66 4 500 9 8 7 6 3 57 1 3 4) (record { start = 13; end = 14 }) (record { closed = 15; held = 16; waiting = 17 }) ≡ connection 66 4 500 9 8 7 6 13 14 15 16 17)
    × (sent_state (connection 66 4 500 9 8 7 6 3 57 1 3 4) 19 18 ≡ connection 66 4 500 19 18 7 6 3 57 1 3 4) × (count (connection 66 4 500 9 8 7 6 3 57 1 3 4) ≡ 4)
    × (reply_row (held_packet 5 (51 ∷ 52 ∷ []) (21 ∷ 22 ∷ 23 ∷ [])) ≡ Head.held 5 3 0 (51 ∷ 52 ∷ [])) × (event_row (held_packet 4 (41 ∷ []) (21 ∷ [])) ≡ Head.held 4 0 1 (41 ∷ []))
moves = (refl, refl, refl, refl, refl)

-- ---- soundness

-- S from 48 to 16,777,216, and each full number up to 2^63 - 1
abbrev limits : ℕ → ℕ → ℕ → ℕ → Bool
limits s w e r = limitsb (connection 108 3 s w e r 5 2 147 1 5 4)

pub ends : (limits 48 9223372036854775807 9223372036854775807 9223372036854775807 ≡ true) × (limits 16777216 1 2 3 ≡ true) × (limits 47 1 2 3 ≡ false) × (limits 16777217 1 2 3 ≡ false)
    × (limits 48 9223372036854775808 2 3 ≡ false) × (limits 48 1 9223372036854775808 3 ≡ false) × (limits 48 1 2 9223372036854775808 ≡ false)
unfolding limitsb both
ends = (refl, refl, refl, refl, refl, refl, refl)

-- outstanding numbers from 1 on, up to the last written, which may be none, and at most K
pub run : (runb 1 0 1 ≡ true) × (runb 0 0 1 ≡ false) × (runb 2 0 1 ≡ false) × (runb 5 7 3 ≡ true) × (runb 5 7 2 ≡ false) × (runb 8 7 2 ≡ true) × (runb 9 7 2 ≡ false)
unfolding runb both
run = (refl, refl, refl, refl, refl, refl, refl)

-- two bytes, replies of 5 and 6 with two descriptors and three and an event of 4 between them, and one byte
abbrev filled : List ℕ
filled = 11 ∷ 12 ∷ (Store.flat (Head.held 5 2 0 (replicate 32 7) ∷ Head.held 4 0 1 (replicate 32 9) ∷ Head.held 6 3 0 (replicate 33 8) ∷ []) ++ (13 ∷ []))

abbrev tested : Connection → List ℕ → ℕ → Bool
tested c q slots = soundb c (rooms q filled (replicate slots 7))

-- sound, with as many requests and descriptors as there may be; not with another order, another K or S, more outstanding, an illegal byte of an outstanding number, a last read below a held number, other than the replies' descriptors held, over 256 or other than 256 slots
pub sounds : (tested (connection 108 3 148 6 5 6 4 2 147 1 5 250) (4 ∷ 3 ∷ 1 ∷ []) 256 ≡ true) × (tested (connection 66 3 148 6 5 6 5 2 147 1 5 4) (4 ∷ 6 ∷ 1 ∷ []) 256 ≡ true) × (tested (connection 67 3 148 6 5 6 5 2 147 1 5 4) (4 ∷ 3 ∷ 1 ∷ []) 256 ≡ false)
    × (tested (connection 108 4 148 6 5 6 5 2 147 1 5 4) (4 ∷ 3 ∷ 1 ∷ []) 256 ≡ false) × (tested (connection 108 3 149 6 5 6 5 2 147 1 5 4) (4 ∷ 3 ∷ 1 ∷ []) 256 ≡ false) × (tested (connection 108 3 148 6 5 6 3 2 147 1 5 4) (4 ∷ 3 ∷ 1 ∷ []) 256 ≡ false)
    × (tested (connection 108 3 148 6 5 6 4 2 147 1 5 4) (4 ∷ 6 ∷ 1 ∷ []) 256 ≡ false) × (tested (connection 108 3 148 6 5 5 5 2 147 1 5 4) (4 ∷ 3 ∷ 1 ∷ []) 256 ≡ false) × (tested (connection 108 3 148 6 5 6 5 2 147 1 4 4) (4 ∷ 3 ∷ 1 ∷ []) 256 ≡ false)
    × (tested (connection 108 3 148 6 5 6 5 2 147 1 5 251) (4 ∷ 3 ∷ 1 ∷ []) 256 ≡ false) × (tested (connection 108 3 148 6 5 6 5 2 147 1 5 4) (4 ∷ 3 ∷ 1 ∷ []) 255 ≡ false)
unfolding soundb numbersb limitsb runb heldb holdsb legal Requests.sized Requests.legals Requests.legal_run Requests.legal Requests.upto Requests.byte_at Slots.sound Store.soundb Store.fine Store.all Store.rising Store.fds_in Head.fits Head.most_fds same Store.records Store.read_all Store.read_up_to Store.only Store.flat Head.decoded Head.num_of Head.len_of Head.fds_of Head.kind_of Head.encoded field number_in low_number cut bytes_of low_bytes turned both either choose
sounds = (refl, refl, refl, refl, refl, refl, refl, refl, refl, refl, refl)

-- ---- what a call leaves and answers

module _ (c : Connection) (r q : Rooms) where
  abbrev six : Answer (Done ℕ)
  six = gives (record { value = 6; state = c; left = r })

  -- of an outcome: the answer, the rooms, an output of which it takes the start, what it is to the model, and a turn of a row; a refusal leaves all as found
  pub outcomes : (answer_of (λ (n : ℕ). n + 1) six ≡ gives (7, c)) × (answer_of (λ (n : ℕ). n + 1) (refuses 8) ≡ refuses 8)
      × (rooms_of six q ≡ r) × (rooms_of {A = ℕ} (refuses 8) q ≡ q)
      × (output_of (λ (n : ℕ). n ∷ 7 ∷ []) six (1 ∷ 2 ∷ 3 ∷ []) ≡ 6 ∷ 7 ∷ 3 ∷ []) × (output_of (λ (n : ℕ). n ∷ 7 ∷ []) (refuses 8) (1 ∷ 2 ∷ 3 ∷ []) ≡ 1 ∷ 2 ∷ 3 ∷ [])
      × (model_of six ≡ gives (6, reads c r)) × (model_of {A = ℕ} (refuses 8) ≡ refuses 8)
      × (exact_turn six ≡ goes 6 (site c r)) × (exact_turn {A = ℕ} (refuses 8) ≡ stops (Batch.refused 8))
  unfolding answer_of rooms_of output_of model_of exact_turn put
  outcomes = (refl, refl, refl, refl, refl, refl, refl, refl, refl, refl)

  -- a packet of 36 bytes as a turn
  pub taken : (model_took 36 (gives (record { place = Place.Events; number = 5; class = Packet.event true }, whole)) ≡ goes (record { bytes = 36; filing = record { place = Place.Events; number = 5; class = Packet.event true } }) whole) × (model_took 36 (refuses 4) ≡ stops (Feed.refused 4))
      × (exact_took 36 (gives (record { value = record { place = Place.Events; number = 5; class = Packet.event true }; state = c; left = r })) ≡ goes (record { bytes = 36; filing = record { place = Place.Events; number = 5; class = Packet.event true } }) (site c r)) × (exact_took 36 (refuses 4) ≡ stops (Feed.refused 4))
  unfolding model_took exact_took
  taken = (refl, refl, refl, refl)

-- what is shown of a packet that is handed out: its number, its length, its descriptors where they go with it, and its class, which is an error's also among the events
abbrev one : Held
one = held_packet 5 (51 ∷ 52 ∷ []) (21 ∷ 22 ∷ 23 ∷ [])

abbrev handed : ℕ → ℕ → ℕ → Class → Handed
handed n l d k = record { number = record { 0 = n }; length = l; descriptors = d; class = k }

pub shows : (Says.shown_taken (Model.packet one) ≡ Says.packet (handed 5 2 3 Class.Event)) × (Says.shown_taken Model.none ≡ Says.none) × (Says.shown_poll (Model.reply one) ≡ Says.reply (handed 5 2 0 Class.Event)) × (Says.shown_poll Model.try_again ≡ Says.again) × (Says.shown_poll Model.no_reply ≡ Says.no_reply)
    × (Says.bytes_of_taken (Model.packet one) ≡ 51 ∷ 52 ∷ []) × (Says.descriptors_of_taken (Model.packet one) ≡ 21 ∷ 22 ∷ 23 ∷ []) × (Says.bytes_of_poll (Model.reply one) ≡ 51 ∷ 52 ∷ [])
    × (Says.shown_taken (Model.packet (Model.as_event (held_packet 6 (0 ∷ 52 ∷ []) (21 ∷ [])))) ≡ Says.packet (handed 6 2 0 Class.Error)) × (Says.shown_taken (Model.packet (held_packet 7 (163 ∷ []) [])) ≡ Says.packet (handed 7 1 0 Class.SentGeneric))
    × (Says.bytes_of_taken Model.none ≡ []) × (Says.descriptors_of_taken Model.none ≡ []) × (Says.bytes_of_poll Model.try_again ≡ []) × (Says.bytes_of_poll Model.no_reply ≡ [])
unfolding class_of was_sent choose
shows = (refl, refl, refl, refl, refl, refl, refl, refl, refl, refl, refl, refl, refl, refl)

-- handed out under the number 5, and without descriptors
pub such : Says.Under 5 (handed 5 2 3 Class.Event) × Says.Bare (handed 5 2 0 Class.Event) × Says.IfShown (Says.Under 5) (Says.packet (handed 5 2 3 Class.Event)) × Says.IfPolled Says.Bare (Says.reply (handed 5 2 0 Class.Event))
such = (refl, refl, refl, refl)

-- what the results say
module _ (c : Connection) where
  pub says : (Says.says_next (Ok c) ≡ gives (tt, c)) × (Says.says_sent (Ok (record { number = (record { 0 = 7 }); connection = c })) ≡ gives (7, c)) × (Says.says_enqueued (Ok (record { place = Place.Dropped; number = (record { 0 = 7 }); class = Class.Generic; connection = c })) ≡ gives (record { place = Place.Dropped; number = 7; class = Packet.generic false }, c))
      × (Says.says_polled (Ok (record { packet = Some (handed 5 2 3 Class.Event); connection = c })) ≡ gives (Says.packet (handed 5 2 3 Class.Event), c)) × (Says.says_polled (Ok (record { packet = None; connection = c })) ≡ gives (Says.none, c))
      × (Says.says_poll_reply (Ok (PollReply.TryAgain c)) ≡ gives (Says.again, c)) × (Says.says_poll_reply (Ok (PollReply.NoReply c)) ≡ gives (Says.no_reply, c)) × (Says.says_poll_reply (Ok (PollReply.Reply (handed 5 2 3 Class.Event) c)) ≡ gives (Says.reply (handed 5 2 3 Class.Event), c))
      × (Says.says_polled (Ok (record { packet = Some (handed 5 2 0 Class.Event); connection = c })) ≡ gives (Says.packet (handed 5 2 0 Class.Event), c)) × (Says.says_polled (Ok (record { packet = None; connection = c })) ≡ gives (Says.none, c)) × (Says.says_closed (Ok (record { count = 6; connection = c })) ≡ gives (6, c)) × (Says.says_prepared (Ok true) ≡ gives true)
  says = (refl, refl, refl, refl, refl, refl, refl, refl, refl, refl, refl, refl)

  pub says_many : (says_sent_many (Ok (record { count = 3; last = (record { 0 = 9 }); stop = Stop.NoKind; connection = c })) ≡ gives (record { count = 3; last = 9; stopped = Batch.meaningless }, c)) × (says_events (Ok (record { count = 2; bytes = 68; stop = Stop.End; connection = c })) ≡ gives (record { count = 2; bytes = 68; stopped = Batch.ended }, c))
      × (says_fed (Ok (record { bytes = 68; packets = 2; halt = Halt.Part; connection = c })) ≡ gives (record { bytes = 68; packets = 2; stopped = Feed.partial }, c)) × (says_halt Halt.End ≡ Feed.ended)
  says_many = (refl, refl, refl, refl)

-- and a refusal by its number
pub says_refused : (Says.says_next (Err Refusal.NoRoom) ≡ refuses 5) × (Says.says_sent (Err Refusal.SyncFirst) ≡ refuses 6) × (Says.says_enqueued (Err Refusal.FewDescriptors) ≡ refuses 4) × (Says.says_polled (Err Refusal.OutShort) ≡ refuses 8)
    × (Says.says_poll_reply (Err Refusal.OutShort) ≡ refuses 8) × (Says.says_polled (Err Refusal.BadRoom) ≡ refuses 9) × (Says.says_closed (Err Refusal.OutShort) ≡ refuses 8) × (Says.says_prepared (Err Refusal.BadRoom) ≡ refuses 9)
    × (says_sent_many (Err Refusal.BadRoom) ≡ refuses 9) × (says_events (Err Refusal.OutShort) ≡ refuses 8) × (says_fed (Err Refusal.BadRoom) ≡ refuses 9) × (says_halt (Halt.Refused Refusal.NumberEnd) ≡ Feed.refused 3)
says_refused = (refl, refl, refl, refl, refl, refl, refl, refl, refl, refl, refl, refl)
