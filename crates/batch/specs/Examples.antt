-- `enqueue_packets` and the turns of `poll_for_events` at work: computed rows of the model. Assumes nothing.
use Rattle.std.specs.Prelude.{◌≡◌, refl, List, [], ◌∷◌, ◌++◌, ℕ, replicate}
use Rattle.octets.specs.Logic.{choose, both, either}
use Rattle.octets.specs.Bytes.{bytes_of, number_in, low_bytes, low_number, turned}
use Rattle.octets.specs.Put.{cut}
use Rattle.octets.specs.Field.{field}
use Rattle.refusal.specs.Answer.{Answer, gives, refuses, refuse, pass}
use Rattle.sequence.specs.Numbering.{full, in_range}
use Rattle.packet.specs.Packet.{was_sent, class_of, unnumbered, number_after}
use Rattle.packet_reader.specs.Frame.{length_as, total_of, aim, cuts, cut_packets}
use Rattle.model.specs.Client.{Held, Client, held_packet, set_numbers, set_events, costs, descriptors_of}
use Rattle.model.specs.Model as Model
use Rattle.model.specs.Batch as Batch
use Rattle.model.specs.Batch.{goes, stops, many, on_turn, model_turn}
use Rattle.model.specs.PollForEvents.{with_marks, without_marks, turns, lent, room_for, handing, event_turn}
use Rattle.model.specs.Feed.{Stopped, ended, partial, refused, Feeding, ShownFed, shown_fed, model_took, bytes_taken}
use Rattle.batch.specs.Feed.{stop_at, enqueue_packets}

-- what it says, without the state
abbrev said : Answer (Feeding × Client) → Answer ShownFed
said (gives x) = gives (shown_fed x.0)
said (refuses n) = refuses n

-- a connection that sent three requests, whose store takes three packets of 32 bytes
abbrev asked : ℕ → Client
asked o = set_numbers (Model.fresh o 2 144) (record { written = 3; expected = 0; read = 0 })

abbrev fed : List ℕ → Answer ShownFed
fed bytes = said (enqueue_packets (asked 108) bytes)

abbrev took : ℕ → ℕ → Stopped → Answer ShownFed
took bytes packets stopped = gives (record { bytes = bytes; packets = packets; stopped = stopped })

-- an event of number 1, and a reply of 36 bytes, whose length field is 1
abbrev event : List ℕ
event = 2 ∷ 0 ∷ (bytes_of 108 2 1 ++ replicate 28 0)

abbrev longer : List ℕ
longer = 1 ∷ 0 ∷ 2 ∷ 0 ∷ 1 ∷ replicate 31 0

-- the first 32 bytes of a generic event of 65,540
abbrev over : List ℕ
over = 35 ∷ 0 ∷ 3 ∷ 0 ∷ 249 ∷ 63 ∷ replicate 26 0

-- an event of a request that was not sent, and a KeymapNotify with the same bits
abbrev early : List ℕ
early = 2 ∷ 0 ∷ 4 ∷ 0 ∷ replicate 28 0

abbrev keymap : List ℕ
keymap = 11 ∷ 0 ∷ 4 ∷ 0 ∷ replicate 28 0

-- two packets and part of a third; the fourth of four finds no room; of part of a packet nothing is taken; no bytes are the end; one that is too long is refused as soon as its length is there; the row stops before an answer to what was not asked, though others are behind it
pub feeds : (fed (event ++ longer ++ 2 ∷ 0 ∷ []) ≡ took 68 2 partial) × (fed (event ++ event ++ event ++ event) ≡ took 96 3 (refused 5)) × (fed (2 ∷ 0 ∷ []) ≡ took 0 0 partial) × (fed [] ≡ took 0 0 ended)
    × (fed (event ++ over) ≡ took 32 1 (refused 2)) × (fed (35 ∷ 0 ∷ 3 ∷ 0 ∷ 249 ∷ 63 ∷ replicate 25 0) ≡ took 0 0 partial) × (fed (event ++ keymap ++ early ++ event) ≡ took 64 2 (refused 20))
unfolding enqueue_packets cut_packets cuts aim total_of length_as class_of was_sent stop_at many on_turn model_took bytes_taken Model.enqueue_packet number_after unnumbered Model.numbered Model.asked_of Model.head_of Model.place_of Model.claimed Model.take_in Model.decide Model.ahead Model.decide_by pass refuse in_range full field number_in cut turned bytes_of low_bytes low_number costs descriptors_of choose both either
feeds = (refl, refl, refl, refl, refl, refl, refl)

-- in the other order: the same two packets, of which the second has its length elsewhere
pub feeds_big : said (enqueue_packets (asked 66) (2 ∷ 0 ∷ 0 ∷ 1 ∷ (replicate 28 0 ++ (1 ∷ 0 ∷ 0 ∷ 2 ∷ 0 ∷ 0 ∷ 0 ∷ 1 ∷ replicate 28 0)))) ≡ took 68 2 ended
unfolding enqueue_packets cut_packets cuts aim total_of length_as class_of was_sent stop_at many on_turn model_took bytes_taken Model.enqueue_packet number_after unnumbered Model.numbered Model.asked_of Model.head_of Model.place_of Model.claimed Model.take_in Model.decide Model.ahead Model.decide_by pass refuse in_range full field number_in cut turned bytes_of low_bytes low_number costs descriptors_of choose both either
feeds_big = refl

-- ---- the turns of `poll_for_events`

-- two events, of 32 and of 36 bytes, and a state that holds these
abbrev first : Held
first = held_packet 5 event []

abbrev second : Held
second = held_packet 6 longer []

abbrev holding : List Held → Client
holding l = set_events (Model.fresh 108 4 500) l

-- Eight marks are two turns with marks and the last, without.
pub turns_eight : turns 8 ≡ with_marks ∷ with_marks ∷ without_marks ∷ []
unfolding turns
turns_eight = refl

-- With room for 67 bytes the first turn hands out 32 bytes and leaves room for 35, in which the second event does not fit: 8 stops the row there. Room for 68 is enough for both.
pub second_stays : (event_turn (lent (holding (first ∷ second ∷ [])) 67) with_marks ≡ goes first (lent (holding (second ∷ [])) 35)) × (event_turn (lent (holding (second ∷ [])) 35) with_marks ≡ stops (Batch.refused 8))
    × (event_turn (lent (holding (second ∷ [])) 36) with_marks ≡ goes second (lent (holding []) 0))
unfolding event_turn handing room_for model_turn Model.poll_for_event refuse choose bytes_of turned low_bytes
second_stays = (refl, refl, refl)

-- The last turn, whatever room is left: 8 where an event is left, otherwise the end.
pub last_turn : (event_turn (lent (holding (second ∷ [])) 100) without_marks ≡ stops (Batch.refused 8)) × (event_turn (lent (holding []) 100) without_marks ≡ stops Batch.ended)
unfolding event_turn handing room_for model_turn Model.poll_for_event refuse choose
last_turn = (refl, refl)
