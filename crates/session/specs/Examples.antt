-- The log at work, computed: each packet of a run of bytes is noted with the true number that is its own, whatever number the engine gives it. Assumes nothing.
use Rattle.std.specs.Prelude.{◌≡◌, refl, true, false, List, [], ◌∷◌, ◌++◌, ℕ, replicate}
use Rattle.std.proofs.Common.{ap, arith}
use Rattle.refusal.specs.Answer.{gives, refuses, refuse, pass, gives_same}
use Rattle.octets.specs.Logic.{choose, both, either, apart}
use Rattle.octets.specs.Bytes.{bytes_of, number_in, low_bytes, low_number, turned}
use Rattle.octets.specs.Put.{cut}
use Rattle.octets.specs.Field.{field}
use Rattle.sequence.specs.Numbering.{full, in_range}
use Rattle.packet.specs.Packet as Packet
use Rattle.packet.specs.Packet.{was_sent, class_of, unnumbered, number_after, packet_class}
use Rattle.packet_reader.specs.Frame.{length_as, total_of, aim, cuts, cut_packets}
use Rattle.model.specs.Client.{Held, Client, held_packet, costs, set_numbers, set_events}
use Rattle.model.specs.Model as Model
use Rattle.model.specs.Batch.{many, on_turn, refused, notes}
use Rattle.model.specs.Feed.{model_took}
use Rattle.model.specs.declared.Place.TheVariants.{Events}
use Rattle.batch.specs.Feed.{stop_at, enqueue_packets}
use Rattle.honest.specs.Run.{Entry, sent, took, note_took}
use Rattle.honest.specs.Server.{Packet}
use Rattle.session.specs.Ask.{poll_for_reply_or_error_ask, poll_check_for_reply_or_error, poll_for_reply_ask, poll_for_event_with_sequence, poll_for_events_ask}
use Rattle.session.specs.Serving.{FiledAll, NextFair, handed_out}
use Rattle.session.specs.Noting.{next, rest, note_packet, took_of, note_fed}
use Rattle.session.specs.Session.{sent_all, note_sends}

-- an event of 32 bytes: its code and its wire number
abbrev event : ℕ → ℕ → List ℕ
event code wire = code ∷ 0 ∷ (bytes_of 108 2 wire ++ replicate 28 0)

-- an event that was taken, with its true number and the engine's
abbrev taken : ℕ → List ℕ → ℕ → Entry
taken t p n = took t p (record { place = Events; number = n; class = packet_class p })

-- so many requests were sent
abbrev asked : ℕ → Client
asked n = set_numbers (Model.fresh 108 4 500) (record { written = n; expected = 0; read = 0 })

-- true numbers 70, 80, 85 and 90 of a run of four events, of which those of codes 11 and 139 carry no number; the engine reads 1 and 2 from the wire
pub fed : note_fed (70 ∷ 80 ∷ 85 ∷ 90 ∷ []) (asked 2) (event 2 1 ++ (event 11 0 ++ (event 139 5 ++ event 3 2))) (gives (tt {0})) [] ≡ taken 90 (event 3 2) 2 ∷ taken 70 (event 2 1) 1 ∷ []
unfolding note_fed notes note_packet took_of note_took enqueue_packets cut_packets cuts aim total_of length_as class_of was_sent field number_in cut low_number turned bytes_of low_bytes choose both either many on_turn model_took stop_at Model.enqueue_packet number_after unnumbered in_range full Model.numbered Model.asked_of Model.head_of Model.place_of Model.claimed Model.take_in Model.decide Model.ahead Model.decide_by costs refuse pass
fed = refl

-- a packet alone, taken and refused
pub alone : (note_took 70 (event 2 1) (gives (record { place = Events; number = 1; class = packet_class (event 2 1) }, tt {0})) [] ≡ taken 70 (event 2 1) 1 ∷ []) × (note_took {A = Unit {0}} 70 (event 2 1) (refuses 5) [] ≡ [])
unfolding note_took unnumbered choose either bytes_of low_bytes turned
alone = (refl, refl)

-- of the bytes of `send_requests` those that were sent, the latest first: 1 and 2 with a reply, 0 without; nothing of a refusal; the next true number, and none left
pub sends : (note_sends {A = Unit {0}} (1 ∷ 0 ∷ 2 ∷ 1 ∷ []) (gives (record { count = 3; last = 9; stopped = refused 5 }, tt)) [] ≡ sent true ∷ sent false ∷ sent true ∷ []) × (note_sends {A = Unit {0}} (1 ∷ []) (refuses 9) (sent false ∷ []) ≡ sent false ∷ [])
    × (next (7 ∷ 8 ∷ []) ≡ 7) × (rest (7 ∷ 8 ∷ []) ≡ 8 ∷ []) × (rest [] ≡ [])
unfolding note_sends sent_all
sends = (refl, refl, refl, refl, refl)

-- ---- what is to be shown

-- a packet of true number t that the engine gives number 7, and the client after it
abbrev bringing : ℕ → Packet
bringing t = record { true_number = t; bytes = event 2 7 }

abbrev after_seven : Client
after_seven = set_events (set_numbers (Model.fresh 108 4 500) (record { written = 7; expected = 7; read = 7 })) (held_packet 7 (event 2 7) [] ∷ [])

-- it is filed under its true number where that is 7, and not where it is 8
pub filings : FiledAll (asked 7) (bringing 7 ∷ []) after_seven × (FiledAll (asked 7) (bringing 8 ∷ []) after_seven → ⊥)
unfolding Model.enqueue_packet number_after unnumbered class_of was_sent in_range full field number_in cut low_number turned bytes_of low_bytes choose both either Model.numbered Model.asked_of Model.head_of Model.place_of Model.claimed Model.take_in Model.decide Model.ahead Model.decide_by costs refuse pass
filings = (
  ((record { place = Events; number = 7; class = Packet.event false }, after_seven), refl, λ e. record { number = refl; last_read = refl; record_is = (refl, refl) }, refl),
  λ k. let z : k.0.0.number ≡ 7 = ap (λ y. y.0.number) (gives_same k.1) in omega (arith, z, (k.2 refl).number),
)

-- the next packet is asked for a number that was sent, a KeymapNotify for none
pub next_fair : NextFair 108 [] (record { true_number = 8; bytes = event 11 7 } ∷ []) × (NextFair 108 (sent false ∷ []) (bringing 8 ∷ []) → ⊥)
unfolding unnumbered either
next_fair = (λ e. apart refl e, λ f. omega (arith, (f refl).known))

-- the records that each call hands out
pub handings : (h g : Held) → (handed_out (poll_for_reply_or_error_ask 5 [] []) (Model.packet h) ≡ h ∷ []) × (handed_out (poll_check_for_reply_or_error 5 []) (Model.reply h) ≡ h ∷ []) × (handed_out (poll_for_reply_ask 5 []) (Model.reply h) ≡ h ∷ [])
    × (handed_out (poll_for_event_with_sequence []) (Model.packet h) ≡ h ∷ []) × (handed_out (poll_for_events_ask [] []) (record { events = h ∷ g ∷ []; stopped = refused 8 }) ≡ h ∷ g ∷ [])
handings h g = (refl, refl, refl, refl, refl)
