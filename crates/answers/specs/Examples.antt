-- What the exports show, computed: rows that the nearest other readings fail, with all numbers distinct. Assumes nothing.
use Rattle.std.specs.Prelude.{◌≡◌, refl, true, false, [], ◌∷◌, ℕ, replicate, Ok, Err}
use Rattle.octets.specs.Logic.{choose, either}
use Rattle.refusal.specs.declared.Refusal.TheVariants.{OutShort, BadRoom}
use Rattle.refusal.specs.Answer.{gives, refuses, refuse, pass}
use Rattle.packet.specs.Packet as Packet
use Rattle.packet.specs.declared.Class.TheVariants as Class
use Rattle.packet_reader.specs.Reader as Reader
use Rattle.connect.specs.Handshake as Handshake
use Rattle.connect.specs.Setup as Setup
use Rattle.connect.specs.declared.reply.Setup.{Setup}
use Rattle.requests.specs.declared.Mode.TheVariants as Mode
use Rattle.model.specs.Says.{none, packet, again, no_reply, reply}
use Rattle.model.specs.Batch.{ended, refused, meaningless}
use Rattle.model.specs.Feed as Feed
use Rattle.model.specs.declared.Connection.{Connection}
use Rattle.model.specs.declared.Place.TheVariants as Place
use Rattle.model.specs.declared.DiscardMode.TheVariants as DiscardMode
use Rattle.answers.specs.Exported.{returned, returned_of, shown_of}
use Rattle.answers.specs.Shown.{roomed, error_fields, version_fields, range_fields, list_fields, packet_framed, packet_reader, completed, progressed, setup_roomed, status_of, setup_fields, success_row, vendor_text, reason_text, state_row, sent_in, first, filing, polled_of, poll_of, event_of, sendings, handings, fed, flag, is_mode, mode_of, mode_in, mode_number, kind_number}
use Rattle.rows.specs.State.{connection_row, sent_row}

-- 0 or the number of the refusal, and after a refusal what was there; 9 for a row of another length
pub returns : (returned {A = ℕ} (gives 7) ≡ 0) × (returned {A = ℕ} (refuses 8) ≡ 8) × (shown_of (λ (n : ℕ). n ∷ []) (gives 7) (1 ∷ 2 ∷ []) ≡ 7 ∷ []) × (shown_of (λ (n : ℕ). n ∷ []) (refuses 8) (1 ∷ 2 ∷ []) ≡ 1 ∷ 2 ∷ [])
    × (roomed {A = ℕ} 3 (1 ∷ 2 ∷ 3 ∷ []) (gives 7) ≡ gives 7) × (roomed {A = ℕ} 3 (1 ∷ 2 ∷ []) (gives 7) ≡ refuses 9)
unfolding roomed refuse
returns = (refl, refl, refl, refl, refl, refl)

-- the leaves
pub leaves : (error_fields (record { code = 3; sequence = record { 0 = 4 }; value = 5; minor = 6; major = 7 }) ≡ 3 ∷ 4 ∷ 5 ∷ 6 ∷ 7 ∷ []) × (version_fields (record { sequence = record { 0 = 4 }; length = 5; major = 6; minor = 7 }) ≡ 4 ∷ 5 ∷ 6 ∷ 7 ∷ [])
    × (range_fields (record { sequence = record { 0 = 4 }; length = 5; start = 6; count = 7 }) ≡ 4 ∷ 5 ∷ 6 ∷ 7 ∷ []) × (list_fields (record { sequence = record { 0 = 4 }; length = 5; count = 6 }) ≡ 4 ∷ 5 ∷ 6 ∷ [])
leaves = (refl, refl, refl, refl)

-- reader and handshake: what goes on, and what is whole
pub progress : (packet_framed (Reader.waits (record { order = 66; filled = 7; target = 32 })) ≡ 0 ∷ 0 ∷ []) × (packet_framed (Reader.whole 36 (Packet.generic true) (record { order = 66; filled = 0; target = 32 })) ≡ 36 ∷ 5 ∷ [])
    × (packet_reader (Reader.waits (record { order = 66; filled = 7; target = 32 })) ≡ record { order = 66; filled = 7; target = 32 }) × (packet_reader (Reader.whole 36 (Packet.generic true) (record { order = 66; filled = 0; target = 32 })) ≡ record { order = 66; filled = 0; target = 32 })
    × (completed (Handshake.waits (record { order = 66; filled = 7; target = 8 })) ≡ 0 ∷ []) × (completed (Handshake.complete (record { order = 66; filled = 12; target = 12 })) ≡ 1 ∷ [])
    × (progressed (Handshake.waits (record { order = 66; filled = 7; target = 8 })) ≡ record { order = 66; filled = 7; target = 8 }) × (progressed (Handshake.complete (record { order = 66; filled = 12; target = 12 })) ≡ record { order = 66; filled = 12; target = 12 })
progress = (refl, refl, refl, refl, refl, refl, refl, refl)

abbrev setup : Setup
setup = record { major = 11; minor = 12; length = 13; release = 14; base = 15; mask = 16; motion = 17; vendor = 18; request = 19; roots = 20; formats = 21; image = 22; bitmap = 23; unit = 24; pad = 25; first = 26; last = 27 }

-- the seventeen fields in their places, of another status some of them; 8 where a place is missing, behind a refusal
pub setups : (status_of (Setup.failed (record { reason = 4; major = 5; minor = 6; length = 7 })) ≡ 0 ∷ []) × (status_of (Setup.success setup) ≡ 1 ∷ []) × (status_of (Setup.authenticate (record { length = 7 })) ≡ 2 ∷ [])
    × (setup_fields (replicate 18 9) (Setup.success setup) ≡ 11 ∷ 12 ∷ 13 ∷ 14 ∷ 15 ∷ 16 ∷ 17 ∷ 18 ∷ 19 ∷ 20 ∷ 21 ∷ 22 ∷ 23 ∷ 24 ∷ 25 ∷ 26 ∷ 27 ∷ 9 ∷ [])
    × (setup_fields (replicate 6 9) (Setup.failed (record { reason = 4; major = 5; minor = 6; length = 7 })) ≡ 5 ∷ 6 ∷ 7 ∷ 4 ∷ 9 ∷ 9 ∷ []) × (setup_fields (replicate 4 9) (Setup.authenticate (record { length = 7 })) ≡ 9 ∷ 9 ∷ 7 ∷ 9 ∷ [])
    × (setup_roomed 17 (gives (Setup.success setup)) ≡ gives (Setup.success setup)) × (setup_roomed 16 (gives (Setup.success setup)) ≡ refuses 8) × (setup_roomed 16 (refuses 15) ≡ refuses 15)
    × (vendor_text (Setup.success setup) ≡ 40 ∷ 18 ∷ []) × (reason_text (Setup.failed (record { reason = 4; major = 5; minor = 6; length = 7 })) ≡ 8 ∷ 4 ∷ []) × (reason_text (Setup.authenticate (record { length = 7 })) ≡ 8 ∷ 28 ∷ [])
unfolding success_row setup_roomed pass refuse
setups = (refl, refl, refl, refl, refl, refl, refl, refl, refl, refl, refl, refl)

-- the connection: where a packet was filed, what was found and how much of it, how far a row of steps came and what stopped it
module _ (c : Connection) where
  pub connections : (first (7, c) ≡ 7 ∷ []) × (filing (record { place = Place.Replies; number = 5; class = Packet.error }, c) ≡ 0 ∷ 5 ∷ 0 ∷ []) × (filing (record { place = Place.Events; number = 6; class = Packet.event true }, c) ≡ 1 ∷ 6 ∷ 3 ∷ []) × (filing (record { place = Place.Dropped; number = 7; class = Packet.reply }, c) ≡ 2 ∷ 7 ∷ 1 ∷ [])
      × (polled_of none ≡ 0 ∷ 0 ∷ 0 ∷ 0 ∷ []) × (polled_of (packet (record { number = record { 0 = 5 }; length = 32; descriptors = 3; class = Class.Reply })) ≡ 1 ∷ 32 ∷ 3 ∷ 1 ∷ []) × (poll_of again ≡ 0 ∷ 0 ∷ 0 ∷ []) × (poll_of no_reply ≡ 1 ∷ 0 ∷ 0 ∷ [])
      × (poll_of (reply (record { number = record { 0 = 5 }; length = 32; descriptors = 3; class = Class.Generic })) ≡ 2 ∷ 32 ∷ 4 ∷ []) × (event_of none ≡ 0 ∷ 0 ∷ 0 ∷ 0 ∷ []) × (event_of (packet (record { number = record { 0 = 5 }; length = 32; descriptors = 3; class = Class.Event })) ≡ 1 ∷ 5 ∷ 32 ∷ 2 ∷ [])
      × (sendings (record { count = 3; last = 9; stopped = ended }, c) ≡ 3 ∷ 9 ∷ 0 ∷ []) × (sendings (record { count = 3; last = 9; stopped = meaningless }, c) ≡ 3 ∷ 9 ∷ 255 ∷ []) × (handings (record { count = 2; bytes = 68; stopped = refused 8 }, c) ≡ 2 ∷ 68 ∷ 8 ∷ [])
      × (fed (record { bytes = 68; packets = 2; stopped = Feed.partial }, c) ≡ 68 ∷ 2 ∷ 254 ∷ []) × (fed (record { bytes = 68; packets = 2; stopped = Feed.refused 5 }, c) ≡ 68 ∷ 2 ∷ 5 ∷ []) × (fed (record { bytes = 68; packets = 2; stopped = Feed.ended }, c) ≡ 68 ∷ 2 ∷ 0 ∷ [])
      × (state_row {A = ℕ} (1 ∷ 2 ∷ []) (7, c) ≡ connection_row (1 ∷ 2 ∷ []) c) × (sent_in {A = ℕ} (1 ∷ 2 ∷ []) (7, c) ≡ sent_row (1 ∷ 2 ∷ []) c)
  connections = (refl, refl, refl, refl, refl, refl, refl, refl, refl, refl, refl, refl, refl, refl, refl, refl, refl, refl, refl)

-- numbers that mean something: 1 and 2 a mode, 0 to 2 what is kept of a request, 0 a reply and 1 an event
pub meanings : (flag true ≡ 1 ∷ []) × (flag false ≡ 0 ∷ []) × (is_mode 0 ≡ false) × (is_mode 1 ≡ true) × (is_mode 2 ≡ true) × (is_mode 3 ≡ false) × (mode_of 1 ≡ DiscardMode.DiscardReply) × (mode_of 2 ≡ DiscardMode.DiscardReplyAndError)
    × (mode_number Mode.Keep ≡ 0) × (mode_number Mode.DiscardReply ≡ 1) × (mode_number Mode.DiscardReplyAndError ≡ 2) × (kind_number 0 ≡ 0) × (kind_number 1 ≡ 1)
unfolding is_mode mode_of kind_number choose either
meanings = (refl, refl, refl, refl, refl, refl, refl, refl, refl, refl, refl, refl, refl)

-- what C sees of a result: 0, or the number of the refusal
pub passed : (returned_of (Ok tt) ≡ 0) × (returned_of (Err OutShort) ≡ 8)
passed = (refl, refl)

-- the mode that a number means, and 9 for a number that means none
pub modes : (mode_in 1 ≡ Ok DiscardMode.DiscardReply) × (mode_in 2 ≡ Ok DiscardMode.DiscardReplyAndError) × (mode_in 0 ≡ Err BadRoom) × (mode_in 3 ≡ Err BadRoom)
unfolding mode_in is_mode mode_of choose either
modes = (refl, refl, refl, refl)
