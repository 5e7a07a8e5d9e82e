-- Runs by computation. Assumes nothing.
use Rattle.std.specs.Prelude.{List, [], ◌∷◌, ◌++◌, false, ◌≡◌, refl, ℕ, ◌<◌, replicate}
use Rattle.std.proofs.Common.{ap, ◌∙◌, arith}
use Rattle.octets.specs.Logic.{choose, both, either}
use Rattle.octets.specs.Bytes.{bytes_of, number_in, low_bytes, low_number, turned, length_bytes_of, number_bytes}
use Rattle.octets.specs.Put.{cut, cut_first, cut_skip}
use Rattle.octets.specs.Field.{field}
use Rattle.refusal.specs.Answer.{gives, refuse, pass}
use Rattle.sequence.specs.Numbering.{wire_values, full, in_range}
use Rattle.sequence.specs.Sending.{sending, must_sync}
use Rattle.packet.specs.Packet.{code_of, unnumbered, wire_of, number_after, was_sent, class_of}
use Rattle.requests.specs.Room.{under_mode}
use Rattle.model.specs.Client.{Client, costs, descriptors_of}
use Rattle.model.specs.Model as Model
use Rattle.model.specs.Model.{has_reply, send_request, Filing, enqueue_packet, Taken, poll_for_reply_or_error}
use Rattle.model.specs.Calls.{send, enqueue, poll, step, run}
use Rattle.model.specs.declared.ReplyFdKind.{ReplyFdKind}
use Rattle.honest.specs.Run.{Entry, sent, took, note_sent, note_took, noted, Runs, call}

-- opens what a call computes with
unfoldable pub computing : ℕ
unfolding step run noted note_sent note_took Model.send_request Model.enqueue_fds Model.enqueue_packet Model.discard_reply Model.take_closed Model.poll_for_reply_or_error Model.poll_check Model.poll_for_reply Model.prepare_check Model.poll_for_event Model.find pass refuse sending must_sync both either choose number_after unnumbered class_of was_sent in_range full field number_in cut turned bytes_of low_bytes low_number Model.numbered Model.asked_of Model.head_of Model.place_of Model.claimed Model.take_in Model.decide Model.ahead Model.decide_by costs descriptors_of Model.with_mode under_mode Model.of_number Model.not_of Model.above Model.errors_of Model.closing_order
computing = 0

-- a packet of 32 bytes: its code, its byte 1, its wire number in the order o, or in little order
abbrev pub packet_in : ℕ → ℕ → ℕ → ℕ → List ℕ
packet_in o code second wire = code ∷ second ∷ (bytes_of o 2 wire ++ replicate 28 0)

abbrev pub packet_of : ℕ → ℕ → ℕ → List ℕ
packet_of = packet_in 108

pub packet_wire : (o code second wire : ℕ) → wire < wire_values → wire_of o (packet_in o code second wire) ≡ wire
unfolding field
packet_wire o code second wire h =
    ap (number_in o) (cut_skip (code ∷ second ∷ []) (bytes_of o 2 wire ++ replicate 28 0) 2 0 2 refl ∙ cut_first (bytes_of o 2 wire) (replicate 28 0) 2 (length_bytes_of o 2 wire))
    ∙ number_bytes o 2 wire (omega arith)

-- ---- A run goes on to what a call is known to give.

pub send_to : {c : Client} {l : List Entry} (kind : ReplyFdKind) (n : ℕ) (c' : Client) → send_request c kind ≡ gives (n, c') → Runs c l → Runs c' (sent (has_reply kind) ∷ l)
unfolding step noted note_sent
send_to {c} {l} kind n c' e r = rw e at (call (send kind) 0 r)

pub packet_to : {c : Client} {l : List Entry} (t : ℕ) (p : List ℕ) (f : Filing) (c' : Client) → unnumbered (code_of p) ≡ false → enqueue_packet c p ≡ gives (f, c') → Runs c l → Runs c' (took t p f ∷ l)
unfolding step noted note_took choose
packet_to {c} {l} t p f c' h e r = rw (e, h) at (call (enqueue p) t r)

pub poll_to : {c : Client} {l : List Entry} (n bytes places : ℕ) (x : Taken) (c' : Client) → poll_for_reply_or_error c n bytes places ≡ gives (x, c') → Runs c l → Runs c' l
unfolding step noted
poll_to {c} {l} n bytes places x c' e r = rw e at (call (poll n bytes places) 0 r)
