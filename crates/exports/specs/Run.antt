-- A RUN OF THE EXPORTS of the connection, in the terms of whoever calls them: a row of numbers, three rooms, and the numbers that come back. Definitions only. Assumes nothing.
use Rattle.std.specs.Prelude.{List, [], ◌∷◌, ◌≡◌, ℕ, zero, suc, ◌<◌, eqb, take, get_or}
use Rattle.octets.specs.Logic.{choose}
use Rattle.refusal.specs.Answer.{gives}
use Rattle.model.specs.Client.{Client}
use Rattle.packet.specs.Class.{class_at}
use Rattle.model.specs.Model.{has_reply, Filing}
use Rattle.model.specs.Reading.{rooms, reads}
use Rattle.model.specs.SendRequests.{kind_of}
use Rattle.model.specs.declared.Place.{Place}
use Rattle.honest.specs.Run.{Entry, sent, note_took}
use Rattle.session.specs.Noting.{note_fed}
use Rattle.session.specs.Session.{sent_all}
use Rattle.rows.specs.State.{connection_of}
use Rattle.answers.specs.Shown.{most_kind}
use Rattle.xiengmado.specs.ExportsSavepoint.{XmSave, XmRestore}
use Rattle.xiengmado.specs.Exports.{XmConnectionNew, XmSendRequest, XmDiscardReply, XmEnqueueFds, XmEnqueuePacket, XmPollForReplyOrError, XmPollCheckForReplyOrError, XmPollForReply, XmPollForEventWithSequence, XmTakeClosedFds, XmPrepareCheckForReplyOrError, XmSendRequests, XmEnqueuePackets, XmPollForEvents}

-- a lent slice is of bytes
abbrev pub Bytes : List ℕ → Type 0
Bytes s = (i : ℕ) → get_or s i 0 < 256

-- what row and rooms are read as, in the model's terms
abbrev pub client_of : (state requests store slots : List ℕ) → Client
client_of state requests store slots = reads (connection_of state) (rooms requests store slots)

-- the place that a number behind the pointer means
abbrev pub place_at : ℕ → Place
place_at zero = Place.Replies
place_at (suc zero) = Place.Events
place_at (suc (suc n)) = Place.Dropped

-- what the three numbers behind the pointers of `xm_enqueue_packet` mean
abbrev pub filing_at : ℕ → ℕ → ℕ → Filing
filing_at place number class = record { place = place_at place; number = number; class = class_at class }

-- AN EXPORT, called on this row and these rooms with any arguments, as its promise has it: row and rooms at exit, what is added to the log where it returned 0, and the number returned. A name with a stroke is what is there at exit.
-- True numbers, t or ts, are the server's: no export sees them.
pub data Export (state requests store slots : List ℕ) : (state' requests' store' slots' : List ℕ) → (List Entry → List Entry) → ℕ → Type 0 where
  xm_send_request : (kind : ℕ) {number : ℕ} {state' requests' : List ℕ} {number' r : ℕ} → XmSendRequest state requests store slots kind number state' requests' number' r
      → Export state requests store slots state' requests' store slots (λ l. sent (has_reply (kind_of kind)) ∷ l) r
  xm_discard_reply : (number mode : ℕ) {state' requests' store' slots' : List ℕ} {r : ℕ} → XmDiscardReply state requests store slots number mode state' requests' store' slots' r
      → Export state requests store slots state' requests' store' slots' (λ l. l) r
  xm_enqueue_fds : (list : List ℕ) {state' slots' : List ℕ} {r : ℕ} → XmEnqueueFds state requests store slots list state' slots' r
      → Export state requests store slots state' requests store slots' (λ l. l) r
  xm_enqueue_packet : (t : ℕ) (packet : List ℕ) → Bytes packet → {place number class : ℕ} {state' store' slots' : List ℕ} {place' number' class' r : ℕ} → XmEnqueuePacket state requests store slots packet place number class state' store' slots' place' number' class' r
      → Export state requests store slots state' requests store' slots' (λ l. note_took t packet (gives (filing_at place' number' class', tt {0})) l) r
  xm_poll_for_reply_or_error : (number : ℕ) (out fds : List ℕ) {found size count class : ℕ} {state' store' slots' out' fds' : List ℕ} {found' size' count' class' r : ℕ}
      → XmPollForReplyOrError state requests store slots number out fds found size count class state' store' slots' out' fds' found' size' count' class' r
      → Export state requests store slots state' requests store' slots' (λ l. l) r
  xm_poll_check_for_reply_or_error : (number : ℕ) (out : List ℕ) {result size class : ℕ} {state' store' slots' out' : List ℕ} {result' size' class' r : ℕ}
      → XmPollCheckForReplyOrError state requests store slots number out result size class state' store' slots' out' result' size' class' r
      → Export state requests store slots state' requests store' slots' (λ l. l) r
  xm_poll_for_reply : (number : ℕ) (out : List ℕ) {result size class : ℕ} {state' store' slots' out' : List ℕ} {result' size' class' r : ℕ} → XmPollForReply state requests store slots number out result size class state' store' slots' out' result' size' class' r
      → Export state requests store slots state' requests store' slots' (λ l. l) r
  xm_poll_for_event_with_sequence : (out : List ℕ) {found number size class : ℕ} {state' store' out' : List ℕ} {found' number' size' class' r : ℕ} → XmPollForEventWithSequence state requests store slots out found number size class state' store' out' found' number' size' class' r
      → Export state requests store slots state' requests store' slots (λ l. l) r
  xm_take_closed_fds : (out : List ℕ) {count : ℕ} {state' slots' out' : List ℕ} {count' r : ℕ} → XmTakeClosedFds state requests store slots out count state' slots' out' count' r
      → Export state requests store slots state' requests store slots' (λ l. l) r
  xm_prepare_check_for_reply_or_error : (number : ℕ) {sync sync' r : ℕ} → XmPrepareCheckForReplyOrError state requests store slots number sync sync' r
      → Export state requests store slots state requests store slots (λ l. l) r
  xm_send_requests : (kinds : List ℕ) {count number stop : ℕ} {state' requests' : List ℕ} {count' number' stop' r : ℕ} → XmSendRequests state requests store slots kinds count number stop state' requests' count' number' stop' r
      → Export state requests store slots state' requests' store slots (λ l. sent_all (take count' kinds) l) r
  xm_enqueue_packets : (ts bytes : List ℕ) → Bytes bytes → {size count stop : ℕ} {state' store' slots' : List ℕ} {size' count' stop' r : ℕ} → XmEnqueuePackets state requests store slots bytes size count stop state' store' slots' size' count' stop' r
      → Export state requests store slots state' requests store' slots' (λ l. note_fed ts (client_of state requests store slots) bytes (gives (tt {0})) l) r
  xm_poll_for_events : (out marks : List ℕ) {count size stop : ℕ} {state' store' out' marks' : List ℕ} {count' size' stop' r : ℕ} → XmPollForEvents state requests store slots out marks count size stop state' store' out' marks' count' size' stop' r
      → Export state requests store slots state' requests store' slots (λ l. l) r

-- an export that returned 0 adds to the log, any other nothing
unfoldable pub noted : ℕ → (List Entry → List Entry) → List Entry → List Entry
noted r adds l = choose (eqb r 0) (adds l) l

-- A RUN: `xm_connection_new` that returned 0, then any exports, whatever they returned, each on the row and the rooms as the one before left them; and its log, which has what was accepted. Saved by `xm_save` that returned 0,
-- with any reader, buffer and allocator beside it, and restored by `xm_restore` that returned 0 into other rows, rooms and buffer, it goes on in those.
pub data Run : (state requests store slots : List ℕ) → List Entry → Type 0 where
  xm_connection_new : {state : List ℕ} (order : ℕ) {requests store slots state' : List ℕ} → XmConnectionNew state order requests store slots state' 0
      → Run state' requests store slots []
  call : {state requests store slots state' requests' store' slots' : List ℕ} {l : List Entry} {adds : List Entry → List Entry} {r : ℕ} → Run state requests store slots l → Export state requests store slots state' requests' store' slots' adds r
      → Run state' requests' store' slots' (noted r adds l)
  restored : {state requests store slots : List ℕ} {l : List Entry} (reader buf ids out : List ℕ) {size : ℕ} {out' : List ℕ} {size' : ℕ} → Run state requests store slots l → XmSave state requests store slots reader buf ids out size out' size' 0
      → {state₁ requests₁ store₁ slots₁ reader₁ buf₁ ids₁ state' requests' store' reader' buf' ids' : List ℕ} → XmRestore (take size' out') state₁ requests₁ store₁ slots₁ reader₁ buf₁ ids₁ state' requests' store' reader' buf' ids' 0
      → Run state' requests' store' slots₁ l

-- an argument that means nothing: a kind above 2, or a mode that is neither 1 nor 2
abbrev pub Meaningless : {state requests store slots state' requests' store' slots' : List ℕ} {adds : List Entry → List Entry} {r : ℕ} → Export state requests store slots state' requests' store' slots' adds r → Type 0
Meaningless (xm_send_request kind k) = most_kind < kind
Meaningless (xm_discard_reply number mode k) = (mode ≡ 1 → ⊥) × (mode ≡ 2 → ⊥)
Meaningless (xm_enqueue_fds list k) = ⊥
Meaningless (xm_enqueue_packet t packet b k) = ⊥
Meaningless (xm_poll_for_reply_or_error number out fds k) = ⊥
Meaningless (xm_poll_check_for_reply_or_error number out k) = ⊥
Meaningless (xm_poll_for_reply number out k) = ⊥
Meaningless (xm_poll_for_event_with_sequence out k) = ⊥
Meaningless (xm_take_closed_fds out k) = ⊥
Meaningless (xm_prepare_check_for_reply_or_error number k) = ⊥
Meaningless (xm_send_requests kinds k) = ⊥
Meaningless (xm_enqueue_packets ts bytes b k) = ⊥
Meaningless (xm_poll_for_events out marks k) = ⊥
