-- THE PROMISES of the exports of the connection: a name is what was lent or handed in, with a stroke what is there at exit, and r the number returned. Beside each, that any two outcomes that it
-- allows are equal: the number returned, the numbers shown, the row, the rooms and every output. Each says first what the call below promises of its answer; then which numbers are shown of what that
-- gives, that the state is put into the row, and, before and after, the numbers behind the pointers and the row; and last the number returned. `Worked.antt` has one with numbers. Assumes nothing.
use Rattle.std.specs.Prelude.{◌≡◌, List, [], ◌∷◌, ℕ, eqb, leb, length}
use Rattle.std.proofs.Common.{sym, ap, ◌∙◌}
use Rattle.refusal.specs.Answer.{Answer}
use Rattle.model.specs.Client.{Client}
use Rattle.model.specs.Reading.{Rooms, rooms}
use Rattle.model.specs.Promise.{Done}
use Rattle.model.specs.Says.{Shown}
use Rattle.model.specs.PollForEvents.{ShownHandings}
use Rattle.model.specs.declared.Connection.{Connection}
use Rattle.connection.specs.Calls.{Opens, Sends, EnqueuesFds, Enqueues, Discards, Hands, Polls, Checks, PollsReply, PollsEvent, Closes, Prepares, SendsMany, EnqueuesMany, PollsEvents}
use Rattle.connection.specs.Theorems.{one_outcome, hands_outcome}
use Rattle.rows.specs.State.{connection_slots, connection_of}
use Rattle.answers.specs.Exported.{Exported, Kept, KeptWhen, shown_at, exported_one, kept_one, kept_left, when_one, when_left}
use Rattle.model.specs.SendRequests.{kind_of}
use Rattle.answers.specs.Shown.{nothing, state_row, first, filing, polled, poll, event, flag, mode_of, most_kind, is_mode, sendings, fed, handings}
use Rattle.xiengmado.specs.Looking.{request_kept, request_fields, Looks, looks_one, record_fields}

-- calls that hand something out: the answer, the rooms, and the outputs
hands_left : {A B : Type 0} {f : A → B} {g : A → List ℕ} {e : Answer (Done A)} {m : Client → Answer (A × Client)} {c : Connection} {r s t : Rooms} {out k l : List ℕ} (a b : Answer (B × Connection))
    → Hands f g e m c r out a s k → Hands f g e m c r out b t l → (a ≡ b) × ((s ≡ t) × (k ≡ l))
hands_left a b x y = let w = hands_outcome _ _ _ _ _ _ _ a b _ _ _ _ x y in (w.0, (w.1, w.2))

polls_left : {c : Connection} {r s t : Rooms} {n : ℕ} {out fds k l u v : List ℕ} (a b : Answer (Shown × Connection)) → Polls c r n out fds a s k u → Polls c r n out fds b t l v
    → (a ≡ b) × ((s ≡ t) × (k ≡ l) × (u ≡ v))
polls_left a b x y = let w = hands_outcome _ _ _ _ _ _ _ a b _ _ _ _ x.packet y.packet in (w.0, (w.1, w.2, x.descriptors ∙ sym y.descriptors))

events_left : {c : Connection} {r s t : Rooms} {out marks k l u v : List ℕ} (a b : Answer (ShownHandings × Connection)) → PollsEvents c r out marks a s k u → PollsEvents c r out marks b t l v
    → (a ≡ b) × ((s ≡ t) × (k ≡ l) × (u ≡ v))
events_left a b x y = let w = hands_outcome _ _ _ _ _ _ _ a b _ _ _ _ x.packets y.packets in (w.0, (w.1, w.2, x.marked ∙ sym y.marked))

-- `xm_connection_new`
module _ (state : List ℕ) (order : ℕ) (requests store slots : List ℕ) where
  abbrev pub XmConnectionNew : (state' : List ℕ) (r : ℕ) → Type 0
  XmConnectionNew state' r =
      KeptWhen (eqb (length state) connection_slots) Unit (Opens order (rooms requests store slots)) nothing (state_row state) [] [] state state' r

  pub xm_connection_new_one : {state₁ : List ℕ} {r₁ : ℕ} {state₂ : List ℕ} {r₂ : ℕ} → XmConnectionNew state₁ r₁ → XmConnectionNew state₂ r₂
      → (state₁ ≡ state₂) × (r₁ ≡ r₂)
  xm_connection_new_one p q =
      let z = kept_one p q (when_one (λ a b x y. x.exact.answers ∙ sym y.exact.answers)) in
      (z.2, z.0)

-- `xm_send_request`
module _ (state requests store slots : List ℕ) (kind number : ℕ) where
  abbrev pub XmSendRequest : (state' requests' : List ℕ) (number' r : ℕ) → Type 0
  XmSendRequest state' requests' number' r =
      KeptWhen (leb kind most_kind) (requests' ≡ requests)
      (λ a. Sends (connection_of state) (rooms requests store slots) (kind_of kind) a (rooms requests' store slots))
      first (state_row state) (number ∷ []) (number' ∷ []) state state' r

  pub xm_send_request_one : {state₁ requests₁ : List ℕ} {number₁ r₁ : ℕ} {state₂ requests₂ : List ℕ} {number₂ r₂ : ℕ} → XmSendRequest state₁ requests₁ number₁ r₁ → XmSendRequest state₂ requests₂ number₂ r₂
      → (state₁ ≡ state₂) × (requests₁ ≡ requests₂) × (number₁ ≡ number₂) × (r₁ ≡ r₂)
  xm_send_request_one p q =
      let z = kept_left p q (when_left (λ x y. x ∙ sym y) (λ a b x y. let w = one_outcome _ _ _ _ _ a b _ _ x y in (w.0, ap (λ (k : Rooms). k.requests) w.1))) in
      (z.2, z.3, shown_at 0 z.1, z.0)

-- `xm_discard_reply`
module _ (state requests store slots : List ℕ) (number mode : ℕ) where
  abbrev pub XmDiscardReply : (state' requests' store' slots' : List ℕ) (r : ℕ) → Type 0
  XmDiscardReply state' requests' store' slots' r =
      KeptWhen (is_mode mode) (rooms requests' store' slots' ≡ rooms requests store slots)
      (λ a. Discards (connection_of state) (rooms requests store slots) number (mode_of mode) a (rooms requests' store' slots'))
      nothing (state_row state) [] [] state state' r

  pub xm_discard_reply_one : {state₁ requests₁ store₁ slots₁ : List ℕ} {r₁ : ℕ} {state₂ requests₂ store₂ slots₂ : List ℕ} {r₂ : ℕ} → XmDiscardReply state₁ requests₁ store₁ slots₁ r₁ → XmDiscardReply state₂ requests₂ store₂ slots₂ r₂
      → (state₁ ≡ state₂) × (requests₁ ≡ requests₂) × (store₁ ≡ store₂) × (slots₁ ≡ slots₂) × (r₁ ≡ r₂)
  xm_discard_reply_one p q =
      let z = kept_left p q (when_left (λ x y. x ∙ sym y) (λ a b x y. one_outcome _ _ _ _ _ a b _ _ x y)) in
      (z.2, ap (λ (k : Rooms). k.requests) z.3, ap (λ (k : Rooms). k.store) z.3, ap (λ (k : Rooms). k.slots) z.3, z.0)

-- `xm_enqueue_fds`
module _ (state requests store slots list : List ℕ) where
  abbrev pub XmEnqueueFds : (state' slots' : List ℕ) (r : ℕ) → Type 0
  XmEnqueueFds state' slots' r =
      Kept (λ a. EnqueuesFds (connection_of state) (rooms requests store slots) list a (rooms requests store slots'))
      nothing (state_row state) [] [] state state' r

  pub xm_enqueue_fds_one : {state₁ slots₁ : List ℕ} {r₁ : ℕ} {state₂ slots₂ : List ℕ} {r₂ : ℕ} → XmEnqueueFds state₁ slots₁ r₁ → XmEnqueueFds state₂ slots₂ r₂
      → (state₁ ≡ state₂) × (slots₁ ≡ slots₂) × (r₁ ≡ r₂)
  xm_enqueue_fds_one p q =
      let z = kept_left p q (λ a b x y. one_outcome _ _ _ _ _ a b _ _ x y) in
      (z.2, ap (λ (k : Rooms). k.slots) z.3, z.0)

-- `xm_enqueue_packet`
module _ (state requests store slots packet : List ℕ) (place number class : ℕ) where
  abbrev pub XmEnqueuePacket : (state' store' slots' : List ℕ) (place' number' class' r : ℕ) → Type 0
  XmEnqueuePacket state' store' slots' place' number' class' r =
      Kept (λ a. Enqueues (connection_of state) (rooms requests store slots) packet a (rooms requests store' slots'))
      filing (state_row state) (place ∷ number ∷ class ∷ []) (place' ∷ number' ∷ class' ∷ []) state state' r

  pub xm_enqueue_packet_one : {state₁ store₁ slots₁ : List ℕ} {place₁ number₁ class₁ r₁ : ℕ} {state₂ store₂ slots₂ : List ℕ} {place₂ number₂ class₂ r₂ : ℕ} → XmEnqueuePacket state₁ store₁ slots₁ place₁ number₁ class₁ r₁ → XmEnqueuePacket state₂ store₂ slots₂ place₂ number₂ class₂ r₂
      → (state₁ ≡ state₂) × (store₁ ≡ store₂) × (slots₁ ≡ slots₂) × (place₁ ≡ place₂) × (number₁ ≡ number₂) × (class₁ ≡ class₂) × (r₁ ≡ r₂)
  xm_enqueue_packet_one p q =
      let z = kept_left p q (λ a b x y. one_outcome _ _ _ _ _ a b _ _ x y) in
      (z.2, ap (λ (k : Rooms). k.store) z.3, ap (λ (k : Rooms). k.slots) z.3, shown_at 0 z.1, shown_at 1 z.1, shown_at 2 z.1, z.0)

-- `xm_poll_for_reply_or_error`
module _ (state requests store slots : List ℕ) (number : ℕ) (out fds : List ℕ) (found size count class : ℕ) where
  abbrev pub XmPollForReplyOrError : (state' store' slots' out' fds' : List ℕ) (found' size' count' class' r : ℕ) → Type 0
  XmPollForReplyOrError state' store' slots' out' fds' found' size' count' class' r =
      Kept (λ a. Polls (connection_of state) (rooms requests store slots) number out fds a (rooms requests store' slots') out' fds')
      polled (state_row state) (found ∷ size ∷ count ∷ class ∷ []) (found' ∷ size' ∷ count' ∷ class' ∷ []) state state' r

  pub xm_poll_for_reply_or_error_one : {state₁ store₁ slots₁ out₁ fds₁ : List ℕ} {found₁ size₁ count₁ class₁ r₁ : ℕ} {state₂ store₂ slots₂ out₂ fds₂ : List ℕ} {found₂ size₂ count₂ class₂ r₂ : ℕ} → XmPollForReplyOrError state₁ store₁ slots₁ out₁ fds₁ found₁ size₁ count₁ class₁ r₁ → XmPollForReplyOrError state₂ store₂ slots₂ out₂ fds₂ found₂ size₂ count₂ class₂ r₂
      → (state₁ ≡ state₂) × (store₁ ≡ store₂) × (slots₁ ≡ slots₂) × (out₁ ≡ out₂) × (fds₁ ≡ fds₂) × (found₁ ≡ found₂) × (size₁ ≡ size₂) × (count₁ ≡ count₂) × (class₁ ≡ class₂) × (r₁ ≡ r₂)
  xm_poll_for_reply_or_error_one p q =
      let z = kept_left p q polls_left in
      (z.2, ap (λ (k : Rooms). k.store) z.3.0, ap (λ (k : Rooms). k.slots) z.3.0, z.3.1, z.3.2, shown_at 0 z.1, shown_at 1 z.1, shown_at 2 z.1, shown_at 3 z.1, z.0)

-- `xm_poll_check_for_reply_or_error`
module _ (state requests store slots : List ℕ) (number : ℕ) (out : List ℕ) (result size class : ℕ) where
  abbrev pub XmPollCheckForReplyOrError : (state' store' slots' out' : List ℕ) (result' size' class' r : ℕ) → Type 0
  XmPollCheckForReplyOrError state' store' slots' out' result' size' class' r =
      Kept (λ a. Checks (connection_of state) (rooms requests store slots) number out a (rooms requests store' slots') out')
      poll (state_row state) (result ∷ size ∷ class ∷ []) (result' ∷ size' ∷ class' ∷ []) state state' r

  pub xm_poll_check_for_reply_or_error_one : {state₁ store₁ slots₁ out₁ : List ℕ} {result₁ size₁ class₁ r₁ : ℕ} {state₂ store₂ slots₂ out₂ : List ℕ} {result₂ size₂ class₂ r₂ : ℕ} → XmPollCheckForReplyOrError state₁ store₁ slots₁ out₁ result₁ size₁ class₁ r₁ → XmPollCheckForReplyOrError state₂ store₂ slots₂ out₂ result₂ size₂ class₂ r₂
      → (state₁ ≡ state₂) × (store₁ ≡ store₂) × (slots₁ ≡ slots₂) × (out₁ ≡ out₂) × (result₁ ≡ result₂) × (size₁ ≡ size₂) × (class₁ ≡ class₂) × (r₁ ≡ r₂)
  xm_poll_check_for_reply_or_error_one p q =
      let z = kept_left p q hands_left in
      (z.2, ap (λ (k : Rooms). k.store) z.3.0, ap (λ (k : Rooms). k.slots) z.3.0, z.3.1, shown_at 0 z.1, shown_at 1 z.1, shown_at 2 z.1, z.0)

-- `xm_poll_for_reply`
module _ (state requests store slots : List ℕ) (number : ℕ) (out : List ℕ) (result size class : ℕ) where
  abbrev pub XmPollForReply : (state' store' slots' out' : List ℕ) (result' size' class' r : ℕ) → Type 0
  XmPollForReply state' store' slots' out' result' size' class' r =
      Kept (λ a. PollsReply (connection_of state) (rooms requests store slots) number out a (rooms requests store' slots') out')
      poll (state_row state) (result ∷ size ∷ class ∷ []) (result' ∷ size' ∷ class' ∷ []) state state' r

  pub xm_poll_for_reply_one : {state₁ store₁ slots₁ out₁ : List ℕ} {result₁ size₁ class₁ r₁ : ℕ} {state₂ store₂ slots₂ out₂ : List ℕ} {result₂ size₂ class₂ r₂ : ℕ} → XmPollForReply state₁ store₁ slots₁ out₁ result₁ size₁ class₁ r₁ → XmPollForReply state₂ store₂ slots₂ out₂ result₂ size₂ class₂ r₂
      → (state₁ ≡ state₂) × (store₁ ≡ store₂) × (slots₁ ≡ slots₂) × (out₁ ≡ out₂) × (result₁ ≡ result₂) × (size₁ ≡ size₂) × (class₁ ≡ class₂) × (r₁ ≡ r₂)
  xm_poll_for_reply_one p q =
      let z = kept_left p q hands_left in
      (z.2, ap (λ (k : Rooms). k.store) z.3.0, ap (λ (k : Rooms). k.slots) z.3.0, z.3.1, shown_at 0 z.1, shown_at 1 z.1, shown_at 2 z.1, z.0)

-- `xm_poll_for_event_with_sequence`
module _ (state requests store slots out : List ℕ) (found number size class : ℕ) where
  abbrev pub XmPollForEventWithSequence : (state' store' out' : List ℕ) (found' number' size' class' r : ℕ) → Type 0
  XmPollForEventWithSequence state' store' out' found' number' size' class' r =
      Kept (λ a. PollsEvent (connection_of state) (rooms requests store slots) out a (rooms requests store' slots) out')
      event (state_row state) (found ∷ number ∷ size ∷ class ∷ []) (found' ∷ number' ∷ size' ∷ class' ∷ []) state state' r

  pub xm_poll_for_event_with_sequence_one : {state₁ store₁ out₁ : List ℕ} {found₁ number₁ size₁ class₁ r₁ : ℕ} {state₂ store₂ out₂ : List ℕ} {found₂ number₂ size₂ class₂ r₂ : ℕ} → XmPollForEventWithSequence state₁ store₁ out₁ found₁ number₁ size₁ class₁ r₁ → XmPollForEventWithSequence state₂ store₂ out₂ found₂ number₂ size₂ class₂ r₂
      → (state₁ ≡ state₂) × (store₁ ≡ store₂) × (out₁ ≡ out₂) × (found₁ ≡ found₂) × (number₁ ≡ number₂) × (size₁ ≡ size₂) × (class₁ ≡ class₂) × (r₁ ≡ r₂)
  xm_poll_for_event_with_sequence_one p q =
      let z = kept_left p q hands_left in
      (z.2, ap (λ (k : Rooms). k.store) z.3.0, z.3.1, shown_at 0 z.1, shown_at 1 z.1, shown_at 2 z.1, shown_at 3 z.1, z.0)

-- `xm_take_closed_fds`
module _ (state requests store slots out : List ℕ) (count : ℕ) where
  abbrev pub XmTakeClosedFds : (state' slots' out' : List ℕ) (count' r : ℕ) → Type 0
  XmTakeClosedFds state' slots' out' count' r =
      Kept (λ a. Closes (connection_of state) (rooms requests store slots) out a (rooms requests store slots') out')
      first (state_row state) (count ∷ []) (count' ∷ []) state state' r

  pub xm_take_closed_fds_one : {state₁ slots₁ out₁ : List ℕ} {count₁ r₁ : ℕ} {state₂ slots₂ out₂ : List ℕ} {count₂ r₂ : ℕ} → XmTakeClosedFds state₁ slots₁ out₁ count₁ r₁ → XmTakeClosedFds state₂ slots₂ out₂ count₂ r₂
      → (state₁ ≡ state₂) × (slots₁ ≡ slots₂) × (out₁ ≡ out₂) × (count₁ ≡ count₂) × (r₁ ≡ r₂)
  xm_take_closed_fds_one p q =
      let z = kept_left p q hands_left in
      (z.2, ap (λ (k : Rooms). k.slots) z.3.0, z.3.1, shown_at 0 z.1, z.0)

-- `xm_prepare_check_for_reply_or_error`
module _ (state requests store slots : List ℕ) (number sync : ℕ) where
  abbrev pub XmPrepareCheckForReplyOrError : (sync' r : ℕ) → Type 0
  XmPrepareCheckForReplyOrError sync' r =
      Exported (λ a. Prepares (connection_of state) (rooms requests store slots) number a) flag (sync ∷ []) (sync' ∷ []) r

  pub xm_prepare_check_for_reply_or_error_one : {sync₁ r₁ : ℕ} {sync₂ r₂ : ℕ} → XmPrepareCheckForReplyOrError sync₁ r₁ → XmPrepareCheckForReplyOrError sync₂ r₂
      → (sync₁ ≡ sync₂) × (r₁ ≡ r₂)
  xm_prepare_check_for_reply_or_error_one p q =
      let z = exported_one p q (λ a b x y. x ∙ sym y) in
      (shown_at 0 z.1, z.0)

-- `xm_send_requests`
module _ (state requests store slots kinds : List ℕ) (count number stop : ℕ) where
  abbrev pub XmSendRequests : (state' requests' : List ℕ) (count' number' stop' r : ℕ) → Type 0
  XmSendRequests state' requests' count' number' stop' r =
      Kept (λ a. SendsMany (connection_of state) (rooms requests store slots) kinds a (rooms requests' store slots))
      sendings (state_row state) (count ∷ number ∷ stop ∷ []) (count' ∷ number' ∷ stop' ∷ []) state state' r

  pub xm_send_requests_one : {state₁ requests₁ : List ℕ} {count₁ number₁ stop₁ r₁ : ℕ} {state₂ requests₂ : List ℕ} {count₂ number₂ stop₂ r₂ : ℕ} → XmSendRequests state₁ requests₁ count₁ number₁ stop₁ r₁ → XmSendRequests state₂ requests₂ count₂ number₂ stop₂ r₂
      → (state₁ ≡ state₂) × (requests₁ ≡ requests₂) × (count₁ ≡ count₂) × (number₁ ≡ number₂) × (stop₁ ≡ stop₂) × (r₁ ≡ r₂)
  xm_send_requests_one p q =
      let z = kept_left p q (λ a b x y. one_outcome _ _ _ _ _ a b _ _ x y) in
      (z.2, ap (λ (k : Rooms). k.requests) z.3, shown_at 0 z.1, shown_at 1 z.1, shown_at 2 z.1, z.0)

-- `xm_enqueue_packets`
module _ (state requests store slots bytes : List ℕ) (size count stop : ℕ) where
  abbrev pub XmEnqueuePackets : (state' store' slots' : List ℕ) (size' count' stop' r : ℕ) → Type 0
  XmEnqueuePackets state' store' slots' size' count' stop' r =
      Kept (λ a. EnqueuesMany (connection_of state) (rooms requests store slots) bytes a (rooms requests store' slots'))
      fed (state_row state) (size ∷ count ∷ stop ∷ []) (size' ∷ count' ∷ stop' ∷ []) state state' r

  pub xm_enqueue_packets_one : {state₁ store₁ slots₁ : List ℕ} {size₁ count₁ stop₁ r₁ : ℕ} {state₂ store₂ slots₂ : List ℕ} {size₂ count₂ stop₂ r₂ : ℕ} → XmEnqueuePackets state₁ store₁ slots₁ size₁ count₁ stop₁ r₁ → XmEnqueuePackets state₂ store₂ slots₂ size₂ count₂ stop₂ r₂
      → (state₁ ≡ state₂) × (store₁ ≡ store₂) × (slots₁ ≡ slots₂) × (size₁ ≡ size₂) × (count₁ ≡ count₂) × (stop₁ ≡ stop₂) × (r₁ ≡ r₂)
  xm_enqueue_packets_one p q =
      let z = kept_left p q (λ a b x y. one_outcome _ _ _ _ _ a b _ _ x y) in
      (z.2, ap (λ (k : Rooms). k.store) z.3, ap (λ (k : Rooms). k.slots) z.3, shown_at 0 z.1, shown_at 1 z.1, shown_at 2 z.1, z.0)

-- `xm_poll_for_events`
module _ (state requests store slots out marks : List ℕ) (count size stop : ℕ) where
  abbrev pub XmPollForEvents : (state' store' out' marks' : List ℕ) (count' size' stop' r : ℕ) → Type 0
  XmPollForEvents state' store' out' marks' count' size' stop' r =
      Kept (λ a. PollsEvents (connection_of state) (rooms requests store slots) out marks a (rooms requests store' slots) out' marks')
      handings (state_row state) (count ∷ size ∷ stop ∷ []) (count' ∷ size' ∷ stop' ∷ []) state state' r

  pub xm_poll_for_events_one : {state₁ store₁ out₁ marks₁ : List ℕ} {count₁ size₁ stop₁ r₁ : ℕ} {state₂ store₂ out₂ marks₂ : List ℕ} {count₂ size₂ stop₂ r₂ : ℕ} → XmPollForEvents state₁ store₁ out₁ marks₁ count₁ size₁ stop₁ r₁ → XmPollForEvents state₂ store₂ out₂ marks₂ count₂ size₂ stop₂ r₂
      → (state₁ ≡ state₂) × (store₁ ≡ store₂) × (out₁ ≡ out₂) × (marks₁ ≡ marks₂) × (count₁ ≡ count₂) × (size₁ ≡ size₂) × (stop₁ ≡ stop₂) × (r₁ ≡ r₂)
  xm_poll_for_events_one p q =
      let z = kept_left p q events_left in
      (z.2, ap (λ (k : Rooms). k.store) z.3.0, z.3.1, z.3.2, shown_at 0 z.1, shown_at 1 z.1, shown_at 2 z.1, z.0)

-- `xm_request_at`
module _ (requests : List ℕ) (number descriptors mode : ℕ) where
  abbrev pub XmRequestAt : (descriptors' mode' r : ℕ) → Type 0
  XmRequestAt descriptors' mode' r =
      Exported (λ a. a ≡ request_kept requests number) request_fields (descriptors ∷ mode ∷ []) (descriptors' ∷ mode' ∷ []) r

  pub xm_request_at_one : {descriptors₁ mode₁ r₁ : ℕ} {descriptors₂ mode₂ r₂ : ℕ} → XmRequestAt descriptors₁ mode₁ r₁ → XmRequestAt descriptors₂ mode₂ r₂
      → (descriptors₁ ≡ descriptors₂) × (mode₁ ≡ mode₂) × (r₁ ≡ r₂)
  xm_request_at_one p q =
      let z = exported_one p q (λ a b x y. x ∙ sym y) in
      (shown_at 0 z.1, shown_at 1 z.1, z.0)

-- `xm_record_at`
module _ (store : List ℕ) (at end kind number size count : ℕ) where
  abbrev pub XmRecordAt : (kind' number' size' count' r : ℕ) → Type 0
  XmRecordAt kind' number' size' count' r =
      Exported (λ a. Looks store at end a) record_fields (kind ∷ number ∷ size ∷ count ∷ []) (kind' ∷ number' ∷ size' ∷ count' ∷ []) r

  pub xm_record_at_one : {kind₁ number₁ size₁ count₁ r₁ : ℕ} {kind₂ number₂ size₂ count₂ r₂ : ℕ} → XmRecordAt kind₁ number₁ size₁ count₁ r₁ → XmRecordAt kind₂ number₂ size₂ count₂ r₂
      → (kind₁ ≡ kind₂) × (number₁ ≡ number₂) × (size₁ ≡ size₂) × (count₁ ≡ count₂) × (r₁ ≡ r₂)
  xm_record_at_one p q =
      let z = exported_one p q looks_one in
      (shown_at 0 z.1, shown_at 1 z.1, shown_at 2 z.1, shown_at 3 z.1, z.0)
