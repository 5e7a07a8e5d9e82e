-- THE PROMISES of the exports of the handshake, written as those of `Exports`, and that any two outcomes are equal. Assumes nothing.
use Rattle.std.specs.Prelude.{◌≡◌, List, [], ◌∷◌, ℕ, length}
use Rattle.std.proofs.Common.{sym, ap, ◌∙◌}
use Rattle.octets.specs.Lent.{leaves}
use Rattle.refusal.specs.Answer.{Answer}
use Rattle.connect.specs.Handshake.{made, capacity, advanced}
use Rattle.setup_request.specs.Request.{Writes, setup_request}
use Rattle.connect.specs.Setup.{setup as setup_setup}
use Rattle.rows.specs.State.{three_slots, handshake_of, handshake_row}
use Rattle.answers.specs.Exported.{Exported, Kept, shown_at, exported_one, exported_left, kept_one}
use Rattle.answers.specs.Shown.{nothing, number, roomed, completed, progressed, setup_roomed, status_of, setup_fields, vendor_text, reason_text}

-- the request written
writes_left : {o : ℕ} {name auth before u v : List ℕ} (a b : Answer ℕ) → Writes o name auth before a u → Writes o name auth before b v → (a ≡ b) × (u ≡ v)
writes_left {o} {name = name} {auth = auth} {before = before} a b p q =
    let e : a ≡ b = p.answers ∙ sym q.answers in
    (e, p.left_is ∙ ap (λ (k : Answer ℕ). leaves k (setup_request o name auth) before) e ∙ sym q.left_is)

-- `xm_setup_request`
module _ (order : ℕ) (name auth out : List ℕ) (size : ℕ) where
  abbrev pub XmSetupRequest : (out' : List ℕ) (size' r : ℕ) → Type 0
  XmSetupRequest out' size' r =
      Exported (λ a. Writes order name auth out a out') number (size ∷ []) (size' ∷ []) r

  pub xm_setup_request_one : {out₁ : List ℕ} {size₁ r₁ : ℕ} {out₂ : List ℕ} {size₂ r₂ : ℕ} → XmSetupRequest out₁ size₁ r₁ → XmSetupRequest out₂ size₂ r₂
      → (out₁ ≡ out₂) × (size₁ ≡ size₂) × (r₁ ≡ r₂)
  xm_setup_request_one p q =
      let z = exported_left p q writes_left in
      (z.2, shown_at 0 z.1, z.0)

-- `xm_connect_new`
module _ (connect : List ℕ) (order : ℕ) (buf : List ℕ) where
  abbrev pub XmConnectNew : (connect' : List ℕ) (r : ℕ) → Type 0
  XmConnectNew connect' r =
      Kept (λ a. a ≡ roomed three_slots connect (made order (length buf))) nothing (handshake_row connect) [] [] connect connect' r

  pub xm_connect_new_one : {connect₁ : List ℕ} {r₁ : ℕ} {connect₂ : List ℕ} {r₂ : ℕ} → XmConnectNew connect₁ r₁ → XmConnectNew connect₂ r₂
      → (connect₁ ≡ connect₂) × (r₁ ≡ r₂)
  xm_connect_new_one p q =
      let z = kept_one p q (λ a b x y. x ∙ sym y) in
      (z.2, z.0)

-- `xm_connect_remaining_capacity`
module _ (connect buf : List ℕ) (size : ℕ) where
  abbrev pub XmConnectRemainingCapacity : (size' r : ℕ) → Type 0
  XmConnectRemainingCapacity size' r =
      Exported (λ a. a ≡ capacity (handshake_of connect) buf) number (size ∷ []) (size' ∷ []) r

  pub xm_connect_remaining_capacity_one : {size₁ r₁ : ℕ} {size₂ r₂ : ℕ} → XmConnectRemainingCapacity size₁ r₁ → XmConnectRemainingCapacity size₂ r₂
      → (size₁ ≡ size₂) × (r₁ ≡ r₂)
  xm_connect_remaining_capacity_one p q =
      let z = exported_one p q (λ a b x y. x ∙ sym y) in
      (shown_at 0 z.1, z.0)

-- `xm_connect_buffer`
module _ (connect buf : List ℕ) (start size : ℕ) where
  abbrev pub XmConnectBuffer : (start' size' r : ℕ) → Type 0
  XmConnectBuffer start' size' r =
      Exported (λ a. a ≡ capacity (handshake_of connect) buf) (λ n. (handshake_of connect).filled ∷ n ∷ []) (start ∷ size ∷ []) (start' ∷ size' ∷ []) r

  pub xm_connect_buffer_one : {start₁ size₁ r₁ : ℕ} {start₂ size₂ r₂ : ℕ} → XmConnectBuffer start₁ size₁ r₁ → XmConnectBuffer start₂ size₂ r₂
      → (start₁ ≡ start₂) × (size₁ ≡ size₂) × (r₁ ≡ r₂)
  xm_connect_buffer_one p q =
      let z = exported_one p q (λ a b x y. x ∙ sym y) in
      (shown_at 0 z.1, shown_at 1 z.1, z.0)

-- `xm_connect_advance`
module _ (connect buf : List ℕ) (amount complete : ℕ) where
  abbrev pub XmConnectAdvance : (connect' : List ℕ) (complete' r : ℕ) → Type 0
  XmConnectAdvance connect' complete' r =
      Kept (λ a. a ≡ advanced (handshake_of connect) buf amount) completed (λ p. handshake_row connect (progressed p)) (complete ∷ []) (complete' ∷ []) connect connect' r

  pub xm_connect_advance_one : {connect₁ : List ℕ} {complete₁ r₁ : ℕ} {connect₂ : List ℕ} {complete₂ r₂ : ℕ} → XmConnectAdvance connect₁ complete₁ r₁ → XmConnectAdvance connect₂ complete₂ r₂
      → (connect₁ ≡ connect₂) × (complete₁ ≡ complete₂) × (r₁ ≡ r₂)
  xm_connect_advance_one p q =
      let z = kept_one p q (λ a b x y. x ∙ sym y) in
      (z.2, shown_at 0 z.1, z.0)

-- `xm_connect_setup`
module _ (connect buf : List ℕ) (status : ℕ) (fields : List ℕ) where
  abbrev pub XmConnectSetup : (status' : ℕ) (fields' : List ℕ) (r : ℕ) → Type 0
  XmConnectSetup status' fields' r =
      Kept (λ a. a ≡ setup_roomed (length fields) (setup_setup (handshake_of connect) buf)) status_of (setup_fields fields) (status ∷ []) (status' ∷ []) fields fields' r

  pub xm_connect_setup_one : {status₁ : ℕ} {fields₁ : List ℕ} {r₁ : ℕ} {status₂ : ℕ} {fields₂ : List ℕ} {r₂ : ℕ} → XmConnectSetup status₁ fields₁ r₁ → XmConnectSetup status₂ fields₂ r₂
      → (status₁ ≡ status₂) × (fields₁ ≡ fields₂) × (r₁ ≡ r₂)
  xm_connect_setup_one p q =
      let z = kept_one p q (λ a b x y. x ∙ sym y) in
      (shown_at 0 z.1, z.2, z.0)

-- `xm_connect_vendor`
module _ (connect buf : List ℕ) (start size : ℕ) where
  abbrev pub XmConnectVendor : (start' size' r : ℕ) → Type 0
  XmConnectVendor start' size' r =
      Exported (λ a. a ≡ setup_setup (handshake_of connect) buf) vendor_text (start ∷ size ∷ []) (start' ∷ size' ∷ []) r

  pub xm_connect_vendor_one : {start₁ size₁ r₁ : ℕ} {start₂ size₂ r₂ : ℕ} → XmConnectVendor start₁ size₁ r₁ → XmConnectVendor start₂ size₂ r₂
      → (start₁ ≡ start₂) × (size₁ ≡ size₂) × (r₁ ≡ r₂)
  xm_connect_vendor_one p q =
      let z = exported_one p q (λ a b x y. x ∙ sym y) in
      (shown_at 0 z.1, shown_at 1 z.1, z.0)

-- `xm_connect_reason`
module _ (connect buf : List ℕ) (start size : ℕ) where
  abbrev pub XmConnectReason : (start' size' r : ℕ) → Type 0
  XmConnectReason start' size' r =
      Exported (λ a. a ≡ setup_setup (handshake_of connect) buf) reason_text (start ∷ size ∷ []) (start' ∷ size' ∷ []) r

  pub xm_connect_reason_one : {start₁ size₁ r₁ : ℕ} {start₂ size₂ r₂ : ℕ} → XmConnectReason start₁ size₁ r₁ → XmConnectReason start₂ size₂ r₂
      → (start₁ ≡ start₂) × (size₁ ≡ size₂) × (r₁ ≡ r₂)
  xm_connect_reason_one p q =
      let z = exported_one p q (λ a b x y. x ∙ sym y) in
      (shown_at 0 z.1, shown_at 1 z.1, z.0)
