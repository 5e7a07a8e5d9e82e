-- THE PROMISES of the exports of the leaves, written as those of `Exports`, and that any two outcomes are equal. Assumes nothing.
use Rattle.std.specs.Prelude.{◌≡◌, Bool, List, [], ◌∷◌, ℕ, ◌+◌, ◌*◌}
use Rattle.std.proofs.Common.{sym, ap, ◌∙◌}
use Rattle.octets.specs.Lent.{leaves}
use Rattle.refusal.specs.Answer.{Answer}
use Rattle.sequence.specs.Numbering.{FullNumber, in_range}
use Rattle.sequence.proofs.NumberingLaws.{least_one}
use Rattle.sequence.specs.Sending.{sending}
use Rattle.x11_utils.specs.Packet.{checked}
use Rattle.x11_utils.specs.Error.{parsed}
use Rattle.id_allocator.specs.Ids.{new_ids, generated, updated}
use Rattle.xc_misc.specs.Requests.{Writes, get_version, get_xid_range, get_xid_list}
use Rattle.xc_misc.specs.Replies.{version, range, ids_of as replyIds, list_of, Lists}
use Rattle.xc_misc.specs.declared.reply.GetXIDListReply.{GetXIDListReply}
use Rattle.rows.specs.State.{three_slots, ids_of, ids_row}
use Rattle.answers.specs.Exported.{Exported, Kept, shown_at, exported_one, exported_left, kept_one}
use Rattle.answers.specs.Shown.{nothing, number, roomed, error_fields, version_fields, range_fields, list_fields}

-- a request written, an id list read, a number found
writes_left : {o : ℕ} {request before u v : List ℕ} (a b : Answer ℕ) → Writes o request before a u → Writes o request before b v → (a ≡ b) × (u ≡ v)
writes_left {request = request} {before = before} a b p q =
    let e : a ≡ b = p.answers ∙ sym q.answers in
    (e, p.left_is ∙ ap (λ (k : Answer ℕ). leaves k request before) e ∙ sym q.left_is)

lists_left : {o : ℕ} {p before u v : List ℕ} (a b : Answer GetXIDListReply) → Lists o p before a u → Lists o p before b v → (a ≡ b) × (u ≡ v)
lists_left {o} {p = p} {before = before} a b x y =
    let e : a ≡ b = x.answers ∙ sym y.answers in
    (e, x.left_is ∙ ap (λ (k : Answer GetXIDListReply). leaves k (replyIds o (list_of o p).count p) before) e ∙ sym y.left_is)

full_one : {read wire : ℕ} (a b : Answer ℕ) → FullNumber read wire a → FullNumber read wire b → a ≡ b
full_one {read} {wire = wire} a b p q = p.answers ∙ ap in_range (least_one read wire p.number q.number p.is_least q.is_least) ∙ sym q.answers

-- `xm_ids_new`
module _ (ids : List ℕ) (base mask : ℕ) where
  abbrev pub XmIdsNew : (ids' : List ℕ) (r : ℕ) → Type 0
  XmIdsNew ids' r =
      Kept (λ a. a ≡ roomed three_slots ids (new_ids base mask)) nothing (ids_row ids) [] [] ids ids' r

  pub xm_ids_new_one : {ids₁ : List ℕ} {r₁ : ℕ} {ids₂ : List ℕ} {r₂ : ℕ} → XmIdsNew ids₁ r₁ → XmIdsNew ids₂ r₂
      → (ids₁ ≡ ids₂) × (r₁ ≡ r₂)
  xm_ids_new_one p q =
      let z = kept_one p q (λ a b x y. x ∙ sym y) in
      (z.2, z.0)

-- `xm_ids_generate_id`
module _ (ids : List ℕ) (id : ℕ) where
  abbrev pub XmIdsGenerateId : (ids' : List ℕ) (id' r : ℕ) → Type 0
  XmIdsGenerateId ids' id' r =
      Kept (λ a. a ≡ generated (ids_of ids)) (λ x. x.0 ∷ []) (λ x. ids_row ids x.1) (id ∷ []) (id' ∷ []) ids ids' r

  pub xm_ids_generate_id_one : {ids₁ : List ℕ} {id₁ r₁ : ℕ} {ids₂ : List ℕ} {id₂ r₂ : ℕ} → XmIdsGenerateId ids₁ id₁ r₁ → XmIdsGenerateId ids₂ id₂ r₂
      → (ids₁ ≡ ids₂) × (id₁ ≡ id₂) × (r₁ ≡ r₂)
  xm_ids_generate_id_one p q =
      let z = kept_one p q (λ a b x y. x ∙ sym y) in
      (z.2, shown_at 0 z.1, z.0)

-- `xm_ids_update_xid_range`
module _ (ids : List ℕ) (start count : ℕ) where
  abbrev pub XmIdsUpdateXidRange : (ids' : List ℕ) (r : ℕ) → Type 0
  XmIdsUpdateXidRange ids' r =
      Kept (λ a. a ≡ updated (ids_of ids) start count) nothing (ids_row ids) [] [] ids ids' r

  pub xm_ids_update_xid_range_one : {ids₁ : List ℕ} {r₁ : ℕ} {ids₂ : List ℕ} {r₂ : ℕ} → XmIdsUpdateXidRange ids₁ r₁ → XmIdsUpdateXidRange ids₂ r₂
      → (ids₁ ≡ ids₂) × (r₁ ≡ r₂)
  xm_ids_update_xid_range_one p q =
      let z = kept_one p q (λ a b x y. x ∙ sym y) in
      (z.2, z.0)

-- `xm_xc_misc_get_version_request`
module _ (order opcode major minor : ℕ) (out : List ℕ) (size : ℕ) where
  abbrev pub XmXcMiscGetVersionRequest : (out' : List ℕ) (size' r : ℕ) → Type 0
  XmXcMiscGetVersionRequest out' size' r =
      Exported (λ a. Writes order (get_version order opcode major minor) out a out') number (size ∷ []) (size' ∷ []) r

  pub xm_xc_misc_get_version_request_one : {out₁ : List ℕ} {size₁ r₁ : ℕ} {out₂ : List ℕ} {size₂ r₂ : ℕ} → XmXcMiscGetVersionRequest out₁ size₁ r₁ → XmXcMiscGetVersionRequest out₂ size₂ r₂
      → (out₁ ≡ out₂) × (size₁ ≡ size₂) × (r₁ ≡ r₂)
  xm_xc_misc_get_version_request_one p q =
      let z = exported_left p q writes_left in
      (z.2, shown_at 0 z.1, z.0)

-- `xm_xc_misc_get_xid_range_request`
module _ (order opcode : ℕ) (out : List ℕ) (size : ℕ) where
  abbrev pub XmXcMiscGetXidRangeRequest : (out' : List ℕ) (size' r : ℕ) → Type 0
  XmXcMiscGetXidRangeRequest out' size' r =
      Exported (λ a. Writes order (get_xid_range order opcode) out a out') number (size ∷ []) (size' ∷ []) r

  pub xm_xc_misc_get_xid_range_request_one : {out₁ : List ℕ} {size₁ r₁ : ℕ} {out₂ : List ℕ} {size₂ r₂ : ℕ} → XmXcMiscGetXidRangeRequest out₁ size₁ r₁ → XmXcMiscGetXidRangeRequest out₂ size₂ r₂
      → (out₁ ≡ out₂) × (size₁ ≡ size₂) × (r₁ ≡ r₂)
  xm_xc_misc_get_xid_range_request_one p q =
      let z = exported_left p q writes_left in
      (z.2, shown_at 0 z.1, z.0)

-- `xm_xc_misc_get_xid_list_request`
module _ (order opcode count : ℕ) (out : List ℕ) (size : ℕ) where
  abbrev pub XmXcMiscGetXidListRequest : (out' : List ℕ) (size' r : ℕ) → Type 0
  XmXcMiscGetXidListRequest out' size' r =
      Exported (λ a. Writes order (get_xid_list order opcode count) out a out') number (size ∷ []) (size' ∷ []) r

  pub xm_xc_misc_get_xid_list_request_one : {out₁ : List ℕ} {size₁ r₁ : ℕ} {out₂ : List ℕ} {size₂ r₂ : ℕ} → XmXcMiscGetXidListRequest out₁ size₁ r₁ → XmXcMiscGetXidListRequest out₂ size₂ r₂
      → (out₁ ≡ out₂) × (size₁ ≡ size₂) × (r₁ ≡ r₂)
  xm_xc_misc_get_xid_list_request_one p q =
      let z = exported_left p q writes_left in
      (z.2, shown_at 0 z.1, z.0)

-- `xm_xc_misc_get_version_reply`
module _ (order : ℕ) (packet : List ℕ) (sequence length major minor : ℕ) where
  abbrev pub XmXcMiscGetVersionReply : (sequence' length' major' minor' r : ℕ) → Type 0
  XmXcMiscGetVersionReply sequence' length' major' minor' r =
      Exported (λ a. a ≡ version order packet) version_fields (sequence ∷ length ∷ major ∷ minor ∷ []) (sequence' ∷ length' ∷ major' ∷ minor' ∷ []) r

  pub xm_xc_misc_get_version_reply_one : {sequence₁ length₁ major₁ minor₁ r₁ : ℕ} {sequence₂ length₂ major₂ minor₂ r₂ : ℕ} → XmXcMiscGetVersionReply sequence₁ length₁ major₁ minor₁ r₁ → XmXcMiscGetVersionReply sequence₂ length₂ major₂ minor₂ r₂
      → (sequence₁ ≡ sequence₂) × (length₁ ≡ length₂) × (major₁ ≡ major₂) × (minor₁ ≡ minor₂) × (r₁ ≡ r₂)
  xm_xc_misc_get_version_reply_one p q =
      let z = exported_one p q (λ a b x y. x ∙ sym y) in
      (shown_at 0 z.1, shown_at 1 z.1, shown_at 2 z.1, shown_at 3 z.1, z.0)

-- `xm_xc_misc_get_xid_range_reply`
module _ (order : ℕ) (packet : List ℕ) (sequence length start count : ℕ) where
  abbrev pub XmXcMiscGetXidRangeReply : (sequence' length' start' count' r : ℕ) → Type 0
  XmXcMiscGetXidRangeReply sequence' length' start' count' r =
      Exported (λ a. a ≡ range order packet) range_fields (sequence ∷ length ∷ start ∷ count ∷ []) (sequence' ∷ length' ∷ start' ∷ count' ∷ []) r

  pub xm_xc_misc_get_xid_range_reply_one : {sequence₁ length₁ start₁ count₁ r₁ : ℕ} {sequence₂ length₂ start₂ count₂ r₂ : ℕ} → XmXcMiscGetXidRangeReply sequence₁ length₁ start₁ count₁ r₁ → XmXcMiscGetXidRangeReply sequence₂ length₂ start₂ count₂ r₂
      → (sequence₁ ≡ sequence₂) × (length₁ ≡ length₂) × (start₁ ≡ start₂) × (count₁ ≡ count₂) × (r₁ ≡ r₂)
  xm_xc_misc_get_xid_range_reply_one p q =
      let z = exported_one p q (λ a b x y. x ∙ sym y) in
      (shown_at 0 z.1, shown_at 1 z.1, shown_at 2 z.1, shown_at 3 z.1, z.0)

-- `xm_xc_misc_get_xid_list_reply`
module _ (order : ℕ) (packet ids : List ℕ) (sequence length count : ℕ) where
  abbrev pub XmXcMiscGetXidListReply : (ids' : List ℕ) (sequence' length' count' r : ℕ) → Type 0
  XmXcMiscGetXidListReply ids' sequence' length' count' r =
      Exported (λ a. Lists order packet ids a ids') list_fields (sequence ∷ length ∷ count ∷ []) (sequence' ∷ length' ∷ count' ∷ []) r

  pub xm_xc_misc_get_xid_list_reply_one : {ids₁ : List ℕ} {sequence₁ length₁ count₁ r₁ : ℕ} {ids₂ : List ℕ} {sequence₂ length₂ count₂ r₂ : ℕ} → XmXcMiscGetXidListReply ids₁ sequence₁ length₁ count₁ r₁ → XmXcMiscGetXidListReply ids₂ sequence₂ length₂ count₂ r₂
      → (ids₁ ≡ ids₂) × (sequence₁ ≡ sequence₂) × (length₁ ≡ length₂) × (count₁ ≡ count₂) × (r₁ ≡ r₂)
  xm_xc_misc_get_xid_list_reply_one p q =
      let z = exported_left p q lists_left in
      (z.2, shown_at 0 z.1, shown_at 1 z.1, shown_at 2 z.1, z.0)

-- `xm_full_number`
module _ (read wire number : ℕ) where
  abbrev pub XmFullNumber : (number' r : ℕ) → Type 0
  XmFullNumber number' r =
      Exported (λ a. FullNumber read wire a) (λ n. n ∷ []) (number ∷ []) (number' ∷ []) r

  pub xm_full_number_one : {number₁ r₁ : ℕ} {number₂ r₂ : ℕ} → XmFullNumber number₁ r₁ → XmFullNumber number₂ r₂
      → (number₁ ≡ number₂) × (r₁ ≡ r₂)
  xm_full_number_one p q =
      let z = exported_one p q full_one in
      (shown_at 0 z.1, z.0)

-- `xm_send`
module _ (written expected : ℕ) (reply : Bool) (number next : ℕ) where
  abbrev pub XmSend : (number' next' r : ℕ) → Type 0
  XmSend number' next' r =
      Exported (λ a. a ≡ sending written expected reply) (λ n. n.number ∷ n.expected ∷ []) (number ∷ next ∷ []) (number' ∷ next' ∷ []) r

  pub xm_send_one : {number₁ next₁ r₁ : ℕ} {number₂ next₂ r₂ : ℕ} → XmSend number₁ next₁ r₁ → XmSend number₂ next₂ r₂
      → (number₁ ≡ number₂) × (next₁ ≡ next₂) × (r₁ ≡ r₂)
  xm_send_one p q =
      let z = exported_one p q (λ a b x y. x ∙ sym y) in
      (shown_at 0 z.1, shown_at 1 z.1, z.0)

-- `xm_check_packet`
module _ (order : ℕ) (packet : List ℕ) (first : ℕ) where
  abbrev pub XmCheckPacket : (r : ℕ) → Type 0
  XmCheckPacket r =
      Exported (λ a. a ≡ checked order packet first) nothing [] [] r

  pub xm_check_packet_one : {r₁ : ℕ} {r₂ : ℕ} → XmCheckPacket r₁ → XmCheckPacket r₂
      → r₁ ≡ r₂
  xm_check_packet_one p q =
      let z = exported_one p q (λ a b x y. x ∙ sym y) in
      z.0

-- `xm_error`
module _ (order : ℕ) (packet : List ℕ) (error sequence value minor major : ℕ) where
  abbrev pub XmError : (error' sequence' value' minor' major' r : ℕ) → Type 0
  XmError error' sequence' value' minor' major' r =
      Exported (λ a. a ≡ parsed order packet) error_fields (error ∷ sequence ∷ value ∷ minor ∷ major ∷ []) (error' ∷ sequence' ∷ value' ∷ minor' ∷ major' ∷ []) r

  pub xm_error_one : {error₁ sequence₁ value₁ minor₁ major₁ r₁ : ℕ} {error₂ sequence₂ value₂ minor₂ major₂ r₂ : ℕ} → XmError error₁ sequence₁ value₁ minor₁ major₁ r₁ → XmError error₂ sequence₂ value₂ minor₂ major₂ r₂
      → (error₁ ≡ error₂) × (sequence₁ ≡ sequence₂) × (value₁ ≡ value₂) × (minor₁ ≡ minor₂) × (major₁ ≡ major₂) × (r₁ ≡ r₂)
  xm_error_one p q =
      let z = exported_one p q (λ a b x y. x ∙ sym y) in
      (shown_at 0 z.1, shown_at 1 z.1, shown_at 2 z.1, shown_at 3 z.1, shown_at 4 z.1, z.0)

-- a version in one number
abbrev pub version_of : (major minor patch : ℕ) → ℕ
version_of major minor patch = 65536 * major + (256 * minor + patch)

-- `xm_version`: this is 0.1.0
abbrev pub XmVersion : (r : ℕ) → Type 0
XmVersion r = r ≡ version_of 0 2 0

pub xm_version_one : {r₁ r₂ : ℕ} → XmVersion r₁ → XmVersion r₂ → r₁ ≡ r₂
xm_version_one p q = p ∙ sym q
