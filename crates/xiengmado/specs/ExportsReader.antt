-- THE PROMISES of the exports of the reader, written as those of `Exports`, and that any two outcomes are equal. Assumes nothing.
use Rattle.std.specs.Prelude.{◌≡◌, List, [], ◌∷◌, ℕ, length}
use Rattle.std.proofs.Common.{sym, ◌∙◌}
use Rattle.packet_reader.specs.Frame.{frame}
use Rattle.packet_reader.specs.Reader.{made, capacity, advanced}
use Rattle.rows.specs.State.{three_slots, reader_of, reader_row}
use Rattle.answers.specs.Exported.{Exported, Kept, shown_at, exported_one, kept_one}
use Rattle.answers.specs.Shown.{nothing, number, roomed, framed, packet_framed, packet_reader}

-- `xm_packet_length`
module _ (packet_code field : ℕ) where
  abbrev pub XmPacketLength : (class' r : ℕ) → Type 0
  XmPacketLength class' r =
      (r ∷ class' ∷ []) ≡ framed (frame packet_code field)

  pub xm_packet_length_one : {class₁ r₁ : ℕ} {class₂ r₂ : ℕ} → XmPacketLength class₁ r₁ → XmPacketLength class₂ r₂
      → (class₁ ≡ class₂) × (r₁ ≡ r₂)
  xm_packet_length_one p q = let e = p ∙ sym q in (shown_at 1 e, shown_at 0 e)

-- `xm_reader_new`
module _ (reader : List ℕ) (order : ℕ) (buf : List ℕ) where
  abbrev pub XmReaderNew : (reader' : List ℕ) (r : ℕ) → Type 0
  XmReaderNew reader' r =
      Kept (λ a. a ≡ roomed three_slots reader (made order (length buf))) nothing (reader_row reader) [] [] reader reader' r

  pub xm_reader_new_one : {reader₁ : List ℕ} {r₁ : ℕ} {reader₂ : List ℕ} {r₂ : ℕ} → XmReaderNew reader₁ r₁ → XmReaderNew reader₂ r₂
      → (reader₁ ≡ reader₂) × (r₁ ≡ r₂)
  xm_reader_new_one p q =
      let z = kept_one p q (λ a b x y. x ∙ sym y) in
      (z.2, z.0)

-- `xm_reader_remaining_capacity`
module _ (reader buf : List ℕ) (size : ℕ) where
  abbrev pub XmReaderRemainingCapacity : (size' r : ℕ) → Type 0
  XmReaderRemainingCapacity size' r =
      Exported (λ a. a ≡ capacity (reader_of reader) buf) number (size ∷ []) (size' ∷ []) r

  pub xm_reader_remaining_capacity_one : {size₁ r₁ : ℕ} {size₂ r₂ : ℕ} → XmReaderRemainingCapacity size₁ r₁ → XmReaderRemainingCapacity size₂ r₂
      → (size₁ ≡ size₂) × (r₁ ≡ r₂)
  xm_reader_remaining_capacity_one p q =
      let z = exported_one p q (λ a b x y. x ∙ sym y) in
      (shown_at 0 z.1, z.0)

-- `xm_reader_buffer`
module _ (reader buf : List ℕ) (start size : ℕ) where
  abbrev pub XmReaderBuffer : (start' size' r : ℕ) → Type 0
  XmReaderBuffer start' size' r =
      Exported (λ a. a ≡ capacity (reader_of reader) buf) (λ n. (reader_of reader).filled ∷ n ∷ []) (start ∷ size ∷ []) (start' ∷ size' ∷ []) r

  pub xm_reader_buffer_one : {start₁ size₁ r₁ : ℕ} {start₂ size₂ r₂ : ℕ} → XmReaderBuffer start₁ size₁ r₁ → XmReaderBuffer start₂ size₂ r₂
      → (start₁ ≡ start₂) × (size₁ ≡ size₂) × (r₁ ≡ r₂)
  xm_reader_buffer_one p q =
      let z = exported_one p q (λ a b x y. x ∙ sym y) in
      (shown_at 0 z.1, shown_at 1 z.1, z.0)

-- `xm_reader_advance`
module _ (reader buf : List ℕ) (amount size class : ℕ) where
  abbrev pub XmReaderAdvance : (reader' : List ℕ) (size' class' r : ℕ) → Type 0
  XmReaderAdvance reader' size' class' r =
      Kept (λ a. a ≡ advanced (reader_of reader) buf amount) packet_framed (λ p. reader_row reader (packet_reader p)) (size ∷ class ∷ []) (size' ∷ class' ∷ []) reader reader' r

  pub xm_reader_advance_one : {reader₁ : List ℕ} {size₁ class₁ r₁ : ℕ} {reader₂ : List ℕ} {size₂ class₂ r₂ : ℕ} → XmReaderAdvance reader₁ size₁ class₁ r₁ → XmReaderAdvance reader₂ size₂ class₂ r₂
      → (reader₁ ≡ reader₂) × (size₁ ≡ size₂) × (class₁ ≡ class₂) × (r₁ ≡ r₂)
  xm_reader_advance_one p q =
      let z = kept_one p q (λ a b x y. x ∙ sym y) in
      (z.2, shown_at 0 z.1, shown_at 1 z.1, z.0)
