-- THE PROMISES of the public calls: what a contract says of the answer r, and that any two answers that it allows are equal. Of `buffer` that is `Lent` (`Reader.antt`). Assumes nothing.
use Rattle.std.specs.Prelude.{◌≡◌, List, ℕ, length, Result}
use Rattle.std.proofs.Common.{sym, ap, ◌∙◌}
use Rattle.packet.specs.Class.{says_class, class_one}
use Rattle.packet_reader.specs.Frame.{Frame, frame}
use Rattle.packet_reader.specs.Front.{front_of, says_begins, begins_one}
use Rattle.packet_reader.specs.Reader.{made, capacity, unfilled, advanced, says_made, says_capacity, says_advanced, made_one, capacity_one, advanced_one}
use Rattle.packet_reader.specs.declared.Framed.{Framed}
use Rattle.packet_reader.specs.declared.Begins.{Begins}
use Rattle.packet_reader.specs.declared.PacketReader.{PacketReader}
use Rattle.octets.specs.declared.Span.{Span}
use Rattle.packet_reader.specs.declared.Advanced.{Advanced}
use Rattle.refusal.specs.declared.Refusal.{Refusal}

-- `frame`
abbrev pub says_framed : Framed → Frame
says_framed r = record { length = r.length; class = says_class r.class }

module _ (code units : ℕ) where
  abbrev pub Frames : Framed → Type 0
  Frames r = says_framed r ≡ frame code units

  pub frames_one : (a b : Framed) → Frames a → Frames b → a ≡ b
  frames_one a b x y =
      let e : says_framed a ≡ says_framed b = x ∙ sym y in
      let k : a.class ≡ b.class = class_one _ _ (ap (λ (f : Frame). f.class) e) in
      λ i. record { length = (e i).length; class = k i }

-- `front`
module _ (order : ℕ) (bytes : List ℕ) where
  abbrev pub Fronts : Begins → Type 0
  Fronts r = says_begins r ≡ front_of order bytes

  pub fronts_one : (a b : Begins) → Fronts a → Fronts b → a ≡ b
  fronts_one a b x y = begins_one a b (x ∙ sym y)

-- `PacketReader::new`
module _ (order : ℕ) (buf : List ℕ) where
  abbrev pub Makes : Result PacketReader Refusal → Type 0
  Makes r = says_made r ≡ made order (length buf)

  pub makes_one : (a b : Result PacketReader Refusal) → Makes a → Makes b → a ≡ b
  makes_one a b x y = made_one a b (x ∙ sym y)

-- `remaining_capacity`
module _ (reader : PacketReader) (buf : List ℕ) where
  abbrev pub Remains : Result ℕ Refusal → Type 0
  Remains r = says_capacity r ≡ capacity reader buf

  pub remains_one : (a b : Result ℕ Refusal) → Remains a → Remains b → a ≡ b
  remains_one a b x y = capacity_one a b (x ∙ sym y)

-- `unfilled`
module _ (reader : PacketReader) (buf : List ℕ) where
  abbrev pub Lies : Span → Type 0
  Lies r = r ≡ unfilled reader buf

  pub lies_one : (a b : Span) → Lies a → Lies b → a ≡ b
  lies_one a b x y = x ∙ sym y

-- `advance`
module _ (reader : PacketReader) (buf : List ℕ) (amount : ℕ) where
  abbrev pub Advances : Result Advanced Refusal → Type 0
  Advances r = says_advanced r ≡ advanced reader buf amount

  pub advances_one : (a b : Result Advanced Refusal) → Advances a → Advances b → a ≡ b
  advances_one a b x y = advanced_one a b (x ∙ sym y)
