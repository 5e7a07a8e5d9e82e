-- The reader over its lent buffer: when it is sound, and what its calls answer. Assumes nothing.
use Rattle.std.specs.Prelude.{◌≡◌, refl, Bool, not, List, ℕ, ◌+◌, ◌-◌, leb, ltb, eqb, length, take, Result}
use Rattle.std.proofs.Common.{sym, ap, ◌∙◌}
use Rattle.std.specs.Borrow.{MutBor}
use Rattle.octets.specs.Logic.{choose, both}
use Rattle.octets.specs.Bytes.{legal}
use Rattle.octets.specs.Put.{cut}
use Rattle.refusal.specs.Answer.{Answer, gives, refuse, says, says_one}
use Rattle.packet.specs.Packet.{least_packet, most_packet, PacketClass, packet_class}
use Rattle.packet.specs.Class.{says_class, classed, class_back}
use Rattle.packet_reader.specs.Frame.{aim}
use Rattle.packet_reader.specs.declared.PacketReader.{PacketReader}
use Rattle.octets.specs.declared.Span.{Span}
use Rattle.packet_reader.specs.declared.Advanced.{Advanced}
use Rattle.refusal.specs.declared.Refusal.{Refusal}

-- 01, Rooms: a packet buffer has 32 to 65,536 bytes
abbrev pub most_buffer : ℕ
most_buffer = most_packet

unfoldable pub room : ℕ → Bool
room n = both (leb least_packet n) (leb n most_buffer)

-- 01, Rooms: the buffer's length is in range, the order is `l` or `B`, the target is what the bytes filled so far give, fits the buffer and is neither passed nor reached.
unfoldable pub soundb : PacketReader → List ℕ → Bool
soundb r s =
    both (room (length s))
    (both (legal r.order)
    (both (eqb r.target (aim r.order s r.filled))
    (both (leb r.target (length s)) (ltb r.filled r.target))))

-- a reader with nothing filled
abbrev pub fresh : ℕ → PacketReader
fresh o = record { order = o; filled = 0; target = least_packet }

-- `new`: 9, 13
unfoldable pub made : ℕ → ℕ → Answer PacketReader
made o n = refuse (not (room n)) 9 (refuse (not (legal o)) 13 (gives (fresh o)))

-- `remaining_capacity`: 9
unfoldable pub capacity : PacketReader → List ℕ → Answer ℕ
capacity r s = refuse (not (soundb r s)) 9 (gives (r.target - r.filled))

-- `unfilled`: the part from the filled bytes to the target; none, at 0, where the reader is unsound
unfoldable pub unfilled : PacketReader → List ℕ → Span
unfilled r s = choose (soundb r s) (record { start = r.filled; end = r.target }) (record { start = 0; end = 0 })

-- the bytes of a part
abbrev pub part : Span → List ℕ → List ℕ
part p s = cut p.start (p.end - p.start) s

-- `buffer` lends p of the buffer b: it shows the unfilled part, and stands where the part stands in the buffer (a place is a block of memory and an index in it).
pub record Lent (r : PacketReader) (b p : MutBor (List ℕ)) : Type 0 where
  pub shows : p.now ≡ part (unfilled r b.now) b.now
  pub stands : p.ref_ptr ≡ (b.ref_ptr.0, (unfilled r b.now).start + b.ref_ptr.1)

-- what a packet has come to; a whole one is handed on with its class
pub data Progress : Type 0 where
  waits : PacketReader → Progress
  whole : ℕ → PacketClass → PacketReader → Progress

-- with n bytes filled: 2 where the packet is longer than the buffer; otherwise it waits for more, or is whole, of the class of those n bytes, and the reader begins anew
unfoldable pub reached : ℕ → List ℕ → ℕ → Answer Progress
reached o s n =
    refuse (ltb (length s) (aim o s n)) 2
    (gives (choose (ltb n (aim o s n)) (waits (record { order = o; filled = n; target = aim o s n })) (whole (aim o s n) (packet_class (take n s)) (fresh o))))

-- `advance`: 9, 7 for more bytes than the part has, 2
unfoldable pub advanced : PacketReader → List ℕ → ℕ → Answer Progress
advanced r s amount =
    refuse (not (soundb r s)) 9 (refuse (ltb (r.target - r.filled) amount) 7 (reached r.order s (r.filled + amount)))

-- what the results say
abbrev pub says_made : Result PacketReader Refusal → Answer PacketReader
says_made = says (λ r. r)

abbrev pub says_capacity : Result ℕ Refusal → Answer ℕ
says_capacity = says (λ n. n)

abbrev pub says_progress : Advanced → Progress
says_progress (Advanced.NotYet r) = waits r
says_progress (Advanced.Packet n k r) = whole n (says_class k) r

abbrev pub says_advanced : Result Advanced Refusal → Answer Progress
says_advanced = says says_progress

-- ---- laws

-- Two answers that say the same are equal.
pub made_one : (a b : Result PacketReader Refusal) → says_made a ≡ says_made b → a ≡ b
made_one = says_one _ (λ r. r) (λ x. refl)

pub capacity_one : (a b : Result ℕ Refusal) → says_capacity a ≡ says_capacity b → a ≡ b
capacity_one = says_one _ (λ n. n) (λ x. refl)

back_progress : Progress → Advanced
back_progress (waits r) = Advanced.NotYet r
back_progress (whole n k r) = Advanced.Packet n (classed k) r

pub advanced_one : (a b : Result Advanced Refusal) → says_advanced a ≡ says_advanced b → a ≡ b
unfolding back_progress
advanced_one = says_one _ back_progress (elim [ Advanced.NotYet r ↦ refl | Advanced.Packet n k r ↦ ap (λ x. Advanced.Packet n x r) (class_back k) ])

-- Any two parts that `buffer` may lend show the same and stand in the same place.
pub lent_one : {r : PacketReader} {b p q : MutBor (List ℕ)} → Lent r b p → Lent r b q → (p.now ≡ q.now) × (p.ref_ptr ≡ q.ref_ptr)
lent_one x y = (x.shows ∙ sym y.shows, x.stands ∙ sym y.stands)
