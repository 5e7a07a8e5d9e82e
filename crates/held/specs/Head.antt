-- The layout of a held record: all that depends on it stands here. Assumes nothing.
--
--      8     number
--      4     n, the length of the packet
--      1     count of descriptors
--      1     kind: 0 a reply, 1 an event
--      2     zero
--      n     the packet
--
-- Numbers stand least significant byte first, whatever the order of the connection.
use Rattle.std.specs.Prelude.{◌≡◌, refl, Bool, true, false, leb, ltb, eqb, set}
use Rattle.std.proofs.Math.Path.{sym, ap}
use Rattle.std.proofs.Common.{◌∙◌, arith, length-append, leb-true, ltb-true, le-leb, lt-ltb}
use mathlib.Core.List.{List, [], ◌∷◌, ◌++◌, append_assoc}
use Prim.Native.Nat.{ℕ, ◌+◌, ◌%◌, ◌≤◌, ◌<◌, ◌^◌}
use Rattle.std.proofs.Math.ListN.{length}
use Rattle.octets.specs.Logic.{choose, both, both_left, both_right, both_yes}
use Rattle.octets.specs.Bytes.{little_order, word, Octets, word_number, length_bytes_of, bytes_one}
use Rattle.octets.specs.Put.{put, cut, cut_first, cut_skip, cut_add, length_cut, put_parts, put_none, put_next, set_two}
use Rattle.octets.specs.Field.{field, put_field, field_first, field_skip, octets_cut}
use Rattle.packet.specs.Packet.{least_packet, most_packet}
use Rattle.held.specs.declared.Label.{Label}

abbrev pub number_at : ℕ
number_at = 0

abbrev pub length_at : ℕ
length_at = 8

abbrev pub count_at : ℕ
count_at = 12

abbrev pub kind_at : ℕ
kind_at = 13

abbrev pub zero_at : ℕ
zero_at = 14

-- 01, Numbering and filing: a held record costs 16 bytes and its packet length
abbrev pub header_size : ℕ
header_size = 16

-- 01, Rooms: a store has at most 16,777,216 bytes
abbrev pub most_store : ℕ
most_store = 16777216

-- the kinds
abbrev pub reply : ℕ
reply = 0

abbrev pub event : ℕ
event = 1

-- what a record holds
pub record Record : Type 0 where
  pub number : ℕ
  pub fds : ℕ
  pub kind : ℕ
  pub packet : List ℕ

abbrev pub held : ℕ → ℕ → ℕ → List ℕ → Record
held number fds kind packet = record { number = number; fds = fds; kind = kind; packet = packet }

-- a packet under its label
abbrev pub labelled : Label → List ℕ → Record
labelled l packet = held l.number l.fds l.kind packet

-- the bytes that it takes
abbrev pub cost : Record → ℕ
cost h = header_size + length h.packet

-- a record as bytes
unfoldable pub encoded : Record → List ℕ
encoded h = word 8 h.number ++ (word 4 (length h.packet) ++ (word 1 h.fds ++ (word 1 h.kind ++ (word 2 0 ++ h.packet))))

-- the most descriptors of a record: its count is one byte, and an event has none
unfoldable pub most_fds : ℕ → ℕ
most_fds kind = choose (eqb kind reply) 255 0

-- The number fits its field, the packet is of a length that is allowed, the kind is known, and there are no more descriptors than it allows.
pub record Fits (h : Record) : Type 0 where
  pub number : h.number < 2 ^ 64
  pub least : least_packet ≤ length h.packet
  pub most : length h.packet ≤ most_packet
  pub kind : h.kind ≤ event
  pub count : h.fds ≤ most_fds h.kind

-- the same, tested
unfoldable pub fits : Record → Bool
fits h =
    both (ltb h.number (2 ^ 64))
    (both (leb least_packet (length h.packet))
    (both (leb (length h.packet) most_packet)
    (both (leb h.kind event) (leb h.fds (most_fds h.kind)))))

-- the fields of the record that bytes begin with
unfoldable pub num_of : List ℕ → ℕ
num_of x = field little_order number_at 8 x

unfoldable pub len_of : List ℕ → ℕ
len_of x = field little_order length_at 4 x

unfoldable pub fds_of : List ℕ → ℕ
fds_of x = field little_order count_at 1 x

unfoldable pub kind_of : List ℕ → ℕ
kind_of x = field little_order kind_at 1 x

unfoldable pub zero_of : List ℕ → ℕ
zero_of x = field little_order zero_at 2 x

-- the record that bytes begin with
unfoldable pub decoded : List ℕ → Record
decoded x = held (num_of x) (fds_of x) (kind_of x) (cut header_size (len_of x) x)

-- A reply made an event: it has no descriptors any more.
abbrev pub as_event : Record → Record
as_event h = held h.number 0 event h.packet

-- ---- laws

pub length_encoded : (h : Record) → length (encoded h) ≡ cost h
unfolding encoded
length_encoded h = simp (length-append, length_bytes_of) (omega arith)

-- the test is the sentence
pub fits_is : (h : Record) → fits h ≡ true → Fits h
unfolding fits
fits_is h t =
    let t₁ = both_right _ _ t in
    let t₂ = both_right _ _ t₁ in
    let t₃ = both_right _ _ t₂ in
    record {
      number = ltb-true h.number (2 ^ 64) (both_left _ _ t);
      least = leb-true least_packet (length h.packet) (both_left _ _ t₁);
      most = leb-true (length h.packet) most_packet (both_left _ _ t₂);
      kind = leb-true h.kind event (both_left _ _ t₃);
      count = leb-true h.fds (most_fds h.kind) (both_right _ _ t₃);
    }

pub fits_so : (h : Record) → Fits h → fits h ≡ true
unfolding fits
fits_so h f =
    both_yes _ _ (lt-ltb h.number (2 ^ 64) f.number)
    (both_yes _ _ (le-leb least_packet (length h.packet) f.least)
    (both_yes _ _ (le-leb (length h.packet) most_packet f.most)
    (both_yes _ _ (le-leb h.kind event f.kind) (le-leb h.fds (most_fds h.kind) f.count))))

-- A packet of a length that is allowed fits as a reply with a count of one byte, and as an event without descriptors.
pub fits_reply : (number fds : ℕ) (p : List ℕ) → number < 2 ^ 64 → fds < 256 → least_packet ≤ length p → length p ≤ most_packet → Fits (held number fds reply p)
unfolding most_fds choose
fits_reply number fds p n f l m = record { number = n; least = l; most = m; kind = omega arith; count = omega arith }

pub fits_event : (number : ℕ) (p : List ℕ) → number < 2 ^ 64 → least_packet ≤ length p → length p ≤ most_packet → Fits (held number 0 event p)
fits_event number p n l m = record { number = n; least = l; most = m; kind = omega arith; count = omega arith }

-- one byte holds the count
pub most_fds_byte : (kind : ℕ) → most_fds kind ≤ 255
unfolding most_fds choose
most_fds_byte kind = go (eqb kind reply)
  where
    go : (b : Bool) → choose b 255 0 ≤ 255
    go true = omega arith
    go false = omega arith

-- Read after write: a record that fits is read back from its bytes, whatever stands behind them.
module _ (h : Record) (f : Fits h) (x : List ℕ) where
  row : encoded h ++ x ≡ word 8 h.number ++ (word 4 (length h.packet) ++ (word 1 h.fds ++ (word 1 h.kind ++ (word 2 0 ++ (h.packet ++ x)))))
  unfolding encoded
  row = simp append_assoc

  -- past the number, past the length, past the count and past the kind
  row_field : (at n : ℕ) (y : ℕ) → field little_order at n (word 8 h.number ++ (word 4 (length h.packet) ++ (word 1 h.fds ++ (word 1 h.kind ++ (word 2 0 ++ (h.packet ++ x)))))) ≡ y → field little_order at n (encoded h ++ x) ≡ y
  row_field at n y e = ap (field little_order at n) row ∙ e

  pub num_of_encoded : num_of (encoded h ++ x) ≡ h.number
  unfolding num_of
  num_of_encoded = row_field number_at 8 _ (field_first 8 h.number _ f.number)

  pub len_of_encoded : len_of (encoded h ++ x) ≡ length h.packet
  unfolding len_of
  len_of_encoded = row_field length_at 4 _ (field_skip 8 h.number 0 4 _ ∙ field_first 4 (length h.packet) _ (omega (arith, f.most)))

  past_length : (k n : ℕ) → field little_order (8 + (4 + k)) n (encoded h ++ x) ≡ field little_order k n (word 1 h.fds ++ (word 1 h.kind ++ (word 2 0 ++ (h.packet ++ x))))
  past_length k n = row_field (8 + (4 + k)) n _ (field_skip 8 h.number (4 + k) n _ ∙ field_skip 4 (length h.packet) k n _)

  pub fds_of_encoded : fds_of (encoded h ++ x) ≡ h.fds
  unfolding fds_of
  fds_of_encoded = past_length 0 1 ∙ field_first 1 h.fds _ (omega (arith, f.count, most_fds_byte h.kind))

  pub kind_of_encoded : kind_of (encoded h ++ x) ≡ h.kind
  unfolding kind_of
  kind_of_encoded = past_length 1 1 ∙ field_skip 1 h.fds 0 1 _ ∙ field_first 1 h.kind _ (omega (arith, f.kind))

  pub zero_of_encoded : zero_of (encoded h ++ x) ≡ 0
  unfolding zero_of
  zero_of_encoded = past_length 2 2 ∙ field_skip 1 h.fds 1 2 _ ∙ field_skip 1 h.kind 0 2 _ ∙ field_first 2 0 _ (omega arith)

  pub packet_encoded : cut header_size (length h.packet) (encoded h ++ x) ≡ h.packet
  packet_encoded =
      ap (cut header_size (length h.packet)) row
      ∙ cut_skip (word 8 h.number) _ 8 8 (length h.packet) (length_bytes_of _ _ _)
      ∙ cut_skip (word 4 (length h.packet)) _ 4 4 (length h.packet) (length_bytes_of _ _ _)
      ∙ cut_skip (word 1 h.fds) _ 1 3 (length h.packet) (length_bytes_of _ _ _)
      ∙ cut_skip (word 1 h.kind) _ 1 2 (length h.packet) (length_bytes_of _ _ _)
      ∙ cut_skip (word 2 0) _ 2 0 (length h.packet) (length_bytes_of _ _ _)
      ∙ cut_first h.packet x (length h.packet) refl

  pub decoded_encoded : decoded (encoded h ++ x) ≡ h
  unfolding decoded
  decoded_encoded =
      λ k. held (num_of_encoded k) (fds_of_encoded k) (kind_of_encoded k) ((ap (λ (n : ℕ). cut header_size n (encoded h ++ x)) len_of_encoded ∙ packet_encoded) k)

-- Write after read: bytes that begin with a whole record, zero where they must be, begin with what that record is written as.
module _ (x : List ℕ) (o : Octets x) where
  word_field : (at n : ℕ) → at + n ≤ length x → word n (field little_order at n x) ≡ cut at n x
  unfolding field
  word_field at n h = word_number (cut at n x) n (length_cut at n x h) (octets_cut at n x o)

  pub encoded_decoded : header_size + len_of x ≤ length x → zero_of x ≡ 0 → encoded (decoded x) ≡ cut 0 (header_size + len_of x) x
  unfolding encoded decoded num_of len_of fds_of kind_of zero_of
  encoded_decoded h z =
      let n : ℕ = len_of x in
      let l : length (cut header_size n x) ≡ n = length_cut header_size n x h in
      let whole : cut 0 (header_size + n) x ≡ cut number_at 8 x ++ (cut length_at 4 x ++ (cut count_at 1 x ++ (cut kind_at 1 x ++ (cut zero_at 2 x ++ cut header_size n x)))) =
      cut_add 0 header_size n x
      ∙ ap (λ (l : List ℕ). l ++ cut header_size n x)
      (cut_add number_at 8 8 x
      ∙ ap (λ (l : List ℕ). cut number_at 8 x ++ l)
      (cut_add length_at 4 4 x ∙ ap (λ (l : List ℕ). cut length_at 4 x ++ l) (cut_add count_at 1 3 x ∙ ap (λ (l : List ℕ). cut count_at 1 x ++ l) (cut_add kind_at 1 2 x))))
      ∙ simp append_assoc in
      (λ k.
      word_field number_at 8 (omega arith) k
      ++ ((ap (word 4) l ∙ word_field length_at 4 (omega arith)) k
      ++ (word_field count_at 1 (omega arith) k ++ (word_field kind_at 1 (omega arith) k ++ ((ap (word 2) (sym z) ∙ word_field zero_at 2 (omega arith)) k ++ cut header_size n x)))))
      ∙ sym whole

-- A record is made an event by two bytes.
pub encoded_event : (h : Record) → put (encoded h) count_at (0 ∷ event ∷ []) ≡ encoded (as_event h)
unfolding encoded
encoded_event h =
    let a : List ℕ = word 8 h.number ++ word 4 (length h.packet) in
    let b : List ℕ = word 1 h.fds ++ word 1 h.kind in
    let c : List ℕ = word 2 0 ++ h.packet in
    let w : encoded h ≡ a ++ (b ++ c) = simp append_assoc in
    let two : 0 ∷ event ∷ [] ≡ word 1 0 ++ word 1 event = sym (λ k. bytes_one little_order 0 k ++ bytes_one little_order event k) in
    ap (λ (l : List ℕ). put l count_at (0 ∷ event ∷ [])) w
    ∙ put_parts a b c count_at (0 ∷ event ∷ []) (simp (length-append, length_bytes_of)) (simp (length-append, length_bytes_of))
    ∙ ap (λ (l : List ℕ). a ++ (l ++ c)) two
    ∙ simp append_assoc

pub put_two : (s : List ℕ) (at fds kind : ℕ) → at + header_size ≤ length s → set (set s (at + count_at) fds) (at + kind_at) kind ≡ put s (at + count_at) (fds ∷ kind ∷ [])
put_two s at fds kind h =
    let e : at + kind_at ≡ at + count_at + 1 = omega arith in
    ap (λ (i : ℕ). set (set s (at + count_at) fds) i kind) e ∙ set_two s (at + count_at) fds kind (omega arith)

-- Its fields written one after the other are the record.
pub put_encoded : (s s₁ s₂ s₃ s₄ s₅ : List ℕ) (at number n fds kind : ℕ) (p : List ℕ) → s₁ ≡ put_field little_order s (at + number_at) 8 number → s₂ ≡ put_field little_order s₁ (at + length_at) 4 n
    → s₃ ≡ put s₂ (at + count_at) (fds ∷ kind ∷ []) → s₄ ≡ put_field little_order s₃ (at + zero_at) 2 0 → s₅ ≡ put s₄ (at + header_size) p → n ≡ length p → fds < 256 → kind < 256
    → at + header_size + length p ≤ length s → s₅ ≡ put s at (encoded (held number fds kind p))
unfolding encoded put_field
put_encoded s s₁ s₂ s₃ s₄ s₅ at number n fds kind p a b c d e l f g room =
    let two : fds ∷ kind ∷ [] ≡ word 1 fds ++ word 1 kind =
    sym ((λ k. bytes_one little_order fds k ++ bytes_one little_order kind k) ∙ (λ k. mod_byte fds f k ∷ mod_byte kind g k ∷ [])) in
    let l8 : length (word 8 number) ≡ 8 = length_bytes_of little_order 8 number in
    let l4 : length (word 4 n) ≡ 4 = length_bytes_of little_order 4 n in
    let l2 : length (word 2 0) ≡ 2 = length_bytes_of little_order 2 0 in
    let q₁ : s₁ ≡ put s at (word 8 number) = put_next s s s₁ at number_at [] (word 8 number) (sym (put_none s at)) refl a (omega arith) in
    let q₂ : s₂ ≡ put s at (word 8 number ++ word 4 n) = put_next s s₁ s₂ at length_at _ _ q₁ l8 b (omega arith) in
    let q₃ : s₃ ≡ put s at (word 8 number ++ word 4 n ++ (fds ∷ kind ∷ [])) = put_next s s₂ s₃ at count_at _ _ q₂ (simp (length-append, length_bytes_of)) c (omega arith) in
    let q₄ : s₄ ≡ put s at (word 8 number ++ word 4 n ++ (fds ∷ kind ∷ []) ++ word 2 0) = put_next s s₃ s₄ at zero_at _ _ q₃ (simp (length-append, length_bytes_of)) d (omega arith) in
    let q₅ : s₅ ≡ put s at (word 8 number ++ word 4 n ++ (fds ∷ kind ∷ []) ++ word 2 0 ++ p) = put_next s s₄ s₅ at header_size _ _ q₄ (simp (length-append, length_bytes_of)) e room in
    q₅ ∙ (λ k. put s at (word 8 number ++ word 4 (l k) ++ two k ++ word 2 0 ++ p)) ∙ ap (put s at) (simp append_assoc)
  where
    mod_byte : (x : ℕ) → x < 256 → x % 256 ≡ x
    mod_byte x h = omega arith
