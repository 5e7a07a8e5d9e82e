-- What is certain of a setup request. Assumes nothing.
use Rattle.std.specs.Prelude.{◌≡◌}
use Rattle.std.proofs.Math.Path.{refl, sym, ap}
use Rattle.std.proofs.Common.{◌∙◌, arith}
use mathlib.Core.List.{List, [], ◌∷◌, ◌++◌, append_assoc}
use Prim.Native.Nat.{ℕ, ◌+◌, ◌%◌, ◌≤◌}
use Rattle.std.proofs.Math.ListN.{length, get_or, length-append}
use Rattle.octets.specs.Logic.{either}
use Rattle.octets.specs.Bytes.{legal, bytes_of, number_in, length_bytes_of, number_bytes}
use Rattle.octets.specs.Put.{cut, cut_parts}
use Rattle.octets.specs.Field.{field}
use Rattle.refusal.specs.Answer.{refuses, refuse}
use Rattle.setup_request.specs.Pad.{pad, zeros, padded, length_padded, pad_four}
use Rattle.setup_request.specs.Request.{major_version, minor_version, name_at, most_text, opening, setup_request, room_for, size, length_head, length_request}

-- ---- a server that reads the request by Core's layout finds what was handed in

-- what stands in the bytes r of a request
pub record ReadsBack (o : ℕ) (name «data» r : List ℕ) : Type 0 where
  pub order_first : get_or r 0 0 ≡ o
  pub major : field o 2 2 r ≡ major_version
  pub minor : field o 4 2 r ≡ minor_version
  pub name_length : field o 6 2 r ≡ length name
  pub data_length : field o 8 2 r ≡ length «data»
  pub name_is : cut name_at (length name) r ≡ name
  pub data_is : cut (name_at + (length name + pad (length name))) (length «data») r ≡ «data»
  pub in_fours : length r % 4 ≡ 0

-- a field that stands between two parts is read as it was written
read_field : (o at x : ℕ) (a c r : List ℕ) → length a ≡ at → x ≤ most_text → r ≡ a ++ (bytes_of o 2 x ++ c) → field o at 2 r ≡ x
unfolding field
read_field o at x a c r l h e =
    ap (λ (y : List ℕ). number_in o (cut at 2 y)) e ∙ ap (number_in o) (cut_parts a (bytes_of o 2 x) c at 2 l (length_bytes_of o 2 x)) ∙ number_bytes o 2 x (omega arith)

-- a text that stands between two parts
read_text : (at : ℕ) (a x c r : List ℕ) → length a ≡ at → r ≡ a ++ (x ++ c) → cut at (length x) r ≡ x
read_text at a x c r l e = ap (λ (y : List ℕ). cut at (length x) y) e ∙ cut_parts a x c at (length x) l refl

module _ (o : ℕ) (m d : List ℕ) (h : length m ≤ most_text) (k : length d ≤ most_text) where
  A : List ℕ
  A = o ∷ 0 ∷ []

  M : List ℕ
  M = bytes_of o 2 major_version

  W : List ℕ
  W = bytes_of o 2 minor_version

  N : List ℕ
  N = bytes_of o 2 (length m)

  D : List ℕ
  D = bytes_of o 2 (length d)

  T : List ℕ
  T = zeros 2 ++ (padded m ++ padded d)

  parts : setup_request o m d ≡ A ++ (M ++ (W ++ (N ++ (D ++ T))))
  unfolding setup_request opening A M W N D T
  parts = simp append_assoc

  pub reads_back : ReadsBack o m d (setup_request o m d)
  unfolding setup_request padded A M W N D T size
  reads_back =
      let lm : length M ≡ 2 = length_bytes_of o 2 major_version in
      let lw : length W ≡ 2 = length_bytes_of o 2 minor_version in
      let ln : length N ≡ 2 = length_bytes_of o 2 (length m) in
      let H : List ℕ = opening o (length m) (length d) in
      let lh : length H ≡ name_at = length_head o (length m) (length d) in
      let Z : List ℕ = zeros (pad (length m)) in
      let e₁ = parts ∙ sym (append_assoc A M (W ++ (N ++ (D ++ T)))) in
      let e₂ = e₁ ∙ sym (append_assoc (A ++ M) W (N ++ (D ++ T))) in
      let e₃ = e₂ ∙ sym (append_assoc (A ++ M ++ W) N (D ++ T)) in
      let l₁ : length (A ++ M) ≡ 4 = omega (arith, length-append A M) in
      let l₂ : length (A ++ M ++ W) ≡ 6 = omega (arith, length-append (A ++ M) W) in
      let l₃ : length (A ++ M ++ W ++ N) ≡ 8 = omega (arith, length-append (A ++ M ++ W) N) in
      let l₄ : length (H ++ padded m) ≡ name_at + (length m + pad (length m)) = omega (arith, length-append H (padded m), length_padded m) in
      record {
        order_first = ap (λ (r : List ℕ). get_or r 0 0) parts;
        major = read_field o 2 major_version A _ _ refl (omega arith) parts;
        minor = read_field o 4 minor_version (A ++ M) _ _ l₁ (omega arith) e₁;
        name_length = read_field o 6 (length m) (A ++ M ++ W) _ _ l₂ h e₂;
        data_length = read_field o 8 (length d) (A ++ M ++ W ++ N) _ _ l₃ k e₃;
        name_is = read_text name_at H m (Z ++ padded d) _ lh (ap (λ (y : List ℕ). H ++ y) (append_assoc m Z (padded d)));
        data_is = read_text _ (H ++ padded m) d (zeros (pad (length d))) _ l₄ (sym (append_assoc H (padded m) (padded d)));
        in_fours = omega (arith, length_request o m d, pad_four (length m), pad_four (length d));
      }

-- ---- 01, Refusal numbers, the order of refusals: "setup request 13, 16, 8"; where two apply, the first is given

pub request_order : (room_for 0 65536 0 0 12 ≡ refuses 13) × (room_for 108 65536 0 0 12 ≡ refuses 16) × (room_for 108 0 65536 0 12 ≡ refuses 16) × (room_for 108 65535 65535 0 12 ≡ refuses 8)
unfolding room_for legal refuse either
request_order = (refl, refl, refl, refl)
