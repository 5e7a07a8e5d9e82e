-- Core, Encoding, Connection Setup: the information sent by the client. Assumes nothing.
--
--      1                       byte-order
--           #x42     MSB first
--           #x6C     LSB first
--      1                       unused
--      2     CARD16            protocol-major-version
--      2     CARD16            protocol-minor-version
--      2     n                 length of authorization-protocol-name
--      2     d                 length of authorization-protocol-data
--      2                       unused
--      n     STRING8           authorization-protocol-name
--      p                       unused, p=pad(n)
--      d     STRING8           authorization-protocol-data
--      q                       unused, q=pad(d)
use Rattle.std.specs.Prelude.{◌≡◌, refl, not, List, [], ◌∷◌, ◌++◌, ℕ, ◌+◌, ◌≤◌, ltb, length, Result}
use Rattle.std.proofs.Common.{sym, ap, ◌∙◌, append_assoc, arith, length-append, ltb-false}
use Rattle.octets.specs.Logic.{either, either_left, either_right}
use Rattle.octets.specs.Bytes.{legal, bytes_of, length_bytes_of}
use Rattle.octets.specs.Field.{put_field}
use Rattle.octets.specs.Put.{put, put_more}
use Rattle.octets.specs.Lent.{leaves}
use Rattle.refusal.specs.Answer.{Answer, gives, refuses, refuse, gives_past, gives_rest, says, says_one}
use Rattle.setup_request.specs.Pad.{pad, zeros, padded, length_zeros, length_padded}
use Rattle.refusal.specs.declared.Refusal.{Refusal}

-- 01, Framing and handshake: the client speaks version 11, 0
abbrev pub major_version : ℕ
major_version = 11

abbrev pub minor_version : ℕ
minor_version = 0

-- where the name starts
abbrev pub name_at : ℕ
name_at = 12

-- 01, Refusal numbers: the most bytes of the name and of the data, what 16 bits can count
abbrev pub most_text : ℕ
most_text = 65535

-- what stands before the name, for a name of n bytes and data of d
unfoldable pub opening : ℕ → ℕ → ℕ → List ℕ
opening o n d =
    o ∷ 0 ∷ (bytes_of o 2 major_version ++ (bytes_of o 2 minor_version ++ (bytes_of o 2 n ++ (bytes_of o 2 d ++ zeros 2))))

unfoldable pub setup_request : ℕ → List ℕ → List ℕ → List ℕ
setup_request o name «data» = opening o (length name) (length «data») ++ (padded name ++ padded «data»)

-- 13, 16 for a name of n bytes or data of d, 8 where the output is too small; otherwise the bytes that are needed
unfoldable pub room_for : ℕ → ℕ → ℕ → ℕ → ℕ → Answer ℕ
room_for o n d have need =
    refuse (not (legal o)) 13
    (refuse (either (ltb most_text n) (ltb most_text d)) 16
    (refuse (ltb have need) 8
    (gives need)))

-- A call that writes the request: its answer, and the output that it leaves.
pub record Writes (o : ℕ) (name «data» before : List ℕ) (a : Answer ℕ) (left : List ℕ) : Type 0 where
  pub answers : a ≡ room_for o (length name) (length «data») (length before) (length (setup_request o name «data»))
  pub left_is : left ≡ leaves a (setup_request o name «data») before

-- what the result says
abbrev pub says_written : Result ℕ Refusal → Answer ℕ
says_written = says (λ n. n)

-- ---- laws

-- how long a request is
unfoldable pub size : ℕ → ℕ → ℕ
size n d = name_at + (n + pad n) + (d + pad d)

pub length_head : (o n d : ℕ) → length (opening o n d) ≡ name_at
unfolding opening zeros
length_head o n d = simp (length-append, length_bytes_of)

pub length_request : (o : ℕ) (m d : List ℕ) → length (setup_request o m d) ≡ size (length m) (length d)
unfolding setup_request size
length_request o m d = simp (length-append, length_head, length_padded) (omega arith)

-- the head is written field by field,
pub put_head : (o n d : ℕ) (s s₀ s₁ s₂ s₃ s₄ s₅ : List ℕ) → name_at ≤ length s → s₀ ≡ put s 0 (o ∷ 0 ∷ []) → s₁ ≡ put_field o s₀ 2 2 major_version → s₂ ≡ put_field o s₁ 4 2 minor_version
    → s₃ ≡ put_field o s₂ 6 2 n → s₄ ≡ put_field o s₃ 8 2 d → s₅ ≡ put s₄ 10 (zeros 2) → s₅ ≡ put s 0 (opening o n d)
unfolding put_field opening
put_head o n d s s₀ s₁ s₂ s₃ s₄ s₅ h p q r t u v =
    let A : List ℕ = o ∷ 0 ∷ [] in
    let M : List ℕ = bytes_of o 2 major_version in
    let W : List ℕ = bytes_of o 2 minor_version in
    let N : List ℕ = bytes_of o 2 n in
    let D : List ℕ = bytes_of o 2 d in
    let lm : length M ≡ 2 = length_bytes_of o 2 major_version in
    let lv : length W ≡ 2 = length_bytes_of o 2 minor_version in
    let ln : length N ≡ 2 = length_bytes_of o 2 n in
    let ld : length D ≡ 2 = length_bytes_of o 2 d in
    let lz : length (zeros 2) ≡ 2 = length_zeros 2 in
    let l₁ : length (A ++ M) ≡ 4 = omega (arith, length-append A M) in
    let l₂ : length ((A ++ M) ++ W) ≡ 6 = omega (arith, length-append (A ++ M) W) in
    let l₃ : length (((A ++ M) ++ W) ++ N) ≡ 8 = omega (arith, length-append ((A ++ M) ++ W) N) in
    let l₄ : length ((((A ++ M) ++ W) ++ N) ++ D) ≡ 10 = omega (arith, length-append (((A ++ M) ++ W) ++ N) D) in
    let e₁ : s₁ ≡ put s 0 (A ++ M) = put_more s s₀ s₁ 2 A M refl (omega arith) p q in
    let e₂ : s₂ ≡ put s 0 ((A ++ M) ++ W) = put_more s s₁ s₂ 4 (A ++ M) W l₁ (omega arith) e₁ r in
    let e₃ : s₃ ≡ put s 0 (((A ++ M) ++ W) ++ N) = put_more s s₂ s₃ 6 ((A ++ M) ++ W) N l₂ (omega arith) e₂ t in
    let e₄ : s₄ ≡ put s 0 ((((A ++ M) ++ W) ++ N) ++ D) = put_more s s₃ s₄ 8 (((A ++ M) ++ W) ++ N) D l₃ (omega arith) e₃ u in
    put_more s s₄ s₅ 10 ((((A ++ M) ++ W) ++ N) ++ D) (zeros 2) l₄ (omega arith) e₄ v ∙ ap (put s 0) (simp append_assoc)

-- and the request part by part.
pub put_request_lem : (o : ℕ) (m d s s₁ s₂ s₃ : List ℕ) (at : ℕ) → size (length m) (length d) ≤ length s → at ≡ name_at + length m + pad (length m) → s₁ ≡ put s 0 (opening o (length m) (length d))
    → s₂ ≡ put s₁ name_at (padded m) → s₃ ≡ put s₂ at (padded d) → s₃ ≡ put s 0 (setup_request o m d)
unfolding setup_request size
put_request_lem o m d s s₁ s₂ s₃ at h e p q r =
    let H : List ℕ = opening o (length m) (length d) in
    let lh : length H ≡ name_at = length_head o (length m) (length d) in
    let lm : length (padded m) ≡ length m + pad (length m) = length_padded m in
    let ld : length (padded d) ≡ length d + pad (length d) = length_padded d in
    let l : length (H ++ padded m) ≡ at = omega (arith, length-append H (padded m)) in
    put_more s s₂ s₃ at (H ++ padded m) (padded d) l (omega arith) (put_more s s₁ s₂ name_at H (padded m) lh (omega arith) p q) r
    ∙ ap (put s 0) (append_assoc H (padded m) (padded d))

-- what is known where there is room
pub record RoomThere (n d have need : ℕ) : Type 0 where
  pub name_fits : n ≤ most_text
  pub data_fits : d ≤ most_text
  pub out_fits : need ≤ have

pub room_there : (o n d have need : ℕ) {k : ℕ} → gives k ≡ room_for o n d have need → RoomThere n d have need
unfolding room_for
room_there o n d have need e =
    let f = gives_rest _ _ _ e in let g = gives_rest _ _ _ f in
    record {
      name_fits = ltb-false _ _ (either_left _ _ (gives_past _ _ _ f));
      data_fits = ltb-false _ _ (either_right _ _ (gives_past _ _ _ f));
      out_fits = ltb-false _ _ (gives_past _ _ _ g);
    }

-- The request is written where there was room, and nothing is where there was none.
pub writes_given : (o : ℕ) (m d before left : List ℕ) (n : ℕ) → gives n ≡ room_for o (length m) (length d) (length before) (size (length m) (length d)) → left ≡ put before 0 (setup_request o m d)
    → Writes o m d before (gives n) left
writes_given o m d before left n e p = record { answers = e ∙ ap (room_for o (length m) (length d) (length before)) (sym (length_request o m d)); left_is = p }

pub writes_refused : (o : ℕ) (m d before : List ℕ) (n : ℕ) → refuses n ≡ room_for o (length m) (length d) (length before) (size (length m) (length d)) → Writes o m d before (refuses n) before
writes_refused o m d before n e = record { answers = e ∙ ap (room_for o (length m) (length d) (length before)) (sym (length_request o m d)); left_is = refl }

-- Two answers that say the same are equal.

pub written_one : (a b : Result ℕ Refusal) → says_written a ≡ says_written b → a ≡ b
written_one = says_one _ (λ n. n) (λ x. refl)

-- So any two outcomes of `setup_request` are equal, its answer and the output that it leaves.
pub writes_one : {o : ℕ} {name «data» before u v : List ℕ} (a b : Result ℕ Refusal) → Writes o name «data» before (says_written a) u → Writes o name «data» before (says_written b) v → (a ≡ b) × (u ≡ v)
writes_one {o} {name = name} {«data» = d} {before = before} a b p q =
    let e : says_written a ≡ says_written b = p.answers ∙ sym q.answers in
    (written_one a b e, p.left_is ∙ ap (λ (k : Answer ℕ). leaves k (setup_request o name d) before) e ∙ sym q.left_is)
