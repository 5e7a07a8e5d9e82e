-- XC-MISC, Encoding: the requests. Assumes nothing.
use Rattle.std.specs.Prelude.{◌≡◌, refl, not, List, [], ◌∷◌, ◌++◌, ℕ, suc, ◌≤◌, ltb, length, set, Result}
use Rattle.std.proofs.Common.{sym, ap, ◌∙◌, append_assoc, arith, length-append, ltb-false}
use Rattle.octets.specs.Bytes.{legal, bytes_of, length_bytes_of}
use Rattle.octets.specs.Field.{put_field}
use Rattle.octets.specs.Put.{put, put_more, set_two, length_put}
use Rattle.octets.specs.Lent.{leaves}
use Rattle.refusal.specs.Answer.{Answer, gives, refuses, refuse, gives_past, gives_rest, says, says_one}
use Rattle.refusal.specs.declared.Refusal.{Refusal}

-- The extension's opcode, the request's own, and the length of the request in units of four bytes.
unfoldable pub header : ℕ → ℕ → ℕ → ℕ → List ℕ
header o opcode minor units = opcode ∷ minor ∷ bytes_of o 2 units

-- XCMiscGetVersion: opcode 0, two units, client_major_version, client_minor_version
unfoldable pub get_version : ℕ → ℕ → ℕ → ℕ → List ℕ
get_version o opcode major minor = header o opcode 0 2 ++ (bytes_of o 2 major ++ bytes_of o 2 minor)

-- XCMiscGetXIDRange: opcode 1, one unit
abbrev pub get_xid_range : ℕ → ℕ → List ℕ
get_xid_range o opcode = header o opcode 1 1

-- XCMiscGetXIDList: opcode 2, two units, count
unfoldable pub get_xid_list : ℕ → ℕ → ℕ → List ℕ
get_xid_list o opcode count = header o opcode 2 2 ++ bytes_of o 4 count

-- 01, Refusal numbers, "elsewhere 9, then by number": 8 where the output is too small, then 13; otherwise the bytes that are needed
unfoldable pub room_for : ℕ → ℕ → ℕ → Answer ℕ
room_for o have need = refuse (ltb have need) 8 (refuse (not (legal o)) 13 (gives need))

-- A call that writes a request: its answer, and the output that it leaves.
pub record Writes (o : ℕ) (request before : List ℕ) (a : Answer ℕ) (left : List ℕ) : Type 0 where
  pub answers : a ≡ room_for o (length before) (length request)
  pub left_is : left ≡ leaves a request before

-- what the result says
abbrev pub says_written : Result ℕ Refusal → Answer ℕ
says_written = says (λ n. n)

-- ---- laws

pub length_header : (o opcode minor units : ℕ) → length (header o opcode minor units) ≡ 4
unfolding header
length_header o opcode minor units = ap (λ (n : ℕ). suc (suc n)) (length_bytes_of o 2 units)

pub length_get_version : (o opcode major minor : ℕ) → length (get_version o opcode major minor) ≡ 8
unfolding get_version
length_get_version o opcode major minor =
    simp (length-append, length_header, length_bytes_of)

pub length_get_xid_range : (o opcode : ℕ) → length (get_xid_range o opcode) ≡ 4
length_get_xid_range o opcode = length_header o opcode 1 1

pub length_get_xid_list : (o opcode count : ℕ) → length (get_xid_list o opcode count) ≡ 8
unfolding get_xid_list
length_get_xid_list o opcode count = simp (length-append, length_header, length_bytes_of)

-- each request is written piece by piece
pub put_header : (o opcode minor units : ℕ) (s t : List ℕ) → 4 ≤ length s → t ≡ put_field o (set (set s 0 opcode) 1 minor) 2 2 units → t ≡ put s 0 (header o opcode minor units)
unfolding put_field header
put_header o opcode minor units s t h e =
    let l : length (bytes_of o 2 units) ≡ 2 = length_bytes_of o 2 units in
    put_more s (set (set s 0 opcode) 1 minor) t 2 (opcode ∷ minor ∷ []) (bytes_of o 2 units) refl (omega arith) (set_two s 0 opcode minor (omega arith)) e

pub put_header_length : (o opcode minor units : ℕ) (s t : List ℕ) → 4 ≤ length s → t ≡ put_field o (set (set s 0 opcode) 1 minor) 2 2 units → length t ≡ length s
put_header_length o opcode minor units s t h e =
    let l : length (header o opcode minor units) ≡ 4 = length_header o opcode minor units in
    ap length (put_header o opcode minor units s t h e) ∙ length_put s 0 (header o opcode minor units) (omega arith)

pub put_version : (o opcode major minor : ℕ) (s s₁ s₂ s₃ : List ℕ) → 8 ≤ length s → s₁ ≡ put s 0 (header o opcode 0 2) → s₂ ≡ put_field o s₁ 4 2 major
    → s₃ ≡ put_field o s₂ 6 2 minor → s₃ ≡ put s 0 (get_version o opcode major minor)
unfolding put_field get_version
put_version o opcode major minor s s₁ s₂ s₃ h p q r =
    let H : List ℕ = header o opcode 0 2 in
    let l : length H ≡ 4 = length_header o opcode 0 2 in
    let m : length (bytes_of o 2 major) ≡ 2 = length_bytes_of o 2 major in
    let n : length (bytes_of o 2 minor) ≡ 2 = length_bytes_of o 2 minor in
    let k : length (H ++ bytes_of o 2 major) ≡ 6 = omega (arith, length-append H (bytes_of o 2 major)) in
    put_more s s₂ s₃ 6 (H ++ bytes_of o 2 major) (bytes_of o 2 minor) k (omega arith) (put_more s s₁ s₂ 4 H (bytes_of o 2 major) l (omega arith) p q) r
    ∙ ap (put s 0) (append_assoc H (bytes_of o 2 major) (bytes_of o 2 minor))

pub put_list : (o opcode count : ℕ) (s s₁ s₂ : List ℕ) → 8 ≤ length s → s₁ ≡ put s 0 (header o opcode 2 2) → s₂ ≡ put_field o s₁ 4 4 count → s₂ ≡ put s 0 (get_xid_list o opcode count)
unfolding put_field get_xid_list
put_list o opcode count s s₁ s₂ h p q =
    let l : length (bytes_of o 4 count) ≡ 4 = length_bytes_of o 4 count in
    put_more s s₁ s₂ 4 (header o opcode 2 2) (bytes_of o 4 count) (length_header o opcode 2 2) (omega arith) p q

-- an output that passed has room
pub room_there : (o have need : ℕ) {n : ℕ} → gives n ≡ room_for o have need → (need ≤ have) × (n ≡ need)
unfolding room_for
room_there o have need e =
    let q = gives_rest _ _ _ e in let f = gives_rest _ _ _ q in (ltb-false _ _ (gives_past _ _ _ e), cc)

-- A request is written where the room was found, and nothing is where it was not.
pub writes_given : (o : ℕ) (request before left : List ℕ) (need n : ℕ) → length request ≡ need → gives n ≡ room_for o (length before) need → left ≡ put before 0 request
    → Writes o request before (gives n) left
writes_given o request before left need n l e p = record { answers = e ∙ ap (room_for o (length before)) (sym l); left_is = p }

pub writes_refused : (o : ℕ) (request before : List ℕ) (need n : ℕ) → length request ≡ need → refuses n ≡ room_for o (length before) need → Writes o request before (refuses n) before
writes_refused o request before need n l e = record { answers = e ∙ ap (room_for o (length before)) (sym l); left_is = refl }

-- Two answers that say the same are equal.

pub written_one : (a b : Result ℕ Refusal) → says_written a ≡ says_written b → a ≡ b
written_one = says_one _ (λ n. n) (λ x. refl)

-- So any two outcomes of a call that writes a request are equal, its answer and the output that it leaves.
pub writes_one : {o : ℕ} {request before u v : List ℕ} (a b : Result ℕ Refusal) → Writes o request before (says_written a) u → Writes o request before (says_written b) v → (a ≡ b) × (u ≡ v)
writes_one {request = request} {before = before} a b p q =
    let e : says_written a ≡ says_written b = p.answers ∙ sym q.answers in
    (written_one a b e, p.left_is ∙ ap (λ (k : Answer ℕ). leaves k request before) e ∙ sym q.left_is)
