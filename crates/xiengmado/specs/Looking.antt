-- What is seen of the rooms of a connection. Assumes nothing.
use Rattle.std.specs.Prelude.{◌≡◌, refl, true, false, cond, not, List, [], ◌∷◌, ℕ, ◌+◌, ◌-◌, ◌≤◌, length, drop}
use Rattle.std.proofs.Common.{sym, ap, ◌∙◌, arith}
use Rattle.octets.specs.Put.{cut}
use Rattle.refusal.specs.Answer.{Answer, gives, refuses, refuse}
use Rattle.requests.specs.Room.{sized, capacity, request_at}
use Rattle.requests.specs.declared.Request.{Request}
use Rattle.held.specs.Head.{Record, decoded, cost, header_size, num_of, len_of, fds_of, kind_of}
use Rattle.held.specs.Front.{Begins, Stands, begins_stands}
use Rattle.answers.specs.Shown.{mode_number, kind_number}

-- The request of a number: 9 for a room that is none.
unfoldable pub request_kept : List ℕ → ℕ → Answer Request
request_kept room n = refuse (not (sized (capacity room) room)) 9 (gives (request_at room n))

-- 1 where its reply has descriptors, and its mode
abbrev pub request_fields : Request → List ℕ
request_fields q = cond q.descriptors 1 0 ∷ mode_number q.mode ∷ []

-- The record that the bytes from an index up to an end begin with, or 9 where they begin with none or are not there.
pub data Looks (s : List ℕ) (at end : ℕ) : Answer Record → Type 0 where
  here : at ≤ end → end ≤ length s → Begins (cut at (end - at) s) → Looks s at end (gives (decoded (cut at (end - at) s)))
  nowhere : (at ≤ end → end ≤ length s → Begins (cut at (end - at) s) → ⊥) → Looks s at end (refuses 9)

-- its kind, its number, the length of its packet and its descriptors
abbrev pub record_fields : Record → List ℕ
record_fields h = kind_number h.kind ∷ h.number ∷ length h.packet ∷ h.fds ∷ []

-- ---- laws

pub kept_none : (room : List ℕ) (n : ℕ) {k : ℕ} → k ≡ capacity room → sized k room ≡ false → refuses 9 ≡ request_kept room n
unfolding request_kept refuse
kept_none room n e h = let q : sized (capacity room) room ≡ false = ap (λ (m : ℕ). sized m room) (sym e) ∙ h in simp q

pub kept_some : (room : List ℕ) (n : ℕ) {k : ℕ} → k ≡ capacity room → sized k room ≡ true → gives (request_at room n) ≡ request_kept room n
unfolding request_kept refuse
kept_some room n e h = let q : sized (capacity room) room ≡ true = ap (λ (m : ℕ). sized m room) (sym e) ∙ h in simp q

-- Any two answers that looking may give are equal.
pub looks_one : {s : List ℕ} {at end : ℕ} (a b : Answer Record) → Looks s at end a → Looks s at end b → a ≡ b
looks_one a b (here p q r) (here k l m) = refl
looks_one a b (here p q r) (nowhere h) = absurd (h p q r)
looks_one a b (nowhere h) (here p q r) = absurd (h p q r)
looks_one a b (nowhere h) (nowhere k) = refl

-- what is read at an index where a record stands
module _ (s : List ℕ) (at end : ℕ) (low : at ≤ end) (high : end ≤ length s) (b : Begins (cut at (end - at) s)) where
  found : Stands s at (end - at) (decoded (cut at (end - at) s)) (drop (cost (decoded (cut at (end - at) s))) (cut at (end - at) s))
  found = begins_stands s at (end - at) (omega arith) b

  pub header_there : at + header_size ≤ length s
  header_there = omega (arith, found.least, found.most)

  pub looked : (k n l f : ℕ) → k ≡ kind_number (kind_of (drop at s)) → n ≡ num_of (drop at s) → l ≡ len_of (drop at s) → f ≡ fds_of (drop at s) → k ∷ n ∷ l ∷ f ∷ [] ≡ record_fields (decoded (cut at (end - at) s))
  looked k n l f p q r t = cc (p ∙ ap kind_number found.kind, q ∙ found.number, r ∙ found.len, t ∙ found.fds)
