-- What is laid into the rooms, by the bytes of a savepoint and the places of its sections. Assumes nothing.
use Rattle.std.specs.Prelude.{◌≡◌, refl, Bool, false, ℕ, ◌+◌, ◌-◌, ◌/◌, ◌%◌, ◌≤◌, ◌<◌, eqb, take, drop}
use Rattle.std.proofs.Math.Path.{sym, ap}
use Rattle.std.proofs.Common.{◌∙◌}
use mathlib.Core.List.{List, [], ◌∷◌, ◌++◌, map}
use native.Mathlib.Omega.{arith}
use Rattle.std.proofs.Math.ListN.{length, get_or}
use borrow.Author.Tests.{eq-eqb, ne_eqb}
use Rattle.octets.specs.Logic.{choose, both}
use Rattle.octets.specs.Bytes.{little_order}
use Rattle.octets.specs.Put.{put, cut, cut_ahead, cut_none, length_cut, put_more}
use Rattle.octets.specs.Field.{field}
use Rattle.sequence.specs.Numbering.{last_number}
use Rattle.packet_reader.specs.Frame.{aim}
use Rattle.packet_reader.specs.declared.PacketReader.{PacketReader}
use Rattle.requests.specs.Room.{capacity, put_request}
use Rattle.requests.specs.Theorems.{length_put, capacity_put}
use Rattle.requests.specs.declared.Request.{Request}
use Rattle.requests.specs.declared.Mode.{Mode}
use Rattle.requests.specs.declared.Mode.TheVariants.{Keep, DiscardReply, DiscardReplyAndError}
use Rattle.descriptors.specs.Room.{counted, most_descriptors}
use Rattle.model.specs.Reading.{Rooms}
use Rattle.model.specs.declared.Connection.{Connection}
use Rattle.savepoint.specs.Saved.{code_mode, code_request}
use Rattle.savepoint.specs.Calls.{put_all}
use Rattle.saving.specs.declared.Client.{Client}
use Rattle.saving.specs.declared.finding.Plan.{Plan}
use Rattle.saving.specs.Planned.{ids_at}

-- the bytes from one index to another
abbrev pub part : List ℕ → ℕ → ℕ → List ℕ
part s lo hi = cut lo (hi - lo) s

-- the number of the first outstanding request, where their section ends at an index
abbrev pub first_at : List ℕ → ℕ → ℕ
first_at s end = field little_order 4 8 s + 1 - (end - 76)

abbrev pub reader_at : List ℕ → Plan → PacketReader
reader_at s p =
    let filled = p.ids - (p.partial + 4) in
    let order = field little_order 56 8 s in
    let bytes = part s (p.partial + 4) p.ids in
    record { order = order; filled = filled; target = aim order bytes (length bytes) }

abbrev pub connection_at : List ℕ → Plan → Connection
connection_at s p = record {
  order = field little_order 32 8 s;
  capacity = field little_order 40 8 s;
  room = field little_order 48 8 s;
  written = field little_order 4 8 s;
  expected = field little_order 12 8 s;
  read = field little_order 20 8 s;
  first = first_at s p.replies;
  window = record { start = 0; end = p.partial - p.replies - 8 };
  counts = counted 0 0 0;
}

abbrev pub client_at : List ℕ → Plan → Client
client_at s p = record { connection = connection_at s p; reader = reader_at s p; ids = ids_at s p.ids }

-- rooms and buffer of the lengths saved
unfoldable pub fits_at : List ℕ → Rooms → List ℕ → Bool
fits_at s r b =
    both (eqb (capacity r.requests) (field little_order 40 8 s))
    (both (eqb (length r.store) (field little_order 48 8 s)) (both (eqb (length r.slots) most_descriptors) (eqb (length b) (field little_order 64 8 s))))

-- What is asked of a section of requests that ends at an index,
pub record Outstanding (s : List ℕ) (end : ℕ) : Type 0 where
  pub order : 76 ≤ end
  pub within : end ≤ length s
  pub written_most : field little_order 4 8 s ≤ last_number
  pub count_most : end - 76 ≤ field little_order 4 8 s

-- and of the places of all sections.
pub record Places (s : List ℕ) (p : Plan) : Type 0 where
  pub requests : Outstanding s p.replies
  pub replies : p.replies + 4 ≤ p.events
  pub events : p.events + 4 ≤ p.partial
  pub partial : p.partial + 4 ≤ p.ids
  pub ids : p.ids + 28 ≤ length s
  pub orders : field little_order 32 8 s < 256
  pub reader_orders : field little_order 56 8 s < 256

-- ---- the requests of codes

pub mode_keep : (n : ℕ) → n ≡ 0 → Keep ≡ code_mode n
unfolding code_mode choose
mode_keep n e = rw (eq-eqb n 0 e)

pub mode_reply : (n : ℕ) → n ≡ 1 → DiscardReply ≡ code_mode n
unfolding code_mode choose
mode_reply n e = rw (ne_eqb n 0 (λ z. omega arith), eq-eqb n 1 e)

pub mode_all : (n : ℕ) → (n ≡ 0 → ⊥) → (n ≡ 1 → ⊥) → DiscardReplyAndError ≡ code_mode n
unfolding code_mode choose
mode_all n z o = rw (ne_eqb n 0 z, ne_eqb n 1 o)

-- ---- the loop over them: the requests that are left, put, say what all say

pub record Filling (s : List ℕ) (end : ℕ) (room₀ : List ℕ) (room : List ℕ) (at : ℕ) : Type 0 where
  pub least : 76 ≤ at
  pub long : length room ≡ length room₀
  pub holds : capacity room ≡ capacity room₀
  pub says : put_all room (first_at s end + (at - 76)) (map code_request (part s at end)) ≡ put_all room₀ (first_at s end) (map code_request (part s 76 end))

module _ (s : List ℕ) (end : ℕ) (O : Outstanding s end) (room₀ : List ℕ) where
  pub fill_start : Filling s end room₀ room₀ 76
  fill_start =
      let n : first_at s end + (76 - 76) ≡ first_at s end = omega arith in
      record { least = omega arith; long = refl; holds = refl; says = ap (λ (k : ℕ). put_all room₀ k (map code_request (part s 76 end))) n }

  module _ (room : List ℕ) (at : ℕ) (I : Filling s end room₀ room at) where
    pub fill_done : end ≤ at → room ≡ put_all room₀ (first_at s end) (map code_request (part s 76 end))
    unfolding put_all
    fill_done h =
        let z : end - at ≡ 0 = omega arith in
        let e : [] ≡ part s at end = sym (cut_none s at) ∙ ap (λ (n : ℕ). cut at n s) (sym z) in
        ap (λ (l : List ℕ). put_all room (first_at s end + (at - 76)) (map code_request l)) e ∙ I.says

    pub fill_again : at < end → (number : ℕ) → number ≡ first_at s end + (at - 76) → (r : Request) → r ≡ code_request (get_or s at 0) → (room' : List ℕ) → room' ≡ put_request room number r → Filling s end room₀ room' (at + 1)
    unfolding put_all
    fill_again h number m r e room' f =
        let n : 1 + (end - (at + 1)) ≡ end - at = omega arith in
        let c : get_or s at 0 ∷ part s (at + 1) end ≡ part s at end = sym (cut_ahead s at (end - (at + 1)) (omega (arith, O.within))) ∙ ap (λ (k : ℕ). cut at k s) n in
        let g : room' ≡ put_request room (first_at s end + (at - 76)) (code_request (get_or s at 0)) = f ∙ (λ i. put_request room (m i) (e i)) in
        let k : first_at s end + (at + 1 - 76) ≡ first_at s end + (at - 76) + 1 = omega (arith, I.least) in
        record {
          least = omega (arith, I.least);
          long = ap length f ∙ length_put room number r ∙ I.long;
          holds = ap capacity f ∙ capacity_put room number r ∙ I.holds;
          says =
              (λ i. put_all (g i) (k i) (map code_request (part s (at + 1) end)))
              ∙ ap (λ (l : List ℕ). put_all room (first_at s end + (at - 76)) (map code_request l)) c
              ∙ I.says;
        }

-- ---- the rooms' lengths, test by test

module _ (s : List ℕ) (r : Rooms) (b : List ℕ) where
  pub other_requests : (capacity r.requests ≡ field little_order 40 8 s → ⊥) → false ≡ fits_at s r b
  unfolding fits_at both
  other_requests h = rw (ne_eqb _ _ h)

  module _ (a : capacity r.requests ≡ field little_order 40 8 s) where
    pub other_store : (length r.store ≡ field little_order 48 8 s → ⊥) → false ≡ fits_at s r b
    unfolding fits_at both
    other_store h = rw (eq-eqb _ _ a, ne_eqb _ _ h)

    module _ (e : length r.store ≡ field little_order 48 8 s) where
      pub other_slots : (length r.slots ≡ most_descriptors → ⊥) → false ≡ fits_at s r b
      unfolding fits_at both
      other_slots h = rw (eq-eqb _ _ a, eq-eqb _ _ e, ne_eqb _ _ h)

      pub same_buffer : length r.slots ≡ most_descriptors → (n : ℕ) → n ≡ field little_order 64 8 s → eqb (length b) n ≡ fits_at s r b
      unfolding fits_at both
      same_buffer h n k = rw (eq-eqb _ _ a, eq-eqb _ _ e, eq-eqb _ _ h, k)

-- ---- two parts of the bytes, one behind the other

pub parts_put : (s : List ℕ) (a b c d : ℕ) (o o₁ o₂ : List ℕ) → o₁ ≡ put o 0 (take (b - a) (drop a s)) → o₂ ≡ put o₁ (b - a) (take (d - c) (drop c s)) → a ≤ b → b ≤ length s → c ≤ d → d ≤ length s
    → (b - a) + (d - c) ≤ length o → o₂ ≡ put o 0 (part s a b ++ part s c d)
unfolding cut
parts_put s a b c d o o₁ o₂ p q ab bs cd ds h =
    let l : length (part s a b) ≡ b - a = length_cut a (b - a) s (omega arith) in
    let m : length (part s c d) ≡ d - c = length_cut c (d - c) s (omega arith) in
    put_more o o₁ o₂ (b - a) (part s a b) (part s c d) l (omega arith) p q

-- ---- the values, field by field

pub reader_same : (s : List ℕ) (p : Plan) (o t : ℕ) → o ≡ field little_order 56 8 s
    → t ≡ aim o (take (p.ids - (p.partial + 4)) (drop (p.partial + 4) s)) (length (take (p.ids - (p.partial + 4)) (drop (p.partial + 4) s)))
    → record { order = o; filled = p.ids - (p.partial + 4); target = t } ≡ reader_at s p
unfolding cut
reader_same s p o t e f =
    let bytes : List ℕ = take (p.ids - (p.partial + 4)) (drop (p.partial + 4) s) in
    let g = f ∙ ap (λ (k : ℕ). aim k bytes (length bytes)) e in
    λ i. record { order = e i; filled = p.ids - (p.partial + 4); target = g i }

pub request_same : (b : ℕ) (m : Mode) → m ≡ code_mode (b / 2) → record { descriptors = eqb (b % 2) 1; mode = m } ≡ code_request b
unfolding code_request
request_same b m e = λ i. record { descriptors = eqb (b % 2) 1; mode = e i }
