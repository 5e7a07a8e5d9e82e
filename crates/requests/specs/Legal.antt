-- Legality of the outstanding bytes: in at most two straight runs, for each number, and after a store. Assumes nothing.
use Rattle.std.specs.Prelude.{◌≡◌, refl, ◌↔◌, Bool, true, false, List, [], ◌∷◌, ◌++◌, map, get_or}
use Rattle.std.proofs.Math.Path.{sym, ap}
use Rattle.std.proofs.Common.{◌∙◌, add-zero}
use Prim.Native.Nat.{ℕ, zero, suc, ◌+◌, ◌-◌, ◌≤◌, ◌<◌, ◌%◌}
use Rattle.std.proofs.Math.Nat.{mod-lt, mod_self, mod-add-mod}
use Rattle.std.proofs.Math.Decide.{ℕ_discrete}
use native.Mathlib.Omega.{arith}
use Rattle.std.proofs.Math.ListN.{length}
use Rattle.octets.specs.Logic.{both, both_left, both_right, both_yes}
use Rattle.octets.specs.Put.{cut, length_cut, get_d_cut}
use Rattle.requests.specs.Room.{byte_of, request_of, legal, upto, byte_at, request_at, legal_run, legals, outstanding, Encodes, put_request}
use Rattle.requests.specs.Slots.{request_byte, byte_request, legal_byte, mod_on, byte_same, byte_other}
use Rattle.requests.specs.Upto.{length_upto, upto_add, upto_behind, upto_same, upto_is, upto_map}
use Rattle.requests.specs.declared.Request.{Request}

-- ---- runs

both_both : (p q r : Bool) → both p (both q r) ≡ both (both p q) r
unfolding both
both_both true q r = refl
both_both false q r = refl

pub legal_append : (a b : List ℕ) → legal_run (a ++ b) ≡ both (legal_run a) (legal_run b)
unfolding legal_run both
legal_append [] b = refl
legal_append (x ∷ a) b = ap (both (legal x)) (legal_append a b) ∙ both_both (legal x) (legal_run a) (legal_run b)

-- bytes of numbers that do not pass the room's end lie side by side
straight : (room : List ℕ) (first n s : ℕ) → s ≡ first % length room → s + n ≤ length room → 0 < length room → upto (byte_at room) first n ≡ cut s n room
unfolding byte_at
straight room first n s e h pos =
    upto_is (byte_at room) first n (cut s n room) 0 (length_cut s n room h)
    (λ i p.
    let l : first % length room < length room = mod-lt first pos in
    let m : (first + i) % length room ≡ first % length room + i = mod_on (length room) first i pos (omega arith) (omega arith) in
    let q : (first + i) % length room ≡ s + i = omega arith in
    ap (λ (x : ℕ). get_or room x 0) q ∙ sym (get_d_cut room s n i p))

module _ (room : List ℕ) (first count s : ℕ) (e : s ≡ first % length room) (pos : 0 < length room) (fit : count ≤ length room) where
  pub legal_one : count ≤ length room - s → legals room first count ≡ legal_run (cut s (s + count - s) room)
  unfolding legals
  legal_one h =
      let l : first % length room < length room = mod-lt first pos in
      let z : count ≡ s + count - s = omega arith in
      ap legal_run (straight room first count s e (omega arith) pos ∙ ap (λ (n : ℕ). cut s n room) z)

  pub legal_two : length room - s < count → legals room first count ≡ both (legal_run (cut s (length room - s) room)) (legal_run (cut 0 (count - (length room - s) - 0) room))
  unfolding legals
  legal_two h =
      let k : ℕ = length room in
      let l : first % k < k = mod-lt first pos in
      let n : ℕ = k - s in
      let m : ℕ = count - n - 0 in
      let z : count ≡ n + m = omega arith in
      let w : first % k + n ≡ k = omega arith in
      let o : 0 ≡ (first + n) % k = sym (sym (mod-add-mod first k n) ∙ ap (λ (x : ℕ). x % k) w ∙ mod_self k) in
      ap (λ (x : ℕ). legal_run (upto (byte_at room) first x)) z
      ∙ ap legal_run (upto_add (byte_at room) first n m)
      ∙ legal_append (upto (byte_at room) first n) (upto (byte_at room) (first + n) m)
      ∙ (λ j. both (legal_run (straight room first n s e (omega arith) pos j)) (legal_run (straight room (first + n) m 0 o (omega arith) pos j)))

-- ---- each byte

legal_each : (f : ℕ → ℕ) (a n : ℕ) → legal_run (upto f a n) ≡ true → (i : ℕ) → i < n → legal (f (a + i)) ≡ true
unfolding legal_run upto
legal_each f a zero h i p = absurd (omega arith)
legal_each f a (suc n) h zero p = ap (λ (x : ℕ). legal (f x)) (add-zero a) ∙ both_left _ _ h
legal_each f a (suc n) h (suc i) p =
    let e : a + suc i ≡ suc a + i = omega arith in
    ap (λ (x : ℕ). legal (f x)) e ∙ legal_each f (suc a) n (both_right (legal (f a)) _ h) i (omega arith)

each_legal : (f : ℕ → ℕ) (a n : ℕ) → ((i : ℕ) → i < n → legal (f (a + i)) ≡ true) → legal_run (upto f a n) ≡ true
unfolding legal_run upto
each_legal f a zero h = refl
each_legal f a (suc n) h =
    both_yes (legal (f a)) (legal_run (upto f (suc a) n)) (ap (λ (x : ℕ). legal (f x)) (sym (add-zero a)) ∙ h 0 (omega arith))
    (each_legal f (suc a) n (λ i p. let e : suc a + i ≡ a + suc i = omega arith in ap (λ (x : ℕ). legal (f x)) e ∙ h (suc i) (omega arith)))

-- the sentence "each request byte is legal", number by number
pub legals_each : (room : List ℕ) (first count : ℕ) → legals room first count ≡ true ↔ ((i : ℕ) → i < count → legal (byte_at room (first + i)) ≡ true)
unfolding legals
legals_each room first count = (legal_each (byte_at room) first count, each_legal (byte_at room) first count)

-- ---- after a store

-- whichever number it is for, legal bytes stay legal
pub legals_put : (room : List ℕ) (first count n : ℕ) (r : Request) → 0 < length room → legals room first count ≡ true → legals (put_request room n r) first count ≡ true
legals_put room first count n r pos h =
    (legals_each (put_request room n r) first count).1 (λ i p. go (first + i) ((legals_each room first count).0 h i p) (ℕ_discrete ((first + i) % length room) (n % length room)))
  where
    go : (m : ℕ) → legal (byte_at room m) ≡ true → Dec (m % length room ≡ n % length room) → legal (byte_at (put_request room n r) m) ≡ true
    go m l (yes e) = ap legal (byte_same room n m r e pos) ∙ legal_byte r
    go m l (no ne) = ap legal (byte_other room n m r ne) ∙ l

pub legals_send : (room : List ℕ) (first count : ℕ) (r : Request) → 0 < length room → legals room first count ≡ true → legals (put_request room (first + count) r) first (count + 1) ≡ true
unfolding legals legal_run
legals_send room first count r pos h =
    let room' : List ℕ = put_request room (first + count) r in
    ap legal_run (upto_behind (byte_at room') first count)
    ∙ legal_append (upto (byte_at room') first count) (byte_at room' (first + count) ∷ [])
    ∙ both_yes _ _ (legals_put room first count (first + count) r pos h)
    (both_yes _ _ (ap legal (byte_same room (first + count) (first + count) r refl pos) ∙ legal_byte r) refl)

pub legals_drop : (room : List ℕ) (first count k : ℕ) → legals room first count ≡ true → legals room (first + k) (count - k) ≡ true
legals_drop room first count k h =
    (legals_each room (first + k) (count - k)).1
    (λ i p. let e : first + k + i ≡ first + (k + i) = omega arith in ap (λ (x : ℕ). legal (byte_at room x)) e ∙ (legals_each room first count).0 h (k + i) (omega arith))

-- bytes are legal exactly where they are those of some requests
legal_map : (rs : List Request) → legal_run (map byte_of rs) ≡ true
unfolding legal_run
legal_map [] = refl
legal_map (r ∷ rs) = both_yes _ _ (legal_byte r) (legal_map rs)

pub legals_bytes : (room : List ℕ) (first count : ℕ) → legals room first count ≡ true → upto (byte_at room) first count ≡ map byte_of (outstanding room first count)
unfolding outstanding request_at
legals_bytes room first count h =
    sym (upto_map byte_of (request_at room) first count
    ∙ upto_same (λ n. byte_of (request_at room n)) (byte_at room) first count (λ i p. byte_request (byte_at room (first + i)) ((legals_each room first count).0 h i p)))

pub legals_encoded : (room : List ℕ) (first count : ℕ) → legals room first count ≡ true ↔ ((rs : List Request) × (upto (byte_at room) first count ≡ map byte_of rs))
unfolding legals
legals_encoded room first count =
    (λ h. (outstanding room first count, legals_bytes room first count h), λ e. ap legal_run e.1 ∙ legal_map e.0)

-- requests that are encoded are read back
read_back : (rs : List Request) → map request_of (map byte_of rs) ≡ rs
read_back [] = refl
read_back (r ∷ rs) = (λ k. request_byte r k ∷ map request_of (map byte_of rs)) ∙ ap (λ (l : List Request). r ∷ l) (read_back rs)

pub encoded_read : (room : List ℕ) (first : ℕ) (rs : List Request) → Encodes room first rs → outstanding room first (length rs) ≡ rs
unfolding Encodes outstanding request_at
encoded_read room first rs e = sym (upto_map request_of (byte_at room) first (length rs)) ∙ ap (map request_of) e ∙ read_back rs

pub legals_exactly : (room : List ℕ) (first count : ℕ) → legals room first count ≡ true ↔ Encodes room first (outstanding room first count)
unfolding Encodes outstanding
legals_exactly room first count =
    let n : length (upto (request_at room) first count) ≡ count = length_upto (request_at room) first count in (
      λ h. ap (upto (byte_at room) first) n ∙ legals_bytes room first count h,
      λ e. (legals_encoded room first count).1 (outstanding room first count, ap (upto (byte_at room) first) (sym n) ∙ e),
    )
