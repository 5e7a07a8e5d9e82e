-- The byte of a request, where a number's byte is, and what a store there changes. Assumes nothing.
use Rattle.std.specs.Prelude.{◌≡◌, Bool, true, false, length, set, get_or, eqb, ltb}
use Rattle.std.proofs.Math.Path.{refl, ap}
use Rattle.std.proofs.Common.{sym, ◌∙◌, mod-lt, mod-eq_of_lt, arith, length-set, get_or-set_same, get_or-set_other, ltb-true, ltb-false, leb-true, eqb-true}
use Prim.Native.Nat.{ℕ, ◌+◌, ◌*◌, ◌-◌, ◌/◌, ◌≤◌, ◌<◌, ◌%◌}
use Rattle.std.proofs.Math.Nat.{mod-add-mod, mod-eq-sub-mod}
use mathlib.Core.List.{List, [], ◌∷◌, ◌++◌}
use Rattle.std.proofs.Math.Decide.{ℕ_discrete}
use Rattle.std.proofs.lemmas.Bool.{eqb-false}
use Rattle.octets.specs.Logic.{choose}
use Rattle.requests.specs.Room.{mode_number, mode_of, byte_of, legal, request_of, upto, byte_at, request_at, outstanding, put_request}
use Rattle.requests.specs.Upto.{length_upto, get_d_upto, upto_behind, upto_same, upto_is}
use Rattle.requests.specs.declared.Mode.{Mode}
use Rattle.requests.specs.declared.Mode.TheVariants.{Keep, DiscardReply, DiscardReplyAndError}
use Rattle.requests.specs.declared.Request.{Request}

-- ---- one request and its byte

-- a request is read back from its byte, which is legal: by the six cases
pub request_byte : (r : Request) → request_of (byte_of r) ≡ r
unfolding request_of byte_of mode_of choose
request_byte r = go r.descriptors r.mode
  where
    go : (d : Bool) (m : Mode) → request_of (byte_of (record { descriptors = d; mode = m })) ≡ record { descriptors = d; mode = m }
    go true Keep = refl
    go true DiscardReply = refl
    go true DiscardReplyAndError = refl
    go false Keep = refl
    go false DiscardReply = refl
    go false DiscardReplyAndError = refl

pub legal_byte : (r : Request) → legal (byte_of r) ≡ true
unfolding legal byte_of choose
legal_byte r = go r.descriptors r.mode
  where
    go : (d : Bool) (m : Mode) → legal (byte_of (record { descriptors = d; mode = m })) ≡ true
    go true Keep = refl
    go true DiscardReply = refl
    go true DiscardReplyAndError = refl
    go false Keep = refl
    go false DiscardReply = refl
    go false DiscardReplyAndError = refl

pub mode_most : (m : Mode) → mode_number m ≤ 2
mode_most Keep = omega arith
mode_most DiscardReply = omega arith
mode_most DiscardReplyAndError = omega arith

-- a legal byte is that of the request that it is read as
mode_number_lem : (n : ℕ) → n ≤ 2 → mode_number (mode_of n) ≡ n
unfolding mode_of choose
mode_number_lem n h = go (eqb n 0) refl (eqb n 1) refl
  where
    go : (a : Bool) → eqb n 0 ≡ a → (b : Bool) → eqb n 1 ≡ b → mode_number (choose a Keep (choose b DiscardReply DiscardReplyAndError)) ≡ n
    go true p b q = sym (eqb-true n 0 p)
    go false p true q = sym (eqb-true n 1 q)
    go false p false q =
        let u : n ≡ 0 → ⊥ = eqb-false n 0 p in
        let v : n ≡ 1 → ⊥ = eqb-false n 1 q in
        omega arith

bit : (n : ℕ) → n ≤ 1 → choose (eqb n 1) 1 0 ≡ n
unfolding choose
bit n h = go (eqb n 1) refl
  where
    go : (a : Bool) → eqb n 1 ≡ a → choose a 1 0 ≡ n
    go true p = sym (eqb-true n 1 p)
    go false p = let u : n ≡ 1 → ⊥ = eqb-false n 1 p in omega arith

pub byte_request : (b : ℕ) → legal b ≡ true → byte_of (request_of b) ≡ b
unfolding legal byte_of request_of
byte_request b h =
    let l : b ≤ 5 = leb-true b 5 h in
    (λ j. 2 * mode_number_lem (b / 2) (omega arith) j + bit (b % 2) (omega arith) j) ∙ (let e : 2 * (b / 2) + b % 2 ≡ b = omega arith in e)

-- ---- where a number's byte is

module _ (k a i : ℕ) (pos : 0 < k) (near : i < k) where
  -- going on without a turn, and with one
  pub mod_on : a % k + i < k → (a + i) % k ≡ a % k + i
  mod_on h = sym (mod-add-mod a k i) ∙ mod-eq_of_lt h

  mod_round : k ≤ a % k + i → (a + i) % k ≡ a % k + i - k
  mod_round h =
      let p : a % k < k = mod-lt a pos in
      sym (mod-add-mod a k i) ∙ mod-eq-sub-mod h ∙ mod-eq_of_lt (omega arith)

-- two numbers less than k apart have bytes of their own
mod_moves : (k a d : ℕ) → 0 < d → d < k → (a + d) % k ≡ a % k → ⊥
mod_moves k a d h f e = go (ltb (a % k + d) k) refl
  where
    go : (t : Bool) → ltb (a % k + d) k ≡ t → ⊥
    go true p = let u : a % k + d < k = ltb-true _ _ p in omega (arith, mod_on k a d (omega arith) f u)
    go false p = let u : k ≤ a % k + d = ltb-false _ _ p in omega (arith, mod_round k a d (omega arith) f u)

mod_later : (k a i j : ℕ) → i < j → j < k → (a + j) % k ≡ (a + i) % k → ⊥
mod_later k a i j h f e =
    let q : a + j ≡ a + i + (j - i) = omega arith in
    mod_moves k (a + i) (j - i) (omega arith) (omega arith) (ap (λ (x : ℕ). x % k) (sym q) ∙ e)

pub mod_apart : (k a i j : ℕ) → i < k → j < k → (j ≡ i → ⊥) → (a + j) % k ≡ (a + i) % k → ⊥
mod_apart k a i j h f ne e = go (ltb i j) refl (ltb j i) refl
  where
    go : (s : Bool) → ltb i j ≡ s → (t : Bool) → ltb j i ≡ t → ⊥
    go true p t q = mod_later k a i j (ltb-true i j p) f e
    go false p true q = mod_later k a j i (ltb-true j i q) h (sym e)
    go false p false q = let u : j ≤ i = ltb-false i j p in let v : i ≤ j = ltb-false j i q in ne (omega arith)

-- ---- a store at a number's byte

pub byte_same : (room : List ℕ) (n m : ℕ) (r : Request) → m % length room ≡ n % length room → 0 < length room → byte_at (put_request room n r) m ≡ byte_of r
unfolding byte_at put_request
byte_same room n m r e h =
    ap (λ (k : ℕ). get_or (set room (n % length room) (byte_of r)) (m % k) 0) (length-set room (n % length room) (byte_of r))
    ∙ ap (λ (i : ℕ). get_or (set room (n % length room) (byte_of r)) i 0) e
    ∙ get_or-set_same room (n % length room) (byte_of r) 0 (mod-lt n h)

pub byte_other : (room : List ℕ) (n m : ℕ) (r : Request) → (m % length room ≡ n % length room → ⊥) → byte_at (put_request room n r) m ≡ byte_at room m
unfolding byte_at put_request
byte_other room n m r h =
    ap (λ (k : ℕ). get_or (set room (n % length room) (byte_of r)) (m % k) 0) (length-set room (n % length room) (byte_of r))
    ∙ get_or-set_other room (n % length room) (m % length room) (byte_of r) 0 h

-- ---- the outstanding requests after a store

module _ (room : List ℕ) (first count : ℕ) (r : Request) where
  request_same : (n m : ℕ) → m % length room ≡ n % length room → 0 < length room → request_at (put_request room n r) m ≡ r
  unfolding request_at
  request_same n m e h = ap request_of (byte_same room n m r e h) ∙ request_byte r

  request_other : (n m : ℕ) → (m % length room ≡ n % length room → ⊥) → request_at (put_request room n r) m ≡ request_at room m
  unfolding request_at
  request_other n m h = ap request_of (byte_other room n m r h)

  -- behind the last
  pub send : count < length room → outstanding (put_request room (first + count) r) first (count + 1) ≡ outstanding room first count ++ (r ∷ [])
  unfolding outstanding
  send f =
      let room' : List ℕ = put_request room (first + count) r in
      let old : upto (request_at room') first count ≡ upto (request_at room) first count =
      upto_same (request_at room') (request_at room) first count
      (λ i p. request_other (first + count) (first + i) (mod_apart (length room) first count i f (omega arith) (λ e. omega arith))) in
      upto_behind (request_at room') first count ∙ (λ j. old j ++ (request_same (first + count) (first + count) refl (omega arith) j ∷ []))

  -- at one of them
  pub change : (i : ℕ) → i < count → count ≤ length room → outstanding (put_request room (first + i) r) first count ≡ set (outstanding room first count) i r
  unfolding outstanding
  change i p f =
      upto_is (request_at room') first count (set old i r) r (length-set old i r ∙ length_upto (request_at room) first count) (λ j q. go j q (ℕ_discrete j i))
    where
      room' : List ℕ
      room' = put_request room (first + i) r

      old : List Request
      old = upto (request_at room) first count

      go : (j : ℕ) → j < count → Dec (j ≡ i) → request_at room' (first + j) ≡ get_or (set old i r) j r
      go j q (yes e) =
          request_same (first + i) (first + j) (ap (λ (x : ℕ). (first + x) % length room) e) (omega arith)
          ∙ sym (get_or-set_same old i r r (omega (arith, length_upto (request_at room) first count)))
          ∙ ap (λ (x : ℕ). get_or (set old i r) x r) (sym e)
      go j q (no ne) =
          request_other (first + i) (first + j) (mod_apart (length room) first i j (omega arith) (omega arith) ne)
          ∙ sym (get_or-set_other old i j r r ne ∙ get_d_upto (request_at room) first count j r q)
