-- The state once a packet has its number: as it is read, and that it is sound. Assumes nothing.
use Rattle.std.specs.Prelude.{◌≡◌, Bool, List, leb}
use Rattle.std.proofs.Math.Path.{refl, sym, ap}
use Rattle.std.proofs.Common.{◌∙◌}
use Rattle.std.proofs.Math.Bool.{true, false}
use Prim.Native.Nat.{ℕ, suc, ◌+◌, ◌-◌, ◌≤◌, ◌<◌, max}
use native.Mathlib.Omega.{arith}
use Rattle.std.proofs.Math.Dec.{ltb}
use Rattle.std.proofs.Math.ListN.{drop}
use borrow.Author.Tests.{leb-true, leb-false, ltb-true, ltb-false}
use Rattle.octets.specs.Logic.{choose}
use Rattle.sequence.specs.Numbering.{last_number}
use Rattle.requests.specs.Room.{outstanding, request_at, legals}
use Rattle.requests.specs.Theorems.{outstanding_drop, outstanding_none, outstanding_first, legals_drop, legals_none}
use Rattle.held.specs.Theorems as Held
use Rattle.model.specs.Client.{first}
use Rattle.packet.specs.Packet.{code_of, unnumbered}
use Rattle.model.specs.Model.{nobody, somebody, head_of, asked_of, numbered}
use Rattle.model.specs.Reading.{Rooms, count, reads}
use Rattle.model.specs.ReadingLaws.{first_read}
use Rattle.model.specs.Sound.{Sound}
use Rattle.model.specs.declared.Connection.{Connection}
use Rattle.filing.specs.Plan.{raised_to, first_after, numbered_state, asked_in}

-- ---- the requests that stay

-- the first outstanding number afterwards: no older one went, all went, or those below n went
pub data Stays (first written n : ℕ) : ℕ → Type 0 where
  older : n - first ≡ 0 → Stays first written n first
  none : written + 1 - first ≤ n - first → first ≤ written + 1 → Stays first written n (written + 1)
  some : first + (n - first) ≡ n → first ≤ n → n ≤ written + 1 → Stays first written n n

pub stays : (first written n : ℕ) → first ≤ written + 1 → Stays first written n (first_after first written n)
unfolding first_after choose
stays first written n h = go (leb n first) refl (ltb (written + 1) n) refl
  where
    go : (a : Bool) → leb n first ≡ a → (b : Bool) → ltb (written + 1) n ≡ b → Stays first written n (choose a first (choose b (written + 1) n))
    go true e b f = let u : n ≤ first = leb-true n first e in older (omega arith)
    go false e true f = let u : written + 1 < n = ltb-true (written + 1) n f in none (omega arith) h
    go false e false f =
        let u : first < n = leb-false n first e in
        let v : n ≤ written + 1 = ltb-false (written + 1) n f in
        some (omega arith) (omega arith) v

stays_from : {first written n m : ℕ} → first ≤ written + 1 → Stays first written n m → (first ≤ m) × (m ≤ written + 1)
stays_from h (older z) = (omega arith, h)
stays_from h (none z f) = (f, omega arith)
stays_from h (some z f g) = (f, g)

-- Those below the number go.
stays_out : (q : List ℕ) {first written n m : ℕ} → Stays first written n m → outstanding q m (written + 1 - m) ≡ drop (n - first) (outstanding q first (written + 1 - first))
stays_out q {first} {written} {n} (older z) = ap (λ (k : ℕ). drop k (outstanding q first (written + 1 - first))) (sym z)
stays_out q {first} {written} {n} (none z f) =
    let a : written + 1 - (written + 1) ≡ 0 = omega arith in
    let b : written + 1 - first - (n - first) ≡ 0 = omega arith in
    ap (outstanding q (written + 1)) a ∙ outstanding_none q (written + 1) ∙ sym (ap (outstanding q (first + (n - first))) b ∙ outstanding_none q (first + (n - first)))
    ∙ outstanding_drop q first (written + 1 - first) (n - first)
stays_out q {first} {written} {n} (some z f g) =
    let b : written + 1 - n ≡ written + 1 - first - (n - first) = omega arith in
    (λ i. outstanding q (sym z i) (b i)) ∙ outstanding_drop q first (written + 1 - first) (n - first)

stays_legal : (q : List ℕ) {first written n m : ℕ} → Stays first written n m → legals q first (written + 1 - first) ≡ true → legals q m (written + 1 - m) ≡ true
stays_legal q (older z) h = h
stays_legal q {first} {written} (none z f) h = let a : written + 1 - (written + 1) ≡ 0 = omega arith in ap (legals q (written + 1)) a ∙ legals_none q (written + 1)
stays_legal q {first} {written} {n} (some z f g) h =
    let b : written + 1 - n ≡ written + 1 - first - (n - first) = omega arith in
    (λ i. legals q (sym z i) (b i)) ∙ legals_drop q first (written + 1 - first) h (n - first)

-- ---- the state

raised_most : (code n expected m : ℕ) → n ≤ m → expected ≤ m → raised_to code n expected ≤ m
unfolding raised_to choose
raised_most code n expected m h k = go (unnumbered code)
  where
    go : (b : Bool) → choose b expected (max expected n) ≤ m
    go true = k
    go false = omega arith

module _ (c : Connection) (r : Rooms) (S : Sound c r) (n : ℕ) where
  gone : Stays c.first c.written n (first_after c.first c.written n)
  gone = stays c.first c.written n S.numbers.first_most

  -- It stays sound,
  pub numbered_sound : (code : ℕ) → c.read ≤ n → n ≤ last_number → Sound (numbered_state c code n) r
  numbered_sound code up most =
      let N = S.numbers in
      let g = stays_from N.first_most gone in
      let h = (Held.sound_exactly c.read c.window r.store).0 S.held in
      record {
        order = S.order;
        requests = S.requests;
        store = S.store;
        numbers = record {
          store_least = N.store_least;
          store_most = N.store_most;
          written_most = N.written_most;
          expected_most = raised_most code n c.expected last_number most N.expected_most;
          read_most = most;
          first_least = omega (arith, N.first_least, g.0);
          first_most = g.1;
          count_most = omega (arith, N.count_most, g.0);
        };
        legal_bytes = stays_legal r.requests gone S.legal_bytes;
        slots = S.slots;
        held = (Held.sound_exactly n c.window r.store).1 (Held.sound_later c.read n c.window r.store up h);
        descriptors = S.descriptors;
      }

  -- and is read as the model's.
  pub numbered_read : (p : List ℕ) → reads (numbered_state c (code_of p) n) r ≡ numbered (reads c r) p n
  unfolding reads numbered raised_to
  numbered_read p =
      let e : outstanding r.requests (first_after c.first c.written n) (c.written + 1 - first_after c.first c.written n) ≡ drop (n - first (reads c r)) (reads c r).outstanding =
      stays_out r.requests gone ∙ ap (λ (k : ℕ). drop (n - k) (outstanding r.requests c.first (count c))) (sym (first_read c r S)) in
      λ i. record {
        order = c.order;
        most_requests = c.capacity;
        most_bytes = c.room;
        numbers = record { written = c.written; expected = raised_to (code_of p) n c.expected; read = n };
        outstanding = e i;
        replies = (reads c r).replies;
        events = (reads c r).events;
        waiting = (reads c r).waiting;
        closing = (reads c r).closing;
      }

  -- The request of a number that is not above the last written is the model's.
  pub asked_read : n ≤ c.written → asked_in c r.requests n ≡ asked_of (reads c r) n
  unfolding asked_in asked_of reads choose head_of
  asked_read h =
      go (ltb n c.first) refl
      ∙ ap (λ (k : ℕ). choose (ltb n k) nobody (head_of (drop (n - k) (outstanding r.requests c.first (count c))))) (sym (first_read c r S))
    where
      go : (a : Bool) → ltb n c.first ≡ a → choose a nobody (somebody (request_at r.requests n)) ≡ choose a nobody (head_of (drop (n - c.first) (outstanding r.requests c.first (count c))))
      go true e = refl
      go false e =
          let u : c.first ≤ n = ltb-false n c.first e in
          let y : c.first + (n - c.first) ≡ n = omega arith in
          let z : count c - (n - c.first) ≡ suc (c.written - n) = omega arith in
          sym (ap head_of (sym (outstanding_drop r.requests c.first (count c) (n - c.first)) ∙ (λ i. outstanding r.requests (y i) (z i)) ∙ outstanding_first r.requests n (c.written - n)))
