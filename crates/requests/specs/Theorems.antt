-- The laws of the request room that the floors above cite, for each room of one byte or more and wherever the run of outstanding numbers
-- starts. Those of `outstanding` speak of no layout. Assumes nothing.
use Rattle.std.specs.Prelude.{◌≡◌, ◌↔◌, true, List, [], ◌∷◌, ◌++◌, map, ℕ, suc, ◌+◌, ◌-◌, ◌≤◌, ◌<◌, ◌%◌, drop, get_or, replicate, leb, eqb}
use Rattle.std.proofs.Math.Path.{refl, sym, ap}
use Rattle.std.proofs.Common.{◌∙◌, leb-true, le-leb, eqb-true, eq-eqb}
use native.Mathlib.Omega.{arith}
use Rattle.std.proofs.Math.ListN.{length, set, length-set}
use Rattle.std.proofs.lemmas.List.{length-replicate}
use Rattle.octets.specs.Logic.{both, both_left, both_right, both_yes}
use Rattle.requests.specs.Room.{requests_most, Sized, sized, capacity, bytes_for, byte_of, legal, request_of, upto, byte_at, request_at, outstanding, Encodes, legal_run, legals, put_request, under_mode, put_mode}
use Rattle.requests.specs.Upto.{length_upto, get_d_upto, upto_drop}
use Rattle.requests.specs.Slots as Slots
use Rattle.requests.specs.Legal as Legal
use Rattle.requests.specs.declared.Mode.{Mode}
use Rattle.requests.specs.declared.Request.{Request}

-- ---- a request and its byte

-- A byte is legal exactly where it is the byte of a request.
pub legal_byte : (b : ℕ) → legal b ≡ true ↔ ((r : Request) × (byte_of r ≡ b))
legal_byte b = (λ h. (request_of b, Slots.byte_request b h), λ e. ap legal (sym e.1) ∙ Slots.legal_byte e.0)

-- Each request is read back from its byte.
pub request_byte : (r : Request) → request_of (byte_of r) ≡ r
request_byte r = Slots.request_byte r

-- ---- a room's size

-- The test holds exactly where the room is one for k requests.
pub sized_is : (k : ℕ) (room : List ℕ) → sized k room ≡ true ↔ Sized k room
unfolding sized capacity
sized_is k room = (there, λ s. both_yes _ _ (le-leb 1 k s.least) (both_yes _ _ (le-leb k requests_most s.most) (eq-eqb (length room) k s.holds)))
  where
    there : sized k room ≡ true → Sized k room
    there h =
        let t : both (leb k requests_most) (eqb (length room) k) ≡ true = both_right _ _ h in
        record { least = leb-true 1 k (both_left _ _ h); most = leb-true k requests_most (both_left _ _ t); holds = eqb-true (length room) k (both_right _ _ t) }

-- A room has the bytes for as many requests as it is one for,
pub bytes_capacity : (room : List ℕ) → length room ≡ bytes_for (capacity room)
unfolding capacity bytes_for
bytes_capacity room = refl

-- and so many bytes are a room for k requests.
pub capacity_bytes : (k b : ℕ) → capacity (replicate (bytes_for k) b) ≡ k
unfolding capacity bytes_for
capacity_bytes k b = length-replicate k b

-- Setting a mode is to set the request under that mode, so what follows holds of it too.
pub mode_put : (room : List ℕ) (n : ℕ) (m : Mode) → put_mode room n m ≡ put_request room n (under_mode m (request_at room n))
unfolding put_mode
mode_put room n m = refl

module _ (room : List ℕ) (n : ℕ) (r : Request) where
  -- Setting a request leaves the room's length, how many it has bytes for,
  pub length_put : length (put_request room n r) ≡ length room
  unfolding put_request
  length_put = length-set room (n % length room) (byte_of r)

  pub capacity_put : capacity (put_request room n r) ≡ capacity room
  unfolding capacity put_request
  capacity_put = length-set room (n % length room) (byte_of r)

  -- and for how many requests it is one.
  pub sized_put : (k : ℕ) → sized k (put_request room n r) ≡ sized k room
  unfolding sized put_request
  sized_put k = ap (λ (l : ℕ). both (leb 1 k) (both (leb k requests_most) (eqb l k))) (length-set room (n % length room) (byte_of r))

  -- The request that was set is the one read there.
  pub request_put : 0 < capacity room → request_at (put_request room n r) n ≡ r
  unfolding capacity request_at
  request_put pos = ap request_of (Slots.byte_same room n n r refl pos) ∙ Slots.request_byte r

-- ---- the outstanding requests

module _ (room : List ℕ) (first count : ℕ) where
  -- There are count of them.
  pub length_outstanding : length (outstanding room first count) ≡ count
  unfolding outstanding
  length_outstanding = length_upto (request_at room) first count

  -- The request of number n is the one at place n - first.
  pub outstanding_number : (n : ℕ) (d : Request) → first ≤ n → n < first + count → get_or (outstanding room first count) (n - first) d ≡ request_at room n
  unfolding outstanding
  outstanding_number n d h f =
      let e : first + (n - first) ≡ n = omega arith in
      get_d_upto (request_at room) first count (n - first) d (omega arith) ∙ ap (request_at room) e

  -- Letting the k oldest go is to drop them, and nothing is written.
  pub outstanding_drop : (k : ℕ) → outstanding room (first + k) (count - k) ≡ drop k (outstanding room first count)
  unfolding outstanding
  outstanding_drop k = sym (upto_drop (request_at room) first count k)

  -- Sending: the new request stands behind the others.
  pub outstanding_send : (r : Request) → count < capacity room → outstanding (put_request room (first + count) r) first (count + 1) ≡ outstanding room first count ++ (r ∷ [])
  unfolding capacity
  outstanding_send r h = Slots.send room first count r h

  -- Setting the request at place i changes that one.
  pub outstanding_put : (i : ℕ) (r : Request) → i < count → count ≤ capacity room → outstanding (put_request room (first + i) r) first count ≡ set (outstanding room first count) i r
  unfolding capacity
  outstanding_put i r h f = Slots.change room first count r i h f

  -- Setting a mode keeps whether the request has descriptors.
  pub outstanding_mode : (i : ℕ) (m : Mode) (d : Request) → i < count → count ≤ capacity room
      → outstanding (put_mode room (first + i) m) first count ≡ set (outstanding room first count) i (under_mode m (get_or (outstanding room first count) i d))
  unfolding put_mode outstanding
  outstanding_mode i m d h f =
      outstanding_put i (under_mode m (request_at room (first + i))) h f
      ∙ ap (λ (x : Request). set (outstanding room first count) i (under_mode m x)) (sym (get_d_upto (request_at room) first count i d h))

-- Where there are none the list is empty, whatever number would be the first.
pub outstanding_none : (room : List ℕ) (first : ℕ) → outstanding room first 0 ≡ []
unfolding outstanding upto
outstanding_none room first = refl

-- The oldest stands before the others.
pub outstanding_first : (room : List ℕ) (first count : ℕ) → outstanding room first (suc count) ≡ request_at room first ∷ outstanding room (suc first) count
unfolding outstanding upto
outstanding_first room first count = refl

-- ---- legality

-- The test holds exactly where each byte of an outstanding number is legal.
pub legals_each : (room : List ℕ) (first count : ℕ) → legals room first count ≡ true ↔ ((i : ℕ) → i < count → legal (byte_at room (first + i)) ≡ true)
legals_each room first count = Legal.legals_each room first count

-- It holds where none are outstanding.
pub legals_none : (room : List ℕ) (first : ℕ) → legals room first 0 ≡ true
unfolding legals legal_run upto
legals_none room first = refl

-- It holds exactly where these bytes are those of some requests;
pub legals_encoded : (room : List ℕ) (first count : ℕ) → legals room first count ≡ true ↔ ((rs : List Request) × (upto (byte_at room) first count ≡ map byte_of rs))
legals_encoded room first count = Legal.legals_encoded room first count

-- and then they are those of the outstanding ones.
pub legals_bytes : (room : List ℕ) (first count : ℕ) → legals room first count ≡ true → upto (byte_at room) first count ≡ map byte_of (outstanding room first count)
legals_bytes room first count h = Legal.legals_bytes room first count h

-- In no layout's terms: it holds exactly where the room encodes the outstanding requests,
pub legals_exactly : (room : List ℕ) (first count : ℕ) → legals room first count ≡ true ↔ Encodes room first (outstanding room first count)
legals_exactly room first count = Legal.legals_exactly room first count

-- and requests that it encodes are the ones read from it.
pub encoded_read : (room : List ℕ) (first : ℕ) (rs : List Request) → Encodes room first rs → outstanding room first (length rs) ≡ rs
encoded_read room first rs e = Legal.encoded_read room first rs e

module _ (room : List ℕ) (first count : ℕ) (h : legals room first count ≡ true) where
  -- Bytes stay legal as a request is sent,
  pub legals_send : (r : Request) → 0 < capacity room → legals (put_request room (first + count) r) first (count + 1) ≡ true
  unfolding capacity
  legals_send r pos = Legal.legals_send room first count r pos h

  -- as any request is set,
  pub legals_put : (n : ℕ) (r : Request) → 0 < capacity room → legals (put_request room n r) first count ≡ true
  unfolding capacity
  legals_put n r pos = Legal.legals_put room first count n r pos h

  -- and as older ones go.
  pub legals_drop : (k : ℕ) → legals room (first + k) (count - k) ≡ true
  legals_drop k = Legal.legals_drop room first count k h
