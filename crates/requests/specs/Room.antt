-- 01, Rooms: the request room, byte by byte and as the outstanding requests. Assumes nothing.
use Rattle.std.specs.Prelude.{◌≡◌, Bool, true, List, [], ◌∷◌, map, ℕ, zero, suc, ◌+◌, ◌*◌, ◌/◌, ◌%◌, ◌≤◌, leb, eqb, length, get_or, set}
use Rattle.octets.specs.Logic.{choose, both}
use Rattle.requests.specs.declared.Mode.{Mode}
use Rattle.requests.specs.declared.Mode.TheVariants.{Keep, DiscardReply, DiscardReplyAndError}
use Rattle.requests.specs.declared.Request.{Request}

-- "Request room K: 1 to 65,536 bytes, one per outstanding request"
abbrev pub requests_most : ℕ
requests_most = 65536

-- how many requests a room has bytes for
unfoldable pub capacity : List ℕ → ℕ
capacity room = length room

-- and how many bytes a room for k requests has
unfoldable pub bytes_for : ℕ → ℕ
bytes_for k = k

-- a room for k requests
pub record Sized (k : ℕ) (room : List ℕ) : Type 0 where
  pub least : 1 ≤ k
  pub most : k ≤ requests_most
  pub holds : capacity room ≡ k

unfoldable pub sized : ℕ → List ℕ → Bool
sized k room = both (leb 1 k) (both (leb k requests_most) (eqb (length room) k))

-- ---- one request

-- a byte is mode × 2 + descriptors, with mode 0 none, 1 DiscardReply, 2 DiscardReplyAndError
abbrev pub mode_number : Mode → ℕ
mode_number Keep = 0
mode_number DiscardReply = 1
mode_number DiscardReplyAndError = 2

unfoldable pub byte_of : Request → ℕ
byte_of r = 2 * mode_number r.mode + choose r.descriptors 1 0

-- 0 to 5 is legal
abbrev pub last_byte : ℕ
last_byte = 5

unfoldable pub legal : ℕ → Bool
legal b = leb b last_byte

-- the request that a byte is read as
unfoldable pub mode_of : ℕ → Mode
mode_of n = choose (eqb n 0) Keep (choose (eqb n 1) DiscardReply DiscardReplyAndError)

unfoldable pub request_of : ℕ → Request
request_of b = record { descriptors = eqb (b % 2) 1; mode = mode_of (b / 2) }

-- ---- the room

-- f first, f (first + 1), .., count of them
unfoldable pub upto : {A : Type 0} → (ℕ → A) → ℕ → ℕ → List A
upto f first zero = []
upto f first (suc count) = f first ∷ upto f (suc first) count

-- the byte of number n, and its request
unfoldable pub byte_at : List ℕ → ℕ → ℕ
byte_at room n = get_or room (n % length room) 0

unfoldable pub request_at : List ℕ → ℕ → Request
request_at room n = request_of (byte_at room n)

-- THE READING: the count outstanding requests, the oldest of number first.
unfoldable pub outstanding : List ℕ → ℕ → ℕ → List Request
outstanding room first count = upto (request_at room) first count

-- ENCODED: the room has these requests under the numbers from first on, each as its byte.
unfoldable pub Encodes : List ℕ → ℕ → List Request → Type 0
Encodes room first rs = upto (byte_at room) first (length rs) ≡ map byte_of rs

-- "each request byte is legal"
unfoldable pub legal_run : List ℕ → Bool
legal_run [] = true
legal_run (b ∷ bs) = both (legal b) (legal_run bs)

unfoldable pub legals : List ℕ → ℕ → ℕ → Bool
legals room first count = legal_run (upto (byte_at room) first count)

-- ---- what is written

-- the room with the request r under number n: one byte changes
unfoldable pub put_request : List ℕ → ℕ → Request → List ℕ
put_request room n r = set room (n % length room) (byte_of r)

-- a request under another mode
unfoldable pub under_mode : Mode → Request → Request
under_mode m r = record { descriptors = r.descriptors; mode = m }

unfoldable pub put_mode : List ℕ → ℕ → Mode → List ℕ
put_mode room n m = put_request room n (under_mode m (request_at room n))
