-- What a call lists. Assumes nothing.
use Rattle.std.specs.Prelude.{◌≡◌, Bool, List, [], ◌++◌, ℕ, zero, suc, ◌+◌, ◌-◌, ◌≤◌, ltb, length, take, drop, Option, None, Some, Result, Ok, Err}
use Rattle.octets.specs.Logic.{choose}
use Rattle.octets.specs.Bytes.{little_order}
use Rattle.octets.specs.Put.{put}
use Rattle.refusal.specs.Answer.{Answer, gives, refuses}
use Rattle.refusal.specs.Numbers.{number_of}
use Rattle.refusal.specs.declared.Refusal.{Refusal}
use Rattle.packet.specs.Packet.{code_of, number_after}
use Rattle.packet_reader.specs.Front.{Front, nothing, part, long, whole, front_of}
use Rattle.listing.specs.Text.{first_line, line_of, end_line, refused_line}
use Rattle.listing.specs.declared.Stage.{Stage}
use Rattle.listing.specs.declared.Wants.{Wants}
use Rattle.listing.specs.declared.Turn.{Turn}
use Rattle.listing.specs.declared.lines.Listed.{Listed}
use Rattle.listing.specs.declared.lines.Next.{Next}

-- a number below 2^64 has at most 20 digits, and a byte stands behind it; a line has three such items
abbrev pub item_most : ℕ
item_most = 21

abbrev pub line_most : ℕ
line_most = 63

-- v, of at most so many bytes, stands from index at on, and ends at r
pub record Wrote (most : ℕ) (s : List ℕ) (at : ℕ) (v : List ℕ) (r : ℕ) (s' : List ℕ) : Type 0 where
  pub end : r ≡ at + length v
  pub few : length v ≤ most
  pub stands : s' ≡ put s at v

-- ---- What bytes begin with after a last read

-- no whole packet, one that is refused, or one of so many bytes and its number
pub data Ahead : Type 0 where
  none : Ahead
  refused : ℕ → Ahead
  packet : ℕ → ℕ → Ahead

unfoldable pub with_number : ℕ → Answer ℕ → Ahead
with_number n (gives m) = packet n m
with_number n (refuses r) = refused r

unfoldable pub numbered_of : ℕ → List ℕ → Ahead
numbered_of read p = with_number (length p) (number_after little_order read p)

unfoldable pub ahead_by : ℕ → List ℕ → Front → Ahead
ahead_by read s nothing = none
ahead_by read s part = none
ahead_by read s long = refused 2
ahead_by read s (whole n class) = numbered_of read (take n s)

unfoldable pub ahead_of : ℕ → List ℕ → Ahead
ahead_of read s = ahead_by read s (front_of little_order s)

abbrev pub says_next : Result (Option Next) Refusal → Ahead
says_next (Ok None) = none
says_next (Err r) = refused (number_of r)
says_next (Ok (Some n)) = packet n.size n.number.0

-- ---- What a call comes to

-- where a listing is
pub data Point : Type 0 where
  start : Point
  after : ℕ → Point
  ended : Point

-- what is wanted
pub data Want : Type 0 where
  bytes : Want
  room : Want
  nothing_more : Want

-- the text, how many bytes are used, the place then, and what is wanted
pub record Row : Type 0 where
  pub text : List ℕ
  pub used : ℕ
  pub point : Point
  pub want : Want

-- nothing, for a want
abbrev pub waits : Point → Want → Row
waits p w = record { text = []; used = 0; point = p; want = w }

-- the last line
abbrev pub closes : List ℕ → Row
closes t = record { text = t; used = 0; point = ended; want = nothing_more }

-- a text of n bytes, and then a row
abbrev pub behind : List ℕ → ℕ → Row → Row
behind t n r = record { text = t ++ r.text; used = n + r.used; point = r.point; want = r.want }

-- no whole packet is left: the last line if the stream is over
unfoldable pub closing : Bool → ℕ → ℕ → Row
closing over read left = choose over (closes (end_line left)) (waits (after read) bytes)

-- by what bytes begin with
unfoldable pub turn : Bool → ℕ → List ℕ → Ahead → (ℕ → ℕ → Row) → Row
turn over read s none f = closing over read (length s)
turn over read s (refused n) f = closes (refused_line n)
turn over read s (packet n m) f = behind (line_of (code_of s) n m) n (f n m)

-- lines of the bytes after a last read as long as the output has room for any line; k turns at most
unfoldable pub rows : ℕ → Bool → ℕ → ℕ → List ℕ → Row
rows zero over left read s = waits (after read) room
rows (suc k) over left read s =
    choose (ltb left line_most) (waits (after read) room)
    (turn over read s (ahead_of read s) (λ n m. rows k over (left - length (line_of (code_of s) n m)) m (drop n s)))

-- there are no more packets than bytes
unfoldable pub row_of : Bool → ℕ → ℕ → List ℕ → Row
row_of over left read s = rows (suc (length s)) over left read s

-- the first line
unfoldable pub opening : ℕ → Row
opening left = choose (ltb left line_most) (waits start room) (record { text = first_line; used = 0; point = after 0; want = room })

-- WHAT A CALL COMES TO, where the stream is over or not, with an output of so many bytes, from a place, of the bytes so far
unfoldable pub call_of : Bool → ℕ → Point → List ℕ → Row
call_of over left start s = opening left
call_of over left (after read) s = row_of over left read s
call_of over left ended s = waits ended nothing_more

-- ---- What the types of the code say

abbrev pub point_of : Stage → Point
point_of Stage.Start = start
point_of (Stage.After n) = after n.0
point_of Stage.Ended = ended

abbrev pub want_of : Wants → Want
want_of Wants.Bytes = bytes
want_of Wants.Room = room
want_of Wants.Nothing = nothing_more

-- the answer is the row's, behind n bytes used and the text up to index at
pub record Lists (row : Row) (n at : ℕ) (out : List ℕ) (r : Listed) (out' : List ℕ) : Type 0 where
  pub used : r.used ≡ n + row.used
  pub written : r.written ≡ at + length row.text
  pub place : point_of r.place ≡ row.point
  pub wants : want_of r.wants ≡ row.want
  pub fits : at + length row.text ≤ length out
  pub stands : out' ≡ put out at row.text

-- THE PROMISE: what is held is what is not used, at the start of the buffer, and the text stands at the start of the output.
pub record Turns (row : Row) (buf : List ℕ) (held : ℕ) (out : List ℕ) (r : Turn) (buf' out' : List ℕ) : Type 0 where
  pub kept : r.held ≡ length (drop row.used (take held buf))
  pub within : r.held ≤ length buf
  pub written : r.written ≡ length row.text
  pub fits : r.written ≤ length out'
  pub place : point_of r.place ≡ row.point
  pub wants : want_of r.wants ≡ row.want
  pub holds : buf' ≡ put buf 0 (drop row.used (take held buf))
  pub stands : out' ≡ put out 0 row.text
