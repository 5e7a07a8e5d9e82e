-- Calls with room for a line come to the last line. Assumes nothing.
use Rattle.std.specs.Prelude.{◌≡◌, refl, Bool, true, false, List, ℕ, zero, suc, ◌-◌, ◌≤◌, ltb, length, drop}
use Rattle.std.proofs.Common.{sym, subst, arith, le-ltb}
use Rattle.octets.specs.Logic.{choose}
use Rattle.packet.specs.Packet.{least_packet, code_of}
use Rattle.listing.specs.Text.{first_line, line_of}
use Rattle.listing.specs.Call.{line_most, Ahead, none, refused, packet, ahead_of, start, after, ended, room, Row, waits, behind, closing, turn, rows, row_of, opening, call_of}
use Rattle.listing.specs.Laws.{packet_fits}

-- where a row ends: behind the last line, or after a number, with so many bytes used at least
pub data Comes (least : ℕ) (r : Row) : Type 0 where
  last : r.point ≡ ended → Comes least r
  later : (m : ℕ) → r.point ≡ after m → least ≤ r.used → Comes least r

turn_comes : (k : ℕ) (left read : ℕ) (s : List ℕ) (a : Ahead) → a ≡ ahead_of read s → ((n m : ℕ) → Comes 0 (rows k true (left - length (line_of (code_of s) n m)) m (drop n s)))
    → Comes least_packet (turn true read s a (λ n m. rows k true (left - length (line_of (code_of s) n m)) m (drop n s)))
unfolding turn closing choose
turn_comes k left read s none e h = last refl
turn_comes k left read s (refused n) e h = last refl
turn_comes k left read s (packet n m) e h = go (h n m)
  where
    go : Comes 0 (rows k true (left - length (line_of (code_of s) n m)) m (drop n s))
        → Comes least_packet (behind (line_of (code_of s) n m) n (rows k true (left - length (line_of (code_of s) n m)) m (drop n s)))
    go (last p) = last p
    go (later j p q) = let f = packet_fits read s n m e in later j p (omega (arith, f.least))

rows_comes : (k left read : ℕ) (s : List ℕ) → Comes 0 (rows k true left read s)
unfolding rows choose
rows_comes zero left read s = later read refl (omega arith)
rows_comes (suc k) left read s = go (ltb left line_most) (turn_comes k left read s (ahead_of read s) refl (λ n m. rows_comes k (left - length (line_of (code_of s) n m)) m (drop n s)))
  where
    go : (b : Bool) → Comes least_packet (turn true read s (ahead_of read s) (λ n m. rows k true (left - length (line_of (code_of s) n m)) m (drop n s)))
        → Comes 0 (choose b (waits (after read) room) (turn true read s (ahead_of read s) (λ n m. rows k true (left - length (line_of (code_of s) n m)) m (drop n s))))
    go true h = later read refl (omega arith)
    go false (last p) = last p
    go false (later j p q) = later j p (omega arith)

-- A call over the rest of a stream writes the last line, or uses a packet.
pub call_comes : (left read : ℕ) (s : List ℕ) → line_most ≤ left → Comes least_packet (call_of true left (after read) s)
unfolding call_of row_of rows choose
call_comes left read s h =
    subst (λ (b : Bool). Comes least_packet (choose b (waits (after read) room) (turn true read s (ahead_of read s) (λ n m. rows (length s) true (left - length (line_of (code_of s) n m)) m (drop n s))))) (sym (le-ltb left line_most h))
    (turn_comes (length s) left read s (ahead_of read s) refl (λ n m. rows_comes (length s) (left - length (line_of (code_of s) n m)) m (drop n s)))

pub call_opens : (left : ℕ) (s : List ℕ) → line_most ≤ left → call_of true left start s ≡ record { text = first_line; used = 0; point = after 0; want = room }
unfolding call_of opening choose
call_opens left s h = simp (le-ltb left line_most h)
