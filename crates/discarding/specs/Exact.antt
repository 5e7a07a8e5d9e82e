-- `discard_reply`, exactly: the mode set, the packets of the number gone, and their descriptors closed. Assumes nothing.
use Rattle.std.specs.Prelude.{◌≡◌, List, ℕ, zero, suc, ◌+◌, ◌%◌, ◌≤◌, leb, length, take, drop, get_or, Option, Some, None}
use Rattle.octets.specs.Logic.{choose, both}
use Rattle.requests.specs.Room.{put_mode}
use Rattle.held.specs.Head as Head
use Rattle.held.specs.Head.{header_size}
use Rattle.held.specs.Reading as Store
use Rattle.held.specs.Find.{found_reply}
use Rattle.held.specs.Moves.{Left, left, removed, demoted}
use Rattle.held.specs.declared.Window.{Window}
use Rattle.held.specs.declared.Spot.{Spot}
use Rattle.held.specs.Tally.{own, lower, higher}
use Rattle.descriptors.specs.Room as Slots
use Rattle.packet.specs.Packet.{class_of, is_error}
use Rattle.model.specs.Model.{mode_of}
use Rattle.model.specs.Reading.{Rooms, rooms, slots_of}
use Rattle.model.specs.Promise.{Done}
use Rattle.model.specs.declared.Connection.{Connection}
use Rattle.model.specs.declared.DiscardMode.{DiscardMode}
use Rattle.model.specs.Moved.{moved_state}

-- "sets the mode of an outstanding request"
unfoldable pub mode_set : Connection → List ℕ → ℕ → DiscardMode → List ℕ
mode_set c q n m = choose (both (leb c.first n) (leb n c.written)) (put_mode q n (mode_of m)) q

-- ---- the descriptors

-- Those of held replies stand in the slots one reply's behind the other's, in the replies' order, and reply numbers never fall. So what the
-- replies of one number have is one run of slots, and the reply whose turn it is cuts it in two:
--
--      of lower numbers | of the number, before its turn | of the number, from its turn on | of higher numbers
--          fdsBelow                fdsBefore                         fdsFrom
--
-- The run from the turn on goes to the end of the close list, then the run before it. `Examples.antt` has this with numbers.

-- of r replies of the number with k behind them, the one whose turn is first: under DiscardReply the first, otherwise that at k mod r
abbrev pub turn_of : DiscardMode → ℕ → ℕ → ℕ
turn_of DiscardMode.DiscardReply r k = 0
turn_of DiscardMode.DiscardReplyAndError r k = k % r

abbrev pub turn_at : DiscardMode → ℕ → List Head.Record → ℕ
turn_at m n rs = turn_of m (length (own n rs)) (length (higher n rs))

-- how many descriptors each of the three parts has
abbrev pub fds_below : ℕ → List Head.Record → ℕ
fds_below n rs = Store.fds_in (lower n rs)

abbrev pub fds_before : DiscardMode → ℕ → List Head.Record → ℕ
fds_before m n rs = Store.fds_in (take (turn_at m n rs) (own n rs))

abbrev pub fds_from : DiscardMode → ℕ → List Head.Record → ℕ
fds_from m n rs = Store.fds_in (drop (turn_at m n rs) (own n rs))

-- of two runs side by side, u slots from place at on and v behind them, the second is closed, then the first
unfoldable pub closed_round : ℕ → ℕ → ℕ → Slots.Room → Slots.Room
closed_round at u v d = Slots.close_held at u (Slots.close_held (at + u) v d)

abbrev pub discard_slots : DiscardMode → ℕ → List Head.Record → Slots.Room → Slots.Room
discard_slots m n rs d = closed_round (fds_below n rs) (fds_before m n rs) (fds_from m n rs) d

-- ---- the packets

-- one goes; "under DiscardReply the errors among them become events"
abbrev pub cleared_at : DiscardMode → Left → Spot → Left
cleared_at DiscardMode.DiscardReply l p =
    choose (is_error (class_of (get_or l.store (p.at + header_size) 0))) (left l.window (demoted l.window l.store p)) (removed l.window l.store p)
cleared_at DiscardMode.DiscardReplyAndError l p = removed l.window l.store p

abbrev pub cleared_from : DiscardMode → Left → Option Spot → Left
cleared_from m l None = l
cleared_from m l (Some p) = cleared_at m l p

-- the oldest of the number goes, j times
unfoldable pub cleared : ℕ → DiscardMode → ℕ → Left → Left
cleared zero m n l = l
cleared (suc j) m n l = cleared j m n (cleared_from m l (found_reply n l.window l.store))

-- ---- the whole

abbrev pub replies_of : Connection → Rooms → List Head.Record
replies_of c r = Store.replies c.window r.store

abbrev pub discard_left : Connection → Rooms → ℕ → DiscardMode → Left
discard_left c r n m = cleared (length (own n (replies_of c r))) m n (left c.window r.store)

unfoldable pub discard_exact : Connection → Rooms → ℕ → DiscardMode → Done Unit
discard_exact c r n m =
    let l = discard_left c r n m in
    let d = discard_slots m n (replies_of c r) (slots_of c r) in
    record { value = tt; state = moved_state c l.window d.counts; left = rooms (mode_set c r.requests n m) l.store d.slots }

-- ---- the steps

-- how many replies there are of the number, and of higher ones
pub record Counted (c : Connection) (s : List ℕ) (n r k : ℕ) : Type 0 where
  pub count_own : r ≡ length (own n (Store.replies c.window s))
  pub count_above : k ≡ length (higher n (Store.replies c.window s))

-- a window that can be swept: it is sound for some last number, and the number's replies have not too many descriptors
pub record Sweepable (n : ℕ) (w : Window) (s : List ℕ) : Type 0 where
  pub last : ℕ
  pub sound : Store.Sound last w s
  pub few : Store.fds_in (own n (Store.replies w s)) ≤ Slots.most_descriptors

-- how many descriptors a record that was found has
abbrev pub fds_found : Option Spot → ℕ
fds_found None = 0
fds_found (Some p) = p.fds

-- what one turn and what count turns leave, and how many descriptors their packets had
pub record SweepsOne (n : ℕ) (m : DiscardMode) (w : Window) (s : List ℕ) (w' : Window) (fds : ℕ) (s' : List ℕ) : Type 0 where
  pub leaves : left w' s' ≡ cleared_from m (left w s) (found_reply n w s)
  pub counts : fds ≡ fds_found (found_reply n w s)

pub record Sweeps (n : ℕ) (m : DiscardMode) (count : ℕ) (w : Window) (s : List ℕ) (w' : Window) (fds : ℕ) (s' : List ℕ) : Type 0 where
  pub leaves : left w' s' ≡ cleared count m n (left w s)
  pub counts : fds ≡ Store.fds_in (take count (own n (Store.replies w s)))

-- The step is exact.
pub record DiscardStep (c : Connection) (n : ℕ) (m : DiscardMode) (q s f : List ℕ) (a : Connection) (q' s' f' : List ℕ) : Type 0 where
  pub state : a ≡ (discard_exact c (rooms q s f) n m).state
  pub leaves : rooms q' s' f' ≡ (discard_exact c (rooms q s f) n m).left
