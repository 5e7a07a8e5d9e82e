-- 01, Rooms, and Numbering and filing: the descriptors inside the engine, slot by slot and as three lists. Assumes nothing.
use Rattle.std.specs.Prelude.{◌≡◌, Bool, List, [], ◌∷◌, ◌++◌, ℕ, ◌+◌, ◌-◌, ◌≤◌, leb, eqb, length}
use Rattle.octets.specs.Logic.{choose, both}
use Rattle.octets.specs.Put.{put, cut}
use Rattle.descriptors.specs.declared.Counts.{Counts}

-- "at most 256 are inside the engine (waiting, held or to be closed)"
abbrev pub most_descriptors : ℕ
most_descriptors = 256

abbrev pub total : Counts → ℕ
total c = c.closed + c.held + c.waiting

abbrev pub counted : ℕ → ℕ → ℕ → Counts
counted closed held waiting = record { closed = closed; held = held; waiting = waiting }

-- the slots and the three counts
pub record Room : Type 0 where
  pub slots : List ℕ
  pub counts : Counts

abbrev pub room : List ℕ → Counts → Room
room s c = record { slots = s; counts = c }

-- 256 slots, and at most so many descriptors
pub record Sound (d : Room) : Type 0 where
  pub long : length d.slots ≡ most_descriptors
  pub most : total d.counts ≤ most_descriptors

unfoldable pub sound : Room → Bool
sound d = both (eqb (length d.slots) most_descriptors) (leb (total d.counts) most_descriptors)

-- THE READING: three parts side by side. Slots behind them are no state.
unfoldable pub closing : Room → List ℕ
closing d = cut 0 d.counts.closed d.slots

unfoldable pub holding : Room → List ℕ
holding d = cut d.counts.closed d.counts.held d.slots

unfoldable pub waiting : Room → List ℕ
waiting d = cut (d.counts.closed + d.counts.held) d.counts.waiting d.slots

-- a room that is read as these three lists
pub record Lists (d : Room) (toClose held wait : List ℕ) : Type 0 where
  pub closing_is : closing d ≡ toClose
  pub holding_is : holding d ≡ held
  pub waiting_is : waiting d ≡ wait

-- the n that are held from place at on
unfoldable pub held_run : ℕ → ℕ → Room → List ℕ
held_run at n d = cut at n (holding d)

-- all that are inside, and how often one of them is
unfoldable pub inside : Room → List ℕ
inside d = closing d ++ (holding d ++ waiting d)

unfoldable pub count : ℕ → List ℕ → ℕ
count x [] = 0
count x (y ∷ l) = choose (eqb x y) 1 0 + count x l

-- ---- what each move leaves, slot by slot

-- a list comes to wait, behind the others
unfoldable pub enqueue : List ℕ → Room → Room
enqueue l d = record {
  slots = put d.slots (total d.counts) l;
  counts = counted d.counts.closed d.counts.held (d.counts.waiting + length l);
}

-- the first n that wait become the last that are held: no slot changes
abbrev pub hold_counts : ℕ → Counts → Counts
hold_counts n c = counted c.closed (c.held + n) (c.waiting - n)

unfoldable pub hold : ℕ → Room → Room
hold n d = record { slots = d.slots; counts = hold_counts n d.counts }

-- behind the close list, `at` slots and the n behind them change places
unfoldable pub close_run : ℕ → ℕ → ℕ → List ℕ → List ℕ
close_run closed at n s = put s closed (cut (closed + at) n s ++ cut closed at s)

-- the first n that wait go to the end of the close list, past those that are held
unfoldable pub close_waiting : ℕ → Room → Room
close_waiting n d = record {
  slots = close_run d.counts.closed d.counts.held n d.slots;
  counts = counted (d.counts.closed + n) d.counts.held (d.counts.waiting - n);
}

-- the n that are held from place at on go to the end of the close list
unfoldable pub close_held : ℕ → ℕ → Room → Room
close_held at n d = record {
  slots = close_run d.counts.closed at n d.slots;
  counts = counted (d.counts.closed + n) (d.counts.held - n) d.counts.waiting;
}

-- the n slots from index from on leave, and those behind them, up to end, move down; in the n slots before end stays what stood there, which is no state
unfoldable pub remove_run : ℕ → ℕ → ℕ → List ℕ → List ℕ
remove_run from n end s = put s from (cut (from + n) (end - (from + n)) s)

-- the n that are held from place at on leave
unfoldable pub hand_out : ℕ → ℕ → Room → Room
hand_out at n d = record {
  slots = remove_run (d.counts.closed + at) n (total d.counts) d.slots;
  counts = counted d.counts.closed (d.counts.held - n) d.counts.waiting;
}

-- the close list leaves whole
unfoldable pub take_closed : Room → Room
take_closed d = record {
  slots = remove_run 0 d.counts.closed (total d.counts) d.slots;
  counts = counted 0 d.counts.held d.counts.waiting;
}

-- What a call leaves that gives a list out: the room, and the list at the start of the lent output.
pub record Gives (want : Room) (list out : List ℕ) (d : Room) (out' : List ℕ) : Type 0 where
  pub left : d ≡ want
  pub given : out' ≡ put out 0 list
