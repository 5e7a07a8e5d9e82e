-- Descriptors in their slots, computed: rows that the nearest other readings fail. Assumes nothing.
use Rattle.std.specs.Prelude.{◌≡◌, refl, true, false, [], ◌∷◌, replicate}
use Rattle.octets.specs.Logic.{choose, both}
use Rattle.octets.specs.Put.{put, cut}
use Rattle.descriptors.specs.Room.{total, counted, Room, room, sound, closing, holding, waiting, held_run, inside, count, enqueue, hold, close_run, close_waiting, close_held, remove_run, hand_out, take_closed, Gives}

-- 256 slots and at most 256 descriptors, of whichever part
pub sounds : (sound (room (replicate 256 7) (counted 6 100 150)) ≡ true) × (sound (room (replicate 256 7) (counted 7 100 150)) ≡ false) × (sound (room (replicate 256 7) (counted 6 101 150)) ≡ false)
    × (sound (room (replicate 256 7) (counted 6 100 151)) ≡ false) × (sound (room (replicate 255 7) (counted 1 2 3)) ≡ false) × (sound (room (replicate 257 7) (counted 1 2 3)) ≡ false)
unfolding sound both
sounds = (refl, refl, refl, refl, refl, refl)

-- two to be closed, three held, four waiting, and what is no state
abbrev nine : Room
nine = room (11 ∷ 12 ∷ 21 ∷ 22 ∷ 23 ∷ 31 ∷ 32 ∷ 33 ∷ 34 ∷ 91 ∷ 92 ∷ 93 ∷ []) (counted 2 3 4)

-- how it is read: closing, held, waiting, in this order
pub reads : (closing nine ≡ 11 ∷ 12 ∷ []) × (holding nine ≡ 21 ∷ 22 ∷ 23 ∷ []) × (waiting nine ≡ 31 ∷ 32 ∷ 33 ∷ 34 ∷ []) × (total (counted 2 3 4) ≡ 9)
    × (held_run 1 2 nine ≡ 22 ∷ 23 ∷ []) × (inside nine ≡ 11 ∷ 12 ∷ 21 ∷ 22 ∷ 23 ∷ 31 ∷ 32 ∷ 33 ∷ 34 ∷ [])
unfolding closing holding waiting held_run inside cut
reads = (refl, refl, refl, refl, refl, refl)

pub counts : (count 5 (5 ∷ 6 ∷ 5 ∷ 5 ∷ []) ≡ 3) × (count 6 (5 ∷ 6 ∷ 5 ∷ 5 ∷ []) ≡ 1) × (count 7 (5 ∷ 6 ∷ []) ≡ 0)
unfolding count choose
counts = (refl, refl, refl)

-- two more wait, behind the others
pub enqueues : enqueue (41 ∷ 42 ∷ []) nine ≡ room (11 ∷ 12 ∷ 21 ∷ 22 ∷ 23 ∷ 31 ∷ 32 ∷ 33 ∷ 34 ∷ 41 ∷ 42 ∷ 93 ∷ []) (counted 2 3 6)
unfolding enqueue put
enqueues = refl

-- the first that waits is held, behind the others; no slot changes
pub holds : hold 1 nine ≡ room (11 ∷ 12 ∷ 21 ∷ 22 ∷ 23 ∷ 31 ∷ 32 ∷ 33 ∷ 34 ∷ 91 ∷ 92 ∷ 93 ∷ []) (counted 2 4 3)
unfolding hold
holds = refl

-- of those that wait the first two are to be closed, behind 12 and before those that are held, which stay in their order
pub closes_waiting : close_waiting 2 nine ≡ room (11 ∷ 12 ∷ 31 ∷ 32 ∷ 21 ∷ 22 ∷ 23 ∷ 33 ∷ 34 ∷ 91 ∷ 92 ∷ 93 ∷ []) (counted 4 3 2)
unfolding close_waiting close_run put cut
closes_waiting = refl

-- of those that are held the last two, and the first
pub closes_held : (close_held 1 2 nine ≡ room (11 ∷ 12 ∷ 22 ∷ 23 ∷ 21 ∷ 31 ∷ 32 ∷ 33 ∷ 34 ∷ 91 ∷ 92 ∷ 93 ∷ []) (counted 4 1 4))
    × (close_held 0 1 nine ≡ room (11 ∷ 12 ∷ 21 ∷ 22 ∷ 23 ∷ 31 ∷ 32 ∷ 33 ∷ 34 ∷ 91 ∷ 92 ∷ 93 ∷ []) (counted 3 2 4))
unfolding close_held close_run put cut
closes_held = (refl, refl)

-- one that is held leaves, and those behind it move down
pub hands : (hand_out 1 1 nine ≡ room (11 ∷ 12 ∷ 21 ∷ 23 ∷ 31 ∷ 32 ∷ 33 ∷ 34 ∷ 34 ∷ 91 ∷ 92 ∷ 93 ∷ []) (counted 2 2 4))
    × (remove_run 1 3 7 (5 ∷ 6 ∷ 7 ∷ 8 ∷ 9 ∷ 10 ∷ 11 ∷ 12 ∷ []) ≡ 5 ∷ 9 ∷ 10 ∷ 11 ∷ 9 ∷ 10 ∷ 11 ∷ 12 ∷ [])
unfolding hand_out remove_run put cut
hands = (refl, refl)

-- the close list leaves, and the others move down to the start
pub takes : take_closed nine ≡ room (21 ∷ 22 ∷ 23 ∷ 31 ∷ 32 ∷ 33 ∷ 34 ∷ 33 ∷ 34 ∷ 91 ∷ 92 ∷ 93 ∷ []) (counted 0 3 4)
unfolding take_closed remove_run put cut
takes = refl

-- what is given out stands at the start of the output, and the rest of that stays
pub outputs : Gives nine (22 ∷ 23 ∷ []) (1 ∷ 2 ∷ 3 ∷ []) nine (22 ∷ 23 ∷ 3 ∷ [])
unfolding put
outputs = record { left = refl; given = refl }
