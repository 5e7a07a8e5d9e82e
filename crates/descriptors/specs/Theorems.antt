-- The laws of the descriptors that the floors above cite. Each move turns three lists into three, keeps the room sound, and loses or
-- doubles no descriptor. Assumes nothing.
use Rattle.std.specs.Prelude.{◌≡◌, refl, ◌↔◌, true, List, [], ◌++◌, ℕ, ◌+◌, ◌≤◌, eqb, length, take, drop}
use Rattle.std.proofs.Common.{◌∙◌, leb-true, le-leb, eqb-true, eq-eqb}
use native.Mathlib.Omega.{arith}
use Rattle.octets.specs.Logic.{both_left, both_right, both_yes}
use Rattle.octets.specs.Put.{length_put}
use Rattle.descriptors.specs.Room.{most_descriptors, total, counted, Room, room, Sound, sound, closing, holding, waiting, Lists, held_run, inside, count, enqueue, hold, close_waiting, close_held, hand_out, take_closed}
use Rattle.descriptors.specs.Parts as Parts
use Rattle.descriptors.specs.Counting.{count_append, count_split, count_lists, count_inside, count_run}

-- The test holds exactly where there are 256 slots and at most so many descriptors.
pub sound_is : (d : Room) → sound d ≡ true ↔ Sound d
unfolding sound
sound_is d = (
  λ e. record { long = eqb-true _ _ (both_left _ _ e); most = leb-true _ _ (both_right (eqb (length d.slots) most_descriptors) _ e) },
  λ s. both_yes _ _ (eq-eqb (length d.slots) most_descriptors s.long) (le-leb (total d.counts) most_descriptors s.most),
)

-- Where none is counted the three lists are empty, whatever the slots hold.
pub none_lists : (s : List ℕ) → Lists (room s (counted 0 0 0)) [] [] []
none_lists s = Parts.read s [] [] [] s (counted 0 0 0) refl refl refl refl

module _ (d : Room) (S : Sound d) where
  fit : total d.counts ≤ length d.slots
  fit = omega (arith, S.long, S.most)

  -- As many are to be closed as are counted;
  pub length_closing : length (closing d) ≡ d.counts.closed
  length_closing = Parts.length_closing d fit

  -- so with those held,
  pub length_holding : length (holding d) ≡ d.counts.held
  length_holding = Parts.length_holding d fit

  -- and with those that wait.
  pub length_waiting : length (waiting d) ≡ d.counts.waiting
  length_waiting = Parts.length_waiting d fit

  -- ---- descriptors come to wait

  -- They stand behind those that waited; the other two lists stay.
  pub enqueue_lists : (l : List ℕ) → Lists (enqueue l d) (closing d) (holding d) (waiting d ++ l)
  enqueue_lists l = Parts.enqueue_parts d fit l

  -- The room stays sound while there is room.
  pub enqueue_sound : (l : List ℕ) → total d.counts + length l ≤ most_descriptors → Sound (enqueue l d)
  unfolding enqueue
  enqueue_sound l h = record { long = length_put d.slots (total d.counts) l (omega (arith, S.long)) ∙ S.long; most = omega arith }

  -- Each descriptor is inside as often as before, and as often more as the list has it.
  pub enqueue_count : (x : ℕ) (l : List ℕ) → count x (inside (enqueue l d)) ≡ count x (inside d) + count x l
  enqueue_count x l = omega (arith, count_lists x _ _ _ _ (enqueue_lists l), count_inside x d, count_append x (waiting d) l)

  -- ---- the first n that wait

  module _ (n : ℕ) (some : n ≤ d.counts.waiting) where
    -- The newest reply takes them: they stand behind those held, and no longer wait.
    pub hold_lists : Lists (hold n d) (closing d) (holding d ++ take n (waiting d)) (drop n (waiting d))
    hold_lists = Parts.hold_parts d fit n some

    -- The room stays sound.
    pub hold_sound : Sound (hold n d)
    unfolding hold
    hold_sound = record { long = S.long; most = omega (arith, S.most) }

    -- Each descriptor is inside as often as before.
    pub hold_count : (x : ℕ) → count x (inside (hold n d)) ≡ count x (inside d)
    hold_count x =
        omega (arith, count_lists x _ _ _ _ hold_lists, count_inside x d, count_append x (holding d) (take n (waiting d)), count_split x n (waiting d))

    -- Those of a dropped reply go to the end of the close list, and those held stay.
    pub close_waiting_lists : Lists (close_waiting n d) (closing d ++ take n (waiting d)) (holding d) (drop n (waiting d))
    close_waiting_lists = Parts.close_waiting_parts d fit n some

    -- The room stays sound.
    pub close_waiting_sound : Sound (close_waiting n d)
    unfolding close_waiting
    close_waiting_sound = record { long = Parts.length_close_run d fit d.counts.held n (omega arith) ∙ S.long; most = omega (arith, S.most) }

    -- Each descriptor is inside as often as before.
    pub close_waiting_count : (x : ℕ) → count x (inside (close_waiting n d)) ≡ count x (inside d)
    close_waiting_count x =
        omega (arith, count_lists x _ _ _ _ close_waiting_lists, count_inside x d, count_append x (closing d) (take n (waiting d)), count_split x n (waiting d))

  -- ---- the n that are held from place at on

  module _ (at n : ℕ) (some : at + n ≤ d.counts.held) where
    -- To be closed: they go to the end of the close list, and those before and behind them stay held.
    pub close_held_lists : Lists (close_held at n d) (closing d ++ held_run at n d) (take at (holding d) ++ drop (at + n) (holding d)) (waiting d)
    close_held_lists = Parts.close_held_parts d fit at n some

    -- The room stays sound.
    pub close_held_sound : Sound (close_held at n d)
    unfolding close_held
    close_held_sound = record { long = Parts.length_close_run d fit at n (omega arith) ∙ S.long; most = omega (arith, S.most) }

    -- Each descriptor is inside as often as before.
    pub close_held_count : (x : ℕ) → count x (inside (close_held at n d)) ≡ count x (inside d)
    close_held_count x = omega (arith, count_lists x _ _ _ _ close_held_lists, count_inside x d, count_append x (closing d) (held_run at n d), count_run x d fit at n some)

    -- Handed out: they leave, and those before and behind them stay held.
    pub hand_out_lists : Lists (hand_out at n d) (closing d) (take at (holding d) ++ drop (at + n) (holding d)) (waiting d)
    hand_out_lists = Parts.hand_out_parts d fit at n some

    -- The room stays sound.
    pub hand_out_sound : Sound (hand_out at n d)
    unfolding hand_out
    hand_out_sound = record { long = Parts.length_remove_run d fit (d.counts.closed + at) n (omega arith) ∙ S.long; most = omega (arith, S.most) }

    -- Each descriptor is inside or handed out as often as it was inside.
    pub hand_out_count : (x : ℕ) → count x (inside (hand_out at n d)) + count x (held_run at n d) ≡ count x (inside d)
    hand_out_count x = omega (arith, count_lists x _ _ _ _ hand_out_lists, count_inside x d, count_run x d fit at n some)

  -- ---- the close list is taken

  -- It leaves whole, and the other two lists stay.
  pub take_closed_lists : Lists (take_closed d) [] (holding d) (waiting d)
  take_closed_lists = Parts.take_closed_parts d fit

  -- The room stays sound.
  pub take_closed_sound : Sound (take_closed d)
  unfolding take_closed
  take_closed_sound = record { long = Parts.length_remove_run d fit 0 d.counts.closed (omega arith) ∙ S.long; most = omega (arith, S.most) }

  -- Each descriptor is inside or handed out as often as it was inside.
  pub take_closed_count : (x : ℕ) → count x (inside (take_closed d)) + count x (closing d) ≡ count x (inside d)
  unfolding count
  take_closed_count x = omega (arith, count_lists x _ _ _ _ take_closed_lists, count_inside x d)
