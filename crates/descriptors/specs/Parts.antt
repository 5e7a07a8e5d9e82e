-- The slots as three parts and a rest: each move is shown on the parts, and what stands so is read so. Assumes nothing.
use Rattle.std.specs.Prelude.{◌≡◌}
use Rattle.std.proofs.Math.Path.{refl, sym, ap}
use Rattle.std.proofs.Common.{◌∙◌, zero-add, arith, length-drop, drop-drop, length-take-le}
use Prim.Native.Nat.{ℕ, ◌+◌, ◌-◌, ◌≤◌}
use mathlib.Core.List.{List, [], ◌++◌, append_assoc}
use Rattle.std.proofs.Math.ListN.{length, take, drop, length-append, take-append-drop}
use Rattle.std.proofs.Math.Seq.{take_at}
use Rattle.octets.specs.Put.{put, cut, put_parts, length_put, length_cut, cut_parts}
use Rattle.descriptors.specs.Room.{total, Room, room, closing, holding, waiting, Lists, held_run, enqueue, hold, close_run, close_waiting, close_held, remove_run, hand_out, take_closed}
use Rattle.descriptors.specs.declared.Counts.{Counts}

-- what stands as three parts is read as them
pub read : (s c h w r : List ℕ) (k : Counts) → s ≡ c ++ (h ++ (w ++ r)) → length c ≡ k.closed → length h ≡ k.held → length w ≡ k.waiting → Lists (room s k) c h w
unfolding closing holding waiting
read s c h w r k e p q o = record {
  closing_is = ap (cut 0 k.closed) e ∙ cut_parts [] c (h ++ (w ++ r)) 0 k.closed refl p;
  holding_is = ap (cut k.closed k.held) e ∙ cut_parts c h (w ++ r) k.closed k.held p q;
  waiting_is = ap (cut (k.closed + k.held) k.waiting) (e ∙ sym (append_assoc c h (w ++ r)))
      ∙ cut_parts (c ++ h) w r (k.closed + k.held) k.waiting (length-append c h ∙ (λ j. p j + q j)) o;
}

-- behind the close list c, the run x goes to its end and a moves up
pub close_parts : (c a x t : List ℕ) (closed at n : ℕ) → length c ≡ closed → length a ≡ at → length x ≡ n → close_run closed at n (c ++ (a ++ (x ++ t))) ≡ (c ++ x) ++ (a ++ t)
unfolding close_run
close_parts c a x t closed at n p q o =
    let s : List ℕ = c ++ (a ++ (x ++ t)) in
    let u : cut (closed + at) n s ≡ x =
    ap (cut (closed + at) n) (sym (append_assoc c a (x ++ t))) ∙ cut_parts (c ++ a) x t (closed + at) n (length-append c a ∙ (λ j. p j + q j)) o in
    let v : cut closed at s ≡ a = cut_parts c a (x ++ t) closed at p q in
    let l : length (a ++ x) ≡ length (x ++ a) = omega (arith, length-append a x, length-append x a) in
    (λ j. put (c ++ sym (append_assoc a x t) j) closed (u j ++ v j))
    ∙ put_parts c (a ++ x) t closed (x ++ a) p l
    ∙ simp append_assoc

-- the run x leaves, and t moves down
pub remove_parts : (c x t r : List ℕ) (from n end : ℕ) → length c ≡ from → length x ≡ n → from + n + length t ≡ end
    → remove_run from n end (c ++ (x ++ (t ++ r))) ≡ c ++ (t ++ drop (from + length t) (c ++ (x ++ (t ++ r))))
unfolding remove_run put
remove_parts c x t r from n end p q o =
    let s : List ℕ = c ++ (x ++ (t ++ r)) in
    let z : length t ≡ end - (from + n) = omega arith in
    let u : cut (from + n) (end - (from + n)) s ≡ t =
    ap (cut (from + n) (end - (from + n))) (sym (append_assoc c x (t ++ r))) ∙ cut_parts (c ++ x) t r (from + n) (end - (from + n)) (length-append c x ∙ (λ j. p j + q j)) z in
    (λ j. take from s ++ (u j ++ drop (from + length (u j)) s)) ∙ ap (λ (l : List ℕ). l ++ (t ++ drop (from + length t) s)) (take_at c (x ++ (t ++ r)) from p)

-- a cut and what stands behind it
cut_drop : (at n : ℕ) (s : List ℕ) → cut at n s ++ drop (at + n) s ≡ drop at s
unfolding cut
cut_drop at n s = ap (λ (l : List ℕ). take n (drop at s) ++ l) (sym (drop-drop n at s)) ∙ take-append-drop n (drop at s)

-- the slots behind the three parts
unfoldable pub rest : Room → List ℕ
rest d = drop (total d.counts) d.slots

module _ (d : Room) (fit : total d.counts ≤ length d.slots) where
  -- the parts are as long as they are counted,
  pub length_closing : length (closing d) ≡ d.counts.closed
  unfolding closing
  length_closing = length_cut 0 d.counts.closed d.slots (omega arith)

  pub length_holding : length (holding d) ≡ d.counts.held
  unfolding holding
  length_holding = length_cut d.counts.closed d.counts.held d.slots (omega arith)

  pub length_waiting : length (waiting d) ≡ d.counts.waiting
  unfolding waiting
  length_waiting = length_cut (d.counts.closed + d.counts.held) d.counts.waiting d.slots fit

  -- and side by side, before the rest, they are the slots
  pub parts : d.slots ≡ closing d ++ (holding d ++ (waiting d ++ rest d))
  unfolding rest closing holding waiting
  parts =
      let c : ℕ = d.counts.closed in
      let h : ℕ = d.counts.held in
      sym (ap (λ (l : List ℕ). cut 0 c d.slots ++ (cut c h d.slots ++ l)) (cut_drop (c + h) d.counts.waiting d.slots)
      ∙ ap (λ (l : List ℕ). cut 0 c d.slots ++ l) (cut_drop c h d.slots)
      ∙ ap (λ (k : ℕ). cut 0 c d.slots ++ drop k d.slots) (sym (zero-add c))
      ∙ cut_drop 0 c d.slots)

  -- as many slots as before
  pub length_close_run : (at n : ℕ) → d.counts.closed + at + n ≤ total d.counts → length (close_run d.counts.closed at n d.slots) ≡ length d.slots
  unfolding close_run
  length_close_run at n h =
      let k : ℕ = d.counts.closed in
      let l : length (cut (k + at) n d.slots ++ cut k at d.slots) ≡ n + at =
      length-append (cut (k + at) n d.slots) (cut k at d.slots) ∙ (λ j. length_cut (k + at) n d.slots (omega arith) j + length_cut k at d.slots (omega arith) j) in
      length_put d.slots k (cut (k + at) n d.slots ++ cut k at d.slots) (omega arith)

  pub length_remove_run : (from n : ℕ) → from + n ≤ total d.counts → length (remove_run from n (total d.counts) d.slots) ≡ length d.slots
  unfolding remove_run
  length_remove_run from n h =
      let m : ℕ = total d.counts - (from + n) in
      let l : length (cut (from + n) m d.slots) ≡ m = length_cut (from + n) m d.slots (omega arith) in
      length_put d.slots from (cut (from + n) m d.slots) (omega arith)

  -- Each move, on the parts.

  pub enqueue_parts : (l : List ℕ) → Lists (enqueue l d) (closing d) (holding d) (waiting d ++ l)
  unfolding enqueue put
  enqueue_parts l =
      let c : List ℕ = closing d in
      let h : List ℕ = holding d in
      let w : List ℕ = waiting d in
      let r : List ℕ = drop (total d.counts + length l) d.slots in
      let n : length (c ++ (h ++ w)) ≡ total d.counts = omega (arith, length-append c (h ++ w), length-append h w, length_closing, length_holding, length_waiting) in
      let t : take (total d.counts) d.slots ≡ c ++ (h ++ w) =
      ap (take (total d.counts)) (parts ∙ ap (λ (x : List ℕ). c ++ x) (sym (append_assoc h w (rest d))) ∙ sym (append_assoc c (h ++ w) (rest d)))
      ∙ take_at (c ++ (h ++ w)) (rest d) (total d.counts) n in
      read _ c h (w ++ l) r _ (ap (λ (x : List ℕ). x ++ (l ++ r)) t ∙ simp append_assoc) length_closing length_holding (length-append w l ∙ ap (λ (k : ℕ). k + length l) length_waiting)

  module _ (n : ℕ) (some : n ≤ d.counts.waiting) where
    -- those that wait are the first n and the others
    first_n : length (take n (waiting d)) ≡ n
    first_n = length-take-le n (waiting d) (omega (arith, length_waiting))

    others : length (drop n (waiting d)) ≡ d.counts.waiting - n
    others = length-drop n (waiting d) ∙ ap (λ (k : ℕ). k - n) length_waiting

    at_n : d.slots ≡ closing d ++ (holding d ++ (take n (waiting d) ++ (drop n (waiting d) ++ rest d)))
    at_n =
        parts ∙ ap (λ (x : List ℕ). closing d ++ (holding d ++ x)) (ap (λ (x : List ℕ). x ++ rest d) (sym (take-append-drop n (waiting d))) ∙ append_assoc (take n (waiting d)) (drop n (waiting d)) (rest d))

    pub hold_parts : Lists (hold n d) (closing d) (holding d ++ take n (waiting d)) (drop n (waiting d))
    unfolding hold
    hold_parts =
        read _ (closing d) (holding d ++ take n (waiting d)) (drop n (waiting d)) (rest d) _ (at_n ∙ simp append_assoc) length_closing
        (length-append (holding d) (take n (waiting d)) ∙ (λ j. length_holding j + first_n j)) others

    pub close_waiting_parts : Lists (close_waiting n d) (closing d ++ take n (waiting d)) (holding d) (drop n (waiting d))
    unfolding close_waiting
    close_waiting_parts =
        read _ (closing d ++ take n (waiting d)) (holding d) (drop n (waiting d)) (rest d) _
        (ap (close_run d.counts.closed d.counts.held n) at_n
        ∙ close_parts (closing d) (holding d) (take n (waiting d)) (drop n (waiting d) ++ rest d) d.counts.closed d.counts.held n length_closing length_holding first_n)
        (length-append (closing d) (take n (waiting d)) ∙ (λ j. length_closing j + first_n j)) length_holding others

  module _ (at n : ℕ) (some : at + n ≤ d.counts.held) where
    -- those that are held are the ones before the run, the run, and the ones behind it
    before : length (take at (holding d)) ≡ at
    before = length-take-le at (holding d) (omega (arith, length_holding))

    run : length (held_run at n d) ≡ n
    unfolding held_run
    run = length_cut at n (holding d) (omega (arith, length_holding))

    behind : length (drop (at + n) (holding d)) ≡ d.counts.held - (at + n)
    behind = length-drop (at + n) (holding d) ∙ ap (λ (k : ℕ). k - (at + n)) length_holding

    without : length (take at (holding d) ++ drop (at + n) (holding d)) ≡ d.counts.held - n
    without = omega (arith, length-append (take at (holding d)) (drop (at + n) (holding d)), before, behind)

    pub held_split : holding d ≡ take at (holding d) ++ (held_run at n d ++ drop (at + n) (holding d))
    unfolding held_run
    held_split = sym (ap (λ (x : List ℕ). take at (holding d) ++ x) (cut_drop at n (holding d)) ∙ take-append-drop at (holding d))

    at_run : d.slots ≡ closing d ++ (take at (holding d) ++ (held_run at n d ++ (drop (at + n) (holding d) ++ (waiting d ++ rest d))))
    at_run = parts ∙ ap (λ (x : List ℕ). closing d ++ (x ++ (waiting d ++ rest d))) held_split ∙ simp append_assoc

    pub close_held_parts : Lists (close_held at n d) (closing d ++ held_run at n d) (take at (holding d) ++ drop (at + n) (holding d)) (waiting d)
    unfolding close_held
    close_held_parts =
        let t : List ℕ = drop (at + n) (holding d) ++ (waiting d ++ rest d) in
        read _ (closing d ++ held_run at n d) (take at (holding d) ++ drop (at + n) (holding d)) (waiting d) (rest d) _
        (ap (close_run d.counts.closed at n) at_run
        ∙ close_parts (closing d) (take at (holding d)) (held_run at n d) t d.counts.closed at n length_closing before run
        ∙ ap (λ (x : List ℕ). (closing d ++ held_run at n d) ++ x) (sym (append_assoc (take at (holding d)) (drop (at + n) (holding d)) (waiting d ++ rest d))))
        (length-append (closing d) (held_run at n d) ∙ (λ j. length_closing j + run j)) without length_waiting

    pub hand_out_parts : Lists (hand_out at n d) (closing d) (take at (holding d) ++ drop (at + n) (holding d)) (waiting d)
    unfolding hand_out
    hand_out_parts =
        let c : List ℕ = closing d in
        let a : List ℕ = take at (holding d) in
        let b : List ℕ = drop (at + n) (holding d) in
        let w : List ℕ = waiting d in
        let from : ℕ = d.counts.closed + at in
        let s : List ℕ = (c ++ a) ++ (held_run at n d ++ ((b ++ w) ++ rest d)) in
        let r : List ℕ = drop (from + length (b ++ w)) s in
        let e : d.slots ≡ s = at_run ∙ simp append_assoc in
        let lp : length (c ++ a) ≡ from = length-append c a ∙ (λ j. length_closing j + before j) in
        let lt : from + n + length (b ++ w) ≡ total d.counts = omega (arith, length-append b w, behind, length_waiting) in
        read _ c (a ++ b) w r _
        (ap (remove_run from n (total d.counts)) e ∙ remove_parts (c ++ a) (held_run at n d) (b ++ w) (rest d) from n (total d.counts) lp run lt ∙ simp append_assoc)
        length_closing without length_waiting

  pub take_closed_parts : Lists (take_closed d) [] (holding d) (waiting d)
  unfolding take_closed
  take_closed_parts =
      let h : List ℕ = holding d in
      let w : List ℕ = waiting d in
      let s : List ℕ = closing d ++ ((h ++ w) ++ rest d) in
      let r : List ℕ = drop (0 + length (h ++ w)) s in
      let e : d.slots ≡ s = parts ∙ ap (λ (x : List ℕ). closing d ++ x) (sym (append_assoc h w (rest d))) in
      let l : 0 + d.counts.closed + length (h ++ w) ≡ total d.counts = omega (arith, length-append h w, length_holding, length_waiting) in
      read _ [] h w r _
      (ap (remove_run 0 d.counts.closed (total d.counts)) e ∙ remove_parts [] (closing d) (h ++ w) (rest d) 0 d.counts.closed (total d.counts) refl length_closing l ∙ append_assoc h w r)
      refl length_holding length_waiting
