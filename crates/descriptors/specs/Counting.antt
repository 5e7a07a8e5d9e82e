-- How often a descriptor is in a list, and in a room. Assumes nothing.
use Rattle.std.specs.Prelude.{◌≡◌, refl, List, [], ◌∷◌, ◌++◌, ℕ, ◌+◌, ◌≤◌, length, take, drop}
use Rattle.std.proofs.Common.{sym, ap, ◌∙◌, arith, take-append-drop}
use Rattle.descriptors.specs.Room.{total, Room, closing, holding, waiting, Lists, held_run, inside, count}
use Rattle.descriptors.specs.Parts.{held_split}

pub count_append : (x : ℕ) (a b : List ℕ) → count x (a ++ b) ≡ count x a + count x b
unfolding count
count_append x [] b = omega arith
count_append x (y ∷ a) b = omega (arith, count_append x a b)

-- a list and its two parts
pub count_split : (x n : ℕ) (l : List ℕ) → count x (take n l) + count x (drop n l) ≡ count x l
count_split x n l = sym (count_append x (take n l) (drop n l)) ∙ ap (count x) (take-append-drop n l)

-- how often one is inside
pub count_lists : (x : ℕ) (d : Room) (c h w : List ℕ) → Lists d c h w → count x (inside d) ≡ count x c + (count x h + count x w)
unfolding inside
count_lists x d c h w l =
    (λ j. count x (l.closing_is j ++ (l.holding_is j ++ l.waiting_is j))) ∙ count_append x c (h ++ w) ∙ ap (λ (n : ℕ). count x c + n) (count_append x h w)

pub count_inside : (x : ℕ) (d : Room) → count x (inside d) ≡ count x (closing d) + (count x (holding d) + count x (waiting d))
count_inside x d = count_lists x d (closing d) (holding d) (waiting d) (record { closing_is = refl; holding_is = refl; waiting_is = refl })

-- a run of those that are held, and the ones before and behind it
pub count_run : (x : ℕ) (d : Room) → total d.counts ≤ length d.slots → (at n : ℕ) → at + n ≤ d.counts.held
    → count x (held_run at n d) + count x (take at (holding d) ++ drop (at + n) (holding d)) ≡ count x (holding d)
count_run x d fit at n some =
    let a : List ℕ = take at (holding d) in
    let b : List ℕ = drop (at + n) (holding d) in
    let r : List ℕ = held_run at n d in
    omega (arith, ap (count x) (held_split d fit at n some), count_append x a (r ++ b), count_append x r b, count_append x a b)
