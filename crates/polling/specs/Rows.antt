-- Laws of lists that the theorems cite: the oldest of a number in a row with descriptors. Assumes nothing.
use Rattle.std.specs.Prelude.{◌≡◌, refl, Bool, true, false, ℕ, ◌+◌, eqb, take, drop}
use Rattle.std.proofs.Math.Path.{ap}
use Rattle.std.proofs.Common.{◌∙◌, drop-drop, eq-eqb, ne_eqb}
use mathlib.Core.List.{List, [], ◌∷◌, ◌++◌}
use Rattle.octets.specs.Logic.{choose}
use Rattle.octets.specs.Put.{cut}
use Rattle.refusal.specs.Answer.{Answer}
use Rattle.held.specs.General.{choose_yes, choose_no}
use Rattle.held.specs.Head as Head
use Rattle.held.specs.Reading.{All, fds_in}
use Rattle.held.specs.Lies.{Other}
use Rattle.model.specs.Client.{Held}
use Rattle.model.specs.Model.{nothing, at, behind, find}
use Rattle.model.specs.Reading.{held_with, with_descriptors}
use Rattle.model.specs.ReadingLaws.{with_append}
use Rattle.model.specs.Promise.{Done, model_of}

-- ---- answers

pub model_choose : {A : Type 0} (b : Bool) (x y : Answer (Done A)) → model_of (choose b x y) ≡ choose b (model_of x) (model_of y)
unfolding choose
model_choose true x y = refl
model_choose false x y = refl

-- ---- rows of records with their descriptors

-- the first of a number is found behind those of other numbers,
pub find_at : (n : ℕ) (before : List Head.Record) (fds : List ℕ) (h : Held) (l : List Held) → All (Other n) before → h.number ≡ n
    → find n (with_descriptors before fds ++ (h ∷ l)) ≡ at h (with_descriptors before fds ++ l)
unfolding find with_descriptors All
find_at n [] fds h l a e = choose_yes (eqb h.number n) (at h l) (behind h (find n l)) (eq-eqb h.number n e)
find_at n (x ∷ before) fds h l a e =
    choose_no (eqb x.number n) (at (held_with x (take x.fds fds)) (with_descriptors before (drop x.fds fds) ++ (h ∷ l)))
    (behind (held_with x (take x.fds fds)) (find n (with_descriptors before (drop x.fds fds) ++ (h ∷ l))))
    (ne_eqb x.number n a.0)
    ∙ ap (behind (held_with x (take x.fds fds))) (find_at n before (drop x.fds fds) h l a.1 e)

-- and none where all are of others.
pub find_none : (n : ℕ) (row : List Head.Record) (fds : List ℕ) → All (Other n) row → find n (with_descriptors row fds) ≡ nothing
unfolding find with_descriptors All
find_none n [] fds a = refl
find_none n (x ∷ row) fds a =
    choose_no (eqb x.number n) (at (held_with x (take x.fds fds)) (with_descriptors row (drop x.fds fds)))
    (behind (held_with x (take x.fds fds)) (find n (with_descriptors row (drop x.fds fds))))
    (ne_eqb x.number n a.0)
    ∙ ap (behind (held_with x (take x.fds fds))) (find_none n row (drop x.fds fds) a.1)

module _ (before : List Head.Record) (it : Head.Record) (after : List Head.Record) (fds : List ℕ) where
  -- a row, split at one of its records
  pub with_split : with_descriptors (before ++ (it ∷ after)) fds
      ≡ with_descriptors before fds ++ (held_with it (cut (fds_in before) it.fds fds) ∷ with_descriptors after (drop (fds_in before + it.fds) fds))
  unfolding with_descriptors cut
  with_split =
      with_append before (it ∷ after) fds
      ∙ ap (λ (x : List ℕ). with_descriptors before fds ++ (held_with it (take it.fds (drop (fds_in before) fds)) ∷ with_descriptors after x)) (drop-drop it.fds (fds_in before) fds)
