use Rattle.std.proofs.Common.{◌≡◌, List, ℕ, ◌-◌, ◌*◌, ◌≤◌}
use Rattle.octets.specs.Put.{cut}
use Rattle.held.specs.Walk.{walked_on}
use Rattle.held.proofs.soundness.records.Given as goal

-- what is left says what the whole says; a record has at most 255 descriptors and 48 bytes or more
pub record Inv (s : List ℕ) (start end last at from sum : ℕ) : Type 0 where
  pub most : at ≤ end
  pub few : sum ≤ 6 * at
  pub same : walked_on 0 last 0 (cut start (end - start) s) ≡ walked_on from last sum (cut at (end - at) s)

abbrev pub invariant-loop-at : goal.invariant-loop-at
invariant-loop-at l = Inv l.store l.start l.end l.last l.at l.from l.sum

abbrev pub decreases-loop-at : goal.decreases-loop-at
decreases-loop-at l = l.end - l.at
