use Rattle.std.proofs.Common.{◌≡◌, List, ℕ, ◌+◌, ◌-◌, ◌≤◌, length}
use Rattle.octets.specs.Put.{cut}
use Rattle.held.specs.Head.{Record, reply}
use Rattle.held.specs.Reading.{read_all, only}
use Rattle.held.specs.Rest.{Rest}
use Rattle.held.specs.Tally.{own, higher}
use Rattle.held.proofs.counting.count.Given as goal

-- the replies in all
abbrev pub rs : List ℕ → ℕ → ℕ → List Record
rs s start end = only reply (read_all (cut start (end - start) s))

-- what was counted and what the records hs that are left count is what all count
pub record Inv (s : List ℕ) (n start end at a b : ℕ) : Type 0 where
  pub hs : List Record
  pub rest : Rest s at end hs
  pub few : (a ≤ at) × (b ≤ at)
  pub owns : length (own n (rs s start end)) ≡ a + length (own n (only reply hs))
  pub aboves : length (higher n (rs s start end)) ≡ b + length (higher n (only reply hs))

abbrev pub invariant-loop-at : goal.invariant-loop-at
invariant-loop-at l = Inv l.store l.number l.initial.at l.end l.at l.own l.above

abbrev pub decreases-loop-at : goal.decreases-loop-at
decreases-loop-at l = l.end - l.at
