use Rattle.std.proofs.Common.{◌≡◌, Bool, List, ℕ, ◌-◌, ◌*◌, ◌≤◌}
use Rattle.octets.specs.Put.{cut}
use Rattle.held.specs.Head.{Record}
use Rattle.held.specs.Reading.{read_all}
use Rattle.held.specs.Rest.{Rest}
use Rattle.held.specs.Find.{sought, wanted}
use Rattle.std.specs.Option.{is_none, unwrap_or}
use Rattle.held.proofs.find.find.Given as goal

-- the records hs that are left say what all say; each has at most 255 descriptors and 48 bytes or more
pub record Inv (s : List ℕ) (kind : ℕ) (any : Bool) (number start end at before : ℕ) : Type 0 where
  pub hs : List Record
  pub rest : Rest s at end hs
  pub few : before ≤ 6 * at
  pub same : sought (wanted kind any number) start 0 (read_all (cut start (end - start) s)) ≡ sought (wanted kind any number) at before hs

abbrev pub invariant-loop-at : goal.invariant-loop-at
invariant-loop-at l = Inv l.store l.kind (is_none l.number) (unwrap_or l.number 0) l.initial.at l.end l.at l.before

abbrev pub decreases-loop-at : goal.decreases-loop-at
decreases-loop-at l = l.end - l.at
