-- Every run's records can be followed, and those of a run whose numbers are right are tied to their packets. Assumes nothing.
use Rattle.std.specs.Prelude.{List}
use Rattle.model.specs.Client.{Client}
use Rattle.honest.specs.Run.{Entry, Runs}
use Rattle.honest.specs.Origins.{Lists, Traced}

-- there is a way to follow them
pub record Trace {c : Client} {l : List Entry} (r : Runs c l) : Type 0 where
  pub records : Lists
  pub traced : Traced c l r records
