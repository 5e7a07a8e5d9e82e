use Rattle.std.proofs.Common.{sym, ℕ, length, replicate}
use Rattle.std.proofs.Math.ListN.{length-replicate}
use Rattle.replay.proofs.zeros.Goals as goal

pub returns : goal.returns
returns c = sym {a = length {0} {A = ℕ} (replicate {0} {A = ℕ} 3277828 0)} {b = 3277828} (length-replicate {0} {A = ℕ} 3277828 0)
