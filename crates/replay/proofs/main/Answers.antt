use Rattle.std.proofs.Common.{sym, ℕ, length, replicate}
use Rattle.std.proofs.Math.ListN.{length-replicate}
use Rattle.replay.proofs.main.Goals as goal

pub slice_bounds-store-end : goal.slice_bounds-store-end
slice_bounds-store-end c = sym {a = length {0} {A = ℕ} (replicate {0} {A = ℕ} 4194304 0)} {b = 4194304} (length-replicate {0} {A = ℕ} 4194304 0)

pub with_bytes-requires : goal.with_bytes-requires
with_bytes-requires c = tt

pub returns : goal.returns
returns c = tt
