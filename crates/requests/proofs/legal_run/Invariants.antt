use Rattle.std.proofs.Common.{◌≡◌, take}
use Rattle.requests.specs.Room.{legal_run}
use Rattle.requests.proofs.legal_run.Given as goal

abbrev pub invariant-loop-byte : goal.invariant-loop-byte
invariant-loop-byte l = l.good ≡ legal_run (take l.byte-index l.byte-items)
