use Rattle.std.proofs.Common.{◌≤◌, ◌≡◌, length}
use Rattle.script.proofs.lists.fds.Given as goal

abbrev pub invariant-loop-word : goal.invariant-loop-word
invariant-loop-word l = (l.count ≤ length l.list) × (length l.list ≡ length l.initial.list)
