use Rattle.saving.specs.Writing.{Numbers}
use Rattle.saving.proofs.writing.put_numbers.Given as goal

abbrev pub invariant-loop-i : goal.invariant-loop-i
invariant-loop-i l = Numbers l.fn.out l.to l.numbers l.out l.i
