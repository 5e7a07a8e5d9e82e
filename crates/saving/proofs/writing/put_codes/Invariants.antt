use Rattle.saving.specs.Writing.{Codes}
use Rattle.saving.proofs.writing.put_codes.Given as goal

abbrev pub invariant-loop-i : goal.invariant-loop-i
invariant-loop-i l = Codes l.initial.out l.to l.requests l.first l.count l.out l.i
