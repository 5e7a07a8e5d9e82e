use Rattle.std.proofs.Common.{sym, ap, ◌∙◌, arith}
use Rattle.sequence.specs.declared.WireNumber.{WireNumber}
use Rattle.packet.specs.Laws.{number_last, number_found}
use Rattle.packet.proofs.number_after.Goals as goal

pub returns-then-is_unnumbered : goal.returns-then-is_unnumbered
returns-then-is_unnumbered c = sym (number_last _ _ _ (sym c.is_unnumbered.ensures ∙ c.if-is_unnumbered.true))

pub returns : goal.returns
returns c = number_found _ _ _ _ _ (sym c.is_unnumbered.ensures ∙ c.if-is_unnumbered.false) (omega arith) (ap (λ (w : WireNumber). w.0) c.wire_number.ensures) c.full_number.ensures
