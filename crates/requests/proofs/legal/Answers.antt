use Rattle.std.proofs.Common.{arith, sym, ◌∙◌}
use Rattle.octets.specs.Logic.{both}
use Rattle.requests.specs.Legal.{legal_one, legal_two}
use Rattle.requests.specs.Room.{capacity}
use Rattle.requests.proofs.legal.Goals as goal

pub slot-start-requires : goal.slot-start-requires
unfolding capacity
slot-start-requires c = c.requires.0

pub returns-then-count-k : goal.returns-then-count-k
unfolding capacity
returns-then-count-k c = c.legal_run.ensures ∙ sym (legal_one _ _ _ _ c.slot-start.ensures.0 c.requires.0 c.requires.1 c.if-count-k.true)

pub returns-then-not-legal_run : goal.returns-then-not-legal_run
unfolding capacity both
returns-then-not-legal_run c = sym (legal_two _ _ _ _ c.slot-start.ensures.0 c.requires.0 c.requires.1 c.if-count-k.false ∙ simp (sym c.legal_run-2.ensures ∙ c.if-not-legal_run.true))

pub legal_run-requires-3 : goal.legal_run-requires-3
unfolding capacity
legal_run-requires-3 c = omega arith

pub returns : goal.returns
unfolding capacity both
returns c = sym (legal_two _ _ _ _ c.slot-start.ensures.0 c.requires.0 c.requires.1 c.if-count-k.false ∙ simp (sym c.legal_run-2.ensures ∙ c.if-not-legal_run.false, sym c.legal_run-3.ensures))
