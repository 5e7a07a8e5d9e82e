use Rattle.std.proofs.Common.{eq-eqb, ne_eqb, arith, ◌≤◌}
use Rattle.requests.specs.Room.{mode_of}
use Rattle.octets.specs.Logic.{choose}
use Rattle.requests.proofs.ModeFromU8.from.Goals as goal

pub returns-in-0 : goal.returns-in-0
unfolding mode_of choose
returns-in-0 c = simp (eq-eqb _ _ c.in-0.is)

pub returns-in-1 : goal.returns-in-1
unfolding mode_of choose
returns-in-1 c = simp (ne_eqb c.args.number 0 (λ e. omega (arith, c.in-1.is)), eq-eqb _ _ c.in-1.is)

pub returns-in_default : goal.returns-in_default
unfolding mode_of choose
returns-in_default c =
    let h : 2 ≤ c.args.number = omega arith in
    simp (ne_eqb c.args.number 0 (λ e. omega arith), ne_eqb c.args.number 1 (λ e. omega arith))
