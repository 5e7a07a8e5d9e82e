use Rattle.std.proofs.Common.{ℕ, ◌%◌, arith, ne_eqb}
use native.Mathlib.Decide.{ℕ_discrete}
use Rattle.octets.specs.Logic.{either}
use Rattle.packet.specs.Packet.{unnumbered}
use Rattle.packet.proofs.is_unnumbered.Goals as goal

pub returns : goal.returns
unfolding unnumbered either
returns c = let code : ℕ = c.args.code in
    elim (ℕ_discrete code 11) [ yes e ↦ simp e | no n ↦ elim (ℕ_discrete code 139) [ yes e ↦ simp e | no m ↦ simp (ne_eqb code 11 n, ne_eqb code 139 m, ne_eqb (code % 128) 11 (λ z. omega arith)) ] ]
