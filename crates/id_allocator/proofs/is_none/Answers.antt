use Rattle.std.proofs.Common.{eq-eqb, ne_eqb}
use Rattle.octets.specs.Logic.{both, either}
use Rattle.id_allocator.specs.Ids.{no_ids}
use Rattle.id_allocator.proofs.is_none.Goals as goal

pub returns-then-count-eq0 : goal.returns-then-count-eq0
unfolding no_ids either
returns-then-count-eq0 c = simp (eq-eqb _ _ c.if-count-eq0.true)

pub returns-then-start-eq0 : goal.returns-then-start-eq0
unfolding no_ids both either
returns-then-start-eq0 c = simp (ne_eqb _ _ c.if-count-eq0.false, eq-eqb _ _ c.if-start-eq0.true)

pub returns : goal.returns
unfolding no_ids both either
returns c = simp (ne_eqb _ _ c.if-count-eq0.false, ne_eqb _ _ c.if-start-eq0.false)
