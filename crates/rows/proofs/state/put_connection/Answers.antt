use Rattle.std.proofs.Common.{refl, ◌∙◌, ne_eqb}
use Rattle.octets.specs.Logic.{choose}
use Rattle.rows.specs.State.{connection_row, kept_filled, row_filled}
use Rattle.rows.proofs.state.put_connection.Goals as goal

pub returns-then-s-ne-CONNECTION : goal.returns-then-s-ne-CONNECTION
unfolding connection_row choose
returns-then-s-ne-CONNECTION c = simp (ne_eqb _ _ c.if-s-ne-CONNECTION.true)

pub returns : goal.returns
unfolding connection_row choose
returns c = row_filled c.args.s.now _ _ _ _ c.args.c c.if-s-ne-CONNECTION.false refl refl (c.put_kept.ensures ∙ kept_filled _ _ c.if-s-ne-CONNECTION.false) c.put_four.ensures
