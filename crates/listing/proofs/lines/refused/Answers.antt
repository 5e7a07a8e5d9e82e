use Rattle.std.proofs.Common.{sym}
use Rattle.listing.specs.Text.{refused_line}
use Rattle.listing.specs.Laws.{refused_lists}
use Rattle.listing.proofs.lines.refused.Goals as goal

pub returns : goal.returns
unfolding refused_line
returns c = refused_lists _ _ _ _ _ _ c.requires (rw (sym c.number.ensures) c.last-end.ensures)
