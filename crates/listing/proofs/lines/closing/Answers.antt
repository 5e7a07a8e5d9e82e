use Rattle.listing.specs.Text.{end_line}
use Rattle.listing.specs.Laws.{end_lists, more_lists}
use Rattle.listing.proofs.lines.closing.Goals as goal

pub returns-then-over : goal.returns-then-over
unfolding end_line
returns-then-over c = end_lists _ _ _ _ _ _ _ _ c.if-over.true c.requires c.last-end.ensures

pub returns : goal.returns
returns c = more_lists _ _ _ _ _ _ c.if-over.false c.requires
