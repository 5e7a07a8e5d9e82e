use Rattle.listing.specs.Laws.{line_wrote}
use Rattle.listing.proofs.lines.line.Goals as goal

pub returns : goal.returns
returns c = line_wrote _ _ _ _ _ _ _ _ _ _ _ c.requires c.item-a.ensures c.item-b.ensures c.item.ensures
