use Rattle.listing.specs.Laws.{word_wrote}
use Rattle.listing.proofs.lines.last.Goals as goal

pub returns : goal.returns
returns c = word_wrote _ _ _ _ _ _ _ c.copy_in.ensures c.item.ensures c.requires
