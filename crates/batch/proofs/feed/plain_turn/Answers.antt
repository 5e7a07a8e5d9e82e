use Rattle.batch.specs.Plain.{plain_turn}
use Rattle.batch.proofs.feed.plain_turn.Goals as goal

pub returns : goal.returns
returns c = plain_turn _ _ _ _ _ _ c.requires.1 c.take_plain.ensures
