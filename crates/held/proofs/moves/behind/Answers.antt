use Rattle.held.specs.Moves.{behind_is}
use Rattle.held.proofs.moves.behind.Goals as goal

pub returns : goal.returns
returns c = behind_is _ _ _ _ c.put_record.ensures
