use Rattle.held.specs.Moves.{demote_rotated}
use Rattle.held.proofs.moves.demote.Goals as goal

pub returns : goal.returns
returns c = demote_rotated _ _ _ _ _ c.requires c.put_kind.ensures c.rotate.ensures
