use Rattle.intake.specs.Event.{plain_room, plain_step}
use Rattle.std.proofs.Common.{arith}
use Rattle.intake.proofs.event.take_plain.Goals as goal

pub behind-after-requires : goal.behind-after-requires
behind-after-requires c = (plain_room _ _ _ _ c.requires.0 c.requires.1, omega (arith, c.requires.1.most))

pub returns : goal.returns
returns c = plain_step _ _ _ _ c.requires.0 c.requires.1 _ c.numbered-next.ensures _ _ c.behind-after.ensures _ c.moved.ensures
