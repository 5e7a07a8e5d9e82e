use Rattle.batch.specs.EventsLaws.{marked_as}
use Rattle.batch.proofs.events.mark.Goals as goal

pub returns : goal.returns
returns c = marked_as _ _ c.args.event _ c.from.ensures c.requires
