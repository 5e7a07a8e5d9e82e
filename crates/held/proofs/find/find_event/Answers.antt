use Rattle.held.specs.Find.{found_event}
use Rattle.held.proofs.find.find_event.Goals as goal

pub returns : goal.returns
unfolding found_event
returns c = c.find.ensures
