use Rattle.held.specs.Find.{found_reply}
use Rattle.held.proofs.find.find_reply.Goals as goal

pub returns : goal.returns
unfolding found_reply
returns c = c.find.ensures
