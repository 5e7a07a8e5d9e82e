use Rattle.listing.specs.Loop.{call_start, call_lines, call_ended}
use Rattle.listing.proofs.call.Goals as goal

pub returns-in-Start : goal.returns-in-Start
returns-in-Start c = call_start _ _ _ _ _ _ c.in-Start.is c.start.ensures

pub returns-in-After : goal.returns-in-After
returns-in-After c = call_lines _ _ _ _ _ _ _ c.in-After.is c.lines.ensures

pub returns-in-Ended : goal.returns-in-Ended
returns-in-Ended c = call_ended _ _ _ _ c.in-Ended.is
