use Rattle.std.proofs.Common.{◌∙◌}
use Rattle.requests.specs.Room.{put_mode, under_mode}
use Rattle.requests.proofs.put_mode.Goals as goal

pub returns : goal.returns
unfolding put_mode under_mode
returns c = c.put.ensures ∙ simp c.get-request.ensures
