use Rattle.saving.specs.Writing.{run_put}
use Rattle.std.proofs.Common.{refl}
use Rattle.saving.proofs.writing.put_run.Goals as goal

pub returns : goal.returns
returns c = (refl, run_put _ _ _ _ _ _ c.put_u32.ensures c.copy_in.ensures c.requires.0 c.requires.2)
