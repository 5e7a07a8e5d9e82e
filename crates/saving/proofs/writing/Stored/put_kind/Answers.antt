use Rattle.saving.specs.WritingRows.{records_put}
use Rattle.saving.proofs.writing.Stored.put_kind.Goals as goal

pub returns : goal.returns
returns c = records_put _ _ _ _ _ _ _ c.copy_kind-passed.ensures c.put_u32.ensures c.requires
