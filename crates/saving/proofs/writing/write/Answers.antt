use Rattle.saving.specs.WritingFile.{file_put}
use Rattle.saving.proofs.writing.write.Goals as goal

pub returns : goal.returns
returns c = file_put _ _ _ _ _ _ _ _ _ _ _ _ _ _ _ _ _ _ _ _ _ c.requires c.put_numbers-a.ensures c.put_numbers-b.ensures c.put_requests-d.ensures (c.put_kind-e.ensures.0, c.put_kind-e.ensures.1) c.put_events-f.ensures c.put_run-g.ensures c.put_numbers.ensures
