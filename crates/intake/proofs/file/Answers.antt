use Rattle.intake.specs.Steps.{file_reply}
use Rattle.intake.proofs.file.Goals as goal

pub returns-in-Replies : goal.returns-in-Replies
returns-in-Replies c = file_reply _ _ _ _ _ _ _ _ _ c.moved.ensures c.in-Replies.is _ c.append-next.ensures c.hold-fds.ensures
