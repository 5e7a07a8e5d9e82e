use Rattle.std.proofs.Common.{sym, ◌∙◌}
use Rattle.discarding.specs.Steps.{clear_error, clear_reply}
use Rattle.discarding.proofs.clear.Goals as goal

pub returns-then-is_error : goal.returns-then-is_error
returns-then-is_error c = clear_error _ _ _ _ c.in-DiscardReply.is _ _ c.class_at.ensures (sym c.is_error.ensures ∙ c.if-is_error.true) c.demote.ensures

pub returns-else-is_error : goal.returns-else-is_error
returns-else-is_error c = clear_reply _ _ _ _ c.in-DiscardReply.is _ _ _ c.class_at.ensures (sym c.is_error.ensures ∙ c.if-is_error.false) c.remove.ensures
