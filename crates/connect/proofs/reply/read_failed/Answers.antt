use Rattle.connect.specs.Setup.{read_failed}
use Rattle.std.proofs.Common.{sym, lt-ltb, le-ltb}
use Rattle.refusal.specs.Answer.{refuse}
use Rattle.connect.proofs.reply.read_failed.Goals as goal

pub returns-then-reply-end : goal.returns-then-reply-end
unfolding read_failed refuse
returns-then-reply-end c = simp (sym c.failed_fields-failed.ensures, lt-ltb _ _ c.if-reply-end.true)

pub returns : goal.returns
unfolding read_failed refuse
returns c = simp (sym c.failed_fields-failed.ensures, le-ltb _ _ c.if-reply-end.false)
