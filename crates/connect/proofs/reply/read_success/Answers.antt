use Rattle.std.proofs.Common.{length, ◌+◌, ◌<◌, sym, lt-ltb, le-ltb, arith}
use Rattle.connect.specs.Setup.{fixed, setup_of, read_success}
use Rattle.refusal.specs.Answer.{refuse}
use Rattle.connect.proofs.reply.read_success.Goals as goal

pub returns-then-reply-lt-FIXED : goal.returns-then-reply-lt-FIXED
unfolding read_success refuse
returns-then-reply-lt-FIXED c = let h : length c.args.reply.now < fixed + (setup_of c.args.order c.args.reply.now).vendor = omega arith in simp (lt-ltb _ _ h)

pub returns-then-reply-end : goal.returns-then-reply-end
unfolding read_success refuse
returns-then-reply-end c = simp (sym c.success_fields-setup.ensures, lt-ltb _ _ c.if-reply-end.true)

pub returns : goal.returns
unfolding read_success refuse
returns c = simp (sym c.success_fields-setup.ensures, le-ltb _ _ c.if-reply-end.false)
