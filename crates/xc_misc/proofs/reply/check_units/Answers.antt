use Rattle.std.proofs.Common.{sym, ◌∙◌}
use Rattle.refusal.specs.Answer.{refuse}
use Rattle.xc_misc.specs.Replies.{units_checked}
use Rattle.xc_misc.proofs.reply.check_units.Goals as goal

pub returns-then-within : goal.returns-then-within
unfolding units_checked refuse
returns-then-within c = simp (sym c.get_u32.ensures, sym c.within.ensures ∙ c.if-within.true)

pub returns : goal.returns
unfolding units_checked refuse
returns c = simp (sym c.get_u32.ensures, sym c.within.ensures ∙ c.if-within.false)
