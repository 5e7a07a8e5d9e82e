use Rattle.std.proofs.Common.{refl}
use Rattle.xc_misc.specs.Replies.{reaches}
use Rattle.xc_misc.proofs.reply.within.Goals as goal

pub returns : goal.returns
unfolding reaches
returns c = refl
