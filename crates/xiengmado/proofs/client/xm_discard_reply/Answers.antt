use Rattle.std.proofs.Common.{refl, ap, ◌∙◌}
use Rattle.refusal.specs.Numbers.{number_of}
use Rattle.refusal.specs.Answer.{refuses}
use Rattle.answers.specs.Exported.{kept_by, kept_on, on, off, returned_passed}
use Rattle.answers.specs.Shown.{mode_meant, mode_meaningless}
use Rattle.xiengmado.proofs.client.xm_discard_reply.Goals as goal

pub returns-in_err-mode : goal.returns-in_err-mode
returns-in_err-mode c = let z = mode_meaningless _ c.in_err-mode.ensures in kept_by (refuses 9) (off z.0 refl) (returned_passed _ _ c.from_residual.ensures.1 ∙ ap number_of z.1) refl refl

pub returns : goal.returns
returns c = let z = mode_meant _ c.in_ok-mode.ensures in kept_on c.give_next.ensures (on z.0 (rw (c.connection-now.ensures, z.1) at c.discard_reply-answer.ensures))
