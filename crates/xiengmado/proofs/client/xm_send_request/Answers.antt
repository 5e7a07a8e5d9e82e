use Rattle.std.proofs.Common.{refl, le-leb}
use Rattle.answers.specs.Exported.{kept_off, on, off}
use Rattle.xiengmado.specs.Sending.{kept_sent}
use borrow.Author.Tests.{lt-leb}
use Rattle.xiengmado.proofs.client.xm_send_request.Goals as goal

pub returns-then-kind-gt-MOST_KIND : goal.returns-then-kind-gt-MOST_KIND
returns-then-kind-gt-MOST_KIND c = kept_off (off (lt-leb _ _ c.if-kind-gt-MOST_KIND.true) refl)

pub returns : goal.returns
returns c = kept_sent _ _ _ c.give_sent.ensures (rw (c.connection-now.ensures, c.from.ensures) at c.send_request-answer.ensures) (on (le-leb _ _ c.if-kind-gt-MOST_KIND.false) (rw (c.connection-now.ensures, c.from.ensures) at c.send_request-answer.ensures))
