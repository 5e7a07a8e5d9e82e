use Rattle.std.proofs.Common.{sym, ap, ◌∙◌, arith}
use borrow.Author.Tests.{le-leb, lt-leb}
use Rattle.packet.specs.Packet.{was_sent, event, generic}
use Rattle.packet.specs.Class.{class_error, class_reply, class_generic, class_event}
use Rattle.packet.proofs.class_of.Goals as goal

pub returns-then-sent : goal.returns-then-sent
unfolding was_sent
returns-then-sent c = sym (class_generic _ (λ z. omega arith) (λ z. omega arith) c.if-code-eq-GENERIC_EVENT.true ∙ ap generic (le-leb _ _ c.if-sent.true))

pub returns-else-sent : goal.returns-else-sent
unfolding was_sent
returns-else-sent c = sym (class_generic _ (λ z. omega arith) (λ z. omega arith) c.if-code-eq-GENERIC_EVENT.true ∙ ap generic (lt-leb _ _ c.if-sent.false))

pub returns-then-sent-2 : goal.returns-then-sent-2
unfolding was_sent
returns-then-sent-2 c = sym (class_event _ (λ z. omega arith) (λ z. omega arith) c.if-code-eq-GENERIC_EVENT.false ∙ ap event (le-leb _ _ c.if-sent-2.true))

pub returns-else-sent-2 : goal.returns-else-sent-2
unfolding was_sent
returns-else-sent-2 c = sym (class_event _ (λ z. omega arith) (λ z. omega arith) c.if-code-eq-GENERIC_EVENT.false ∙ ap event (lt-leb _ _ c.if-sent-2.false))

pub returns-then-code-eq-REPLY : goal.returns-then-code-eq-REPLY
returns-then-code-eq-REPLY c = sym (class_reply _ (λ z. omega arith) c.if-code-eq-REPLY.true)

pub returns : goal.returns
returns c = sym (class_error _ (omega (arith, c.if-code-gt-REPLY.false, c.if-code-eq-REPLY.false)))
