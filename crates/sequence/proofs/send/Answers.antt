use Rattle.std.proofs.Common.{sym, ◌∙◌, le-leb}
use borrow.Author.Tests.{lt-leb}
use Rattle.refusal.specs.Answer.{refuse}
use Rattle.octets.specs.Logic.{both, choose}
use Rattle.sequence.specs.Sending.{sending}
use Rattle.sequence.proofs.send.Goals as goal

pub returns-then-last-ge-LAST_NUMBER : goal.returns-then-last-ge-LAST_NUMBER
unfolding sending refuse
returns-then-last-ge-LAST_NUMBER c = simp (le-leb _ _ c.if-last-ge-LAST_NUMBER.true)

pub returns-then-reply : goal.returns-then-reply
unfolding sending refuse both choose
returns-then-reply c = simp (lt-leb _ _ c.if-last-ge-LAST_NUMBER.false, c.if-reply.true)

pub returns-then-must_sync : goal.returns-then-must_sync
unfolding sending refuse both choose
returns-then-must_sync c = simp (lt-leb _ _ c.if-last-ge-LAST_NUMBER.false, c.if-reply.false, sym c.must_sync.ensures ∙ c.if-must_sync.true)

pub returns : goal.returns
unfolding sending refuse both choose
returns c = simp (lt-leb _ _ c.if-last-ge-LAST_NUMBER.false, c.if-reply.false, sym c.must_sync.ensures ∙ c.if-must_sync.false)
