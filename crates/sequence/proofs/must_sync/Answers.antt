use Rattle.std.proofs.Common.{◌+◌, sym, arith}
use Rattle.sequence.specs.Sending.{sync_span, must_sync, sync_by_difference}
use borrow.Author.Tests.{lt-leb}
use Rattle.sequence.proofs.must_sync.Goals as goal

pub returns-then-written-lt-SYNC_SPAN : goal.returns-then-written-lt-SYNC_SPAN
unfolding must_sync
returns-then-written-lt-SYNC_SPAN c = sym (lt-leb (c.args.expected + sync_span) _ (omega arith))

pub returns : goal.returns
returns c = sync_by_difference _ _ c.if-written-lt-SYNC_SPAN.false
