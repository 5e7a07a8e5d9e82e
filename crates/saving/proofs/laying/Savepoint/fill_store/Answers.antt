use Rattle.std.proofs.Common.{arith}
use Rattle.saving.specs.Laying.{parts_put}
use Rattle.saving.proofs.laying.Savepoint.fill_store.Goals as goal

pub returns : goal.returns
returns c = let P = c.args.self.now.places in parts_put _ _ _ _ _ _ _ _ c.copy_in.ensures c.copy_in-2.ensures P.replies (omega (arith, P.events, P.partial, P.ids)) P.events (omega (arith, P.partial, P.ids)) (omega (arith, c.requires, P.replies, P.events))
