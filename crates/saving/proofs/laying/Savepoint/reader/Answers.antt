use Rattle.saving.specs.Laying.{reader_same}
use Rattle.saving.proofs.laying.Savepoint.reader.Goals as goal

pub returns : goal.returns
returns c = reader_same _ c.args.self.now.plan _ _ c.number-order.ensures c.wanted-target.ensures
