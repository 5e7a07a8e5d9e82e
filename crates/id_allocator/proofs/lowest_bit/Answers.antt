use Rattle.std.proofs.Common.{arith}
use Rattle.id_allocator.specs.Ids.{bits}
use Rattle.id_allocator.specs.LowestLaws.{and_negative}
use Rattle.id_allocator.proofs.lowest_bit.Goals as goal

pub returns : goal.returns
returns c = and_negative bits _ c.requires (omega arith)
