use Rattle.octets.specs.Put.{part_cut}
use Rattle.std.proofs.Common.{refl}
use Rattle.connect.proofs.reply.part.Goals as goal

pub returns : goal.returns
returns c = record { shows = part_cut _ _ _; stands = refl }
