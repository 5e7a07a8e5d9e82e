use Rattle.std.proofs.Common.{◌∙◌, sym}
use Rattle.discarding.specs.Steps.{clear_place}
use Rattle.discarding.proofs.sweep_one.Goals as goal

pub clear-next-requires : goal.clear-next-requires
clear-next-requires c = clear_place _ _ _ c.requires c.in-Some.place (sym c.in-Some.is ∙ c.find_reply.ensures)
