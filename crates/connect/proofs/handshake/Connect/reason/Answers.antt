use Rattle.connect.specs.SetupLaws.{within_setup, place_within}
use Rattle.connect.specs.Setup.{reason_place}
use Rattle.std.proofs.Common.{ap, ◌∙◌}
use Rattle.connect.proofs.handshake.Connect.reason.Goals as goal

pub part-requires : goal.part-requires
part-requires c = place_within (c.reason_place.ensures ∙ ap reason_place c.setup.ensures) (within_setup _ _).reason_within
