use Rattle.connect.specs.SetupLaws.{within_setup, place_within}
use Rattle.connect.specs.Setup.{vendor_place}
use Rattle.std.proofs.Common.{ap, ◌∙◌}
use Rattle.connect.proofs.handshake.Connect.vendor.Goals as goal

pub part-requires : goal.part-requires
part-requires c = place_within (c.vendor_place.ensures ∙ ap vendor_place c.setup.ensures) (within_setup _ _).vendor_within
