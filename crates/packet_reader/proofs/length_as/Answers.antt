use Rattle.std.proofs.Common.{sym, ◌∙◌}
use Rattle.octets.specs.Logic.{choose}
use Rattle.packet_reader.specs.Frame.{length_as}
use Rattle.packet_reader.proofs.length_as.Goals as goal

pub returns-then-has_length : goal.returns-then-has_length
unfolding length_as choose
returns-then-has_length c = simp (sym c.has_length.ensures ∙ c.if-has_length.true)

pub returns : goal.returns
unfolding length_as choose
returns c = simp (sym c.has_length.ensures ∙ c.if-has_length.false)
