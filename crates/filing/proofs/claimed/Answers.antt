use Rattle.filing.specs.Planned.{claims_nobody, claims_none, claims_some}
use Rattle.model.specs.Model.{claimed}
use Rattle.octets.specs.Logic.{choose, both}
use Rattle.std.proofs.Common.{sym, ap, ◌∙◌}
use Rattle.packet.specs.Packet.{is_reply}
use Rattle.filing.proofs.claimed.Goals as goal

pub returns-then-not-is_reply : goal.returns-then-not-is_reply
unfolding claimed choose both
returns-then-not-is_reply c = simp (ap is_reply (sym c.requires.1) ∙ sym c.is_reply.ensures ∙ c.if-not-is_reply.true)

pub returns-in-None : goal.returns-in-None
returns-in-None c = claims_nobody _ _ c.in-None.is

pub returns-then-request : goal.returns-then-request
returns-then-request c = claims_some _ _ _ c.in-Some.is (ap is_reply (sym c.requires.1) ∙ sym c.is_reply.ensures ∙ c.if-not-is_reply.false) c.if-request.true

pub returns-else-request : goal.returns-else-request
returns-else-request c = claims_none _ _ _ c.in-Some.is c.if-request.false
