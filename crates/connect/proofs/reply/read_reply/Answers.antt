use Rattle.connect.specs.Setup.{read_reply}
use Rattle.std.proofs.Common.{eq-eqb, ne_eqb}
use Rattle.octets.specs.Logic.{choose}
use Rattle.connect.proofs.reply.read_reply.Goals as goal

pub returns-then-status-eq-FAILED : goal.returns-then-status-eq-FAILED
unfolding read_reply choose
returns-then-status-eq-FAILED c = simp (eq-eqb _ _ c.if-status-eq-FAILED.true) c.read_failed.ensures

pub returns-then-status-eq-SUCCESS : goal.returns-then-status-eq-SUCCESS
unfolding read_reply choose
returns-then-status-eq-SUCCESS c = simp (ne_eqb _ _ c.if-status-eq-FAILED.false, eq-eqb _ _ c.if-status-eq-SUCCESS.true) c.read_success.ensures

pub returns-then-status-eq-AUTHENTICATE : goal.returns-then-status-eq-AUTHENTICATE
unfolding read_reply choose
returns-then-status-eq-AUTHENTICATE c = simp (ne_eqb _ _ c.if-status-eq-FAILED.false, ne_eqb _ _ c.if-status-eq-SUCCESS.false, eq-eqb _ _ c.if-status-eq-AUTHENTICATE.true, c.authenticate_fields.ensures)

pub returns : goal.returns
unfolding read_reply choose
returns c = simp (ne_eqb _ _ c.if-status-eq-FAILED.false, ne_eqb _ _ c.if-status-eq-SUCCESS.false, ne_eqb _ _ c.if-status-eq-AUTHENTICATE.false)
