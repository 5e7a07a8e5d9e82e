use Rattle.xiengmado_c.proofs.handshake.xm_connect_setup.Goals as goal

pub returns : goal.returns
returns c = rw c.returned.ensures c.xm_connect_setup.ensures
