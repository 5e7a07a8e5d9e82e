use Rattle.std.proofs.Common.{length, ◌+◌, ap, arith}
use Rattle.setup_request.specs.Request.{name_at, put_request_lem, size}
use Rattle.setup_request.proofs.put_request.Goals as goal

pub put_head-requires : goal.put_head-requires
unfolding size
put_head-requires c = omega arith

pub put_padded-requires : goal.put_padded-requires
unfolding size
put_padded-requires c = omega arith

pub overflow_add-name-2 : goal.overflow_add-name-2
unfolding size
overflow_add-name-2 c = omega arith

pub put_padded-requires-2 : goal.put_padded-requires-2
unfolding size
put_padded-requires-2 c = omega arith

pub returns : goal.returns
returns c = put_request_lem _ _ _ _ _ _ _ _ c.requires.out_fits (ap (λ n. name_at + length c.args.name.now + n) c.pad.ensures) c.put_head.ensures c.put_padded.ensures c.put_padded-2.ensures
