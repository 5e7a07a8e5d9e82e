use Rattle.setup_request.specs.Request.{size}
use Rattle.setup_request.specs.Pad.{pad_least}
use Rattle.std.proofs.Common.{arith}
use Rattle.setup_request.proofs.size.Goals as goal

pub overflow_add-result : goal.overflow_add-result
overflow_add-result c = omega (arith, pad_least c.args.name)

pub overflow_add-result-2 : goal.overflow_add-result-2
overflow_add-result-2 c = omega (arith, pad_least c.args.name)

pub overflow_add-result-3 : goal.overflow_add-result-3
overflow_add-result-3 c = omega (arith, pad_least c.args.«data»)

pub overflow_add-result-4 : goal.overflow_add-result-4
overflow_add-result-4 c = omega (arith, pad_least c.args.name, pad_least c.args.«data»)

pub returns : goal.returns
unfolding size
returns c = simp (c.pad.ensures, c.pad-2.ensures)
