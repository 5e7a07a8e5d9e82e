use Rattle.std.proofs.Common.{arith}
use Rattle.listing.specs.Loop.{list_used, list_turns}
use Rattle.listing.proofs.list.Goals as goal

pub overflow_sub-left : goal.overflow_sub-left
overflow_sub-left c = list_used c.args.over c.args.place c.args.buf.now c.args.held c.args.out.now c.call-listed.result _ c.requires c.call-listed.ensures

pub slide-requires : goal.slide-requires
slide-requires c = let u = list_used c.args.over c.args.place c.args.buf.now c.args.held c.args.out.now c.call-listed.result _ c.requires c.call-listed.ensures in (omega arith, omega arith)

pub returns : goal.returns
returns c = list_turns c.args.over c.args.place c.args.buf.now c.args.held c.args.out.now c.call-listed.result _ c.requires c.call-listed.ensures _ c.slide.ensures
