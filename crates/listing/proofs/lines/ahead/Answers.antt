use Rattle.std.proofs.Common.{sym, arith, length-take-le}
use Rattle.listing.specs.Laws.{ahead_nothing, ahead_part, ahead_long, ahead_whole, whole_fits}
use Rattle.listing.proofs.lines.ahead.Goals as goal

pub slice_bounds-numbered-end : goal.slice_bounds-numbered-end
slice_bounds-numbered-end c = sym (length-take-le _ _ (whole_fits 0 _ _ c.front.ensures _ _ c.in-Whole.is).1)

pub numbered-requires : goal.numbered-requires
numbered-requires c = let w = whole_fits 0 _ _ c.front.ensures _ _ c.in-Whole.is in let l = length-take-le _ c.args.bytes.now w.1 in omega (arith, w.0)

pub returns-in-Nothing : goal.returns-in-Nothing
returns-in-Nothing c = ahead_nothing _ _ _ c.front.ensures c.in-Nothing.is

pub returns-in-Part : goal.returns-in-Part
returns-in-Part c = ahead_part _ _ _ c.front.ensures c.in-Part.is

pub returns-in-Long : goal.returns-in-Long
returns-in-Long c = ahead_long _ _ _ c.front.ensures c.in-Long.is

pub returns-in-Whole : goal.returns-in-Whole
returns-in-Whole c = ahead_whole _ _ _ c.front.ensures _ _ c.in-Whole.is c.numbered.result c.numbered.ensures
