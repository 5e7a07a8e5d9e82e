use Rattle.held.specs.Moves.{append_behind, append_slid, stays_room}
use Rattle.std.proofs.Common.{arith, sym, ◌∙◌}
use Rattle.held.proofs.moves.append.Goals as goal

pub returns-then-not-stays : goal.returns-then-not-stays
returns-then-not-stays c = append_slid _ _ _ _ _ _ (sym c.stays.ensures ∙ c.if-not-stays.true) c.slide.ensures c.behind.ensures

pub behind-requires-2 : goal.behind-requires-2
behind-requires-2 c = (stays_room _ _ _ (sym c.stays.ensures ∙ c.if-not-stays.false), omega arith)

pub returns : goal.returns
returns c = append_behind _ _ _ _ _ (sym c.stays.ensures ∙ c.if-not-stays.false) c.behind-2.ensures
