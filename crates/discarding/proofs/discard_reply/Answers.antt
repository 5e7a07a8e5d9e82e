use Rattle.std.proofs.Common.{arith, ◌∙◌, sym}
use Rattle.discarding.specs.Whole.{ModeSet, Met, Half, Whole, sweepable, sweepable_on, some_own, run_fits, first_close, second_close, discard_none, discard_some}
use Rattle.discarding.proofs.discard_reply.Goals as goal
use Rattle.discarding.proofs.discard_reply.Goals.{After-set_mode, After-sweep-before, After-sweep-behind, In-Some}

-- where the mode is set, a reply is found, the first are gone, and all are
abbrev mode_set : After-set_mode → ModeSet
mode_set c = record { c = c.args.c; n = _; m = _; q = _; s = _; f = _; ready = c.requires.0; q' = _; set = c.set_mode.ensures }

abbrev found_set : In-Some → ModeSet
found_set c = record { c = c.args.c; n = _; m = _; q = _; s = _; f = _; ready = c.requires.0; q' = _; set = c.set_mode.ensures }

abbrev met : (c : In-Some) → Met (found_set c)
met c = record { p = c.in-Some.place; found = sym c.in-Some.is ∙ c.find_reply.ensures; r = _; k = _; counted = c.requires.2 }

abbrev half_set : After-sweep-before → ModeSet
half_set c = record { c = c.args.c; n = _; m = _; q = _; s = _; f = _; ready = c.requires.0; q' = _; set = c.set_mode.ensures }

abbrev half_met : (c : After-sweep-before) → Met (half_set c)
half_met c = record { p = c.in-Some.place; found = sym c.in-Some.is ∙ c.find_reply.ensures; r = _; k = _; counted = c.requires.2 }

abbrev half : (c : After-sweep-before) → Half _ (half_met c)
half c = record { t = _; turn = c.turn-turn.ensures; w₁ = _; u = _; s₁ = _; first = c.sweep-before.ensures }

abbrev whole_set : After-sweep-behind → ModeSet
whole_set c = record { c = c.args.c; n = _; m = _; q = _; s = _; f = _; ready = c.requires.0; q' = _; set = c.set_mode.ensures }

abbrev whole_met : (c : After-sweep-behind) → Met (whole_set c)
whole_met c = record { p = c.in-Some.place; found = sym c.in-Some.is ∙ c.find_reply.ensures; r = _; k = _; counted = c.requires.2 }

abbrev whole_half : (c : After-sweep-behind) → Half _ (whole_met c)
whole_half c = record { t = _; turn = c.turn-turn.ensures; w₁ = _; u = _; s₁ = _; first = c.sweep-before.ensures }

abbrev whole : (c : After-sweep-behind) → Whole _ _ (whole_half c)
whole c = record { w₂ = _; v = _; s₂ = _; rest = c.sweep-behind.ensures }

pub turn-turn-requires : goal.turn-turn-requires
turn-turn-requires c = some_own _ (met (goal.at.turn-turn-requires c).In-Some)

pub sweep-before-requires : goal.sweep-before-requires
sweep-before-requires c = sweepable (mode_set (goal.at.sweep-before-requires c).After-set_mode)

pub sweep-behind-requires : goal.sweep-behind-requires
sweep-behind-requires c = sweepable_on _ _ (half (goal.at.sweep-behind-requires c).After-sweep-before)

pub overflow_add-at : goal.overflow_add-at
overflow_add-at c = omega (arith, run_fits _ _ _ (whole (goal.at.overflow_add-at c).After-sweep-behind), c.requires.0.slots.most)

pub close_held-some-requires : goal.close_held-some-requires
close_held-some-requires c = first_close _ _ _ (whole (goal.at.close_held-some-requires c).After-sweep-behind)

pub close_held-all-requires : goal.close_held-all-requires
close_held-all-requires c = second_close _ _ _ (whole (goal.at.close_held-all-requires c).After-sweep-behind) _ _ c.close_held-some.ensures

pub returns : goal.returns
returns c = discard_some _ _ _ (whole (goal.at.returns c).After-sweep-behind) _ _ c.close_held-some.ensures _ _ _ c.close_held-all.ensures c.moved.ensures

pub returns-in_default : goal.returns-in_default
returns-in_default c = discard_none (mode_set (goal.at.returns-in_default c).After-set_mode) (sym c.in_default.is ∙ c.find_reply.ensures)
