use Rattle.std.proofs.Common.{◌∙◌, sym, rules}
use Rattle.polling.specs.Steps.{MetEvent, event_short, event_taken, event_none, event_within, event_byte}
use Rattle.polling.proofs.poll_for_event.Goals as goal
use Rattle.polling.proofs.poll_for_event.Goals.{In-Some}

-- where the event was found
abbrev met : In-Some → MetEvent
met c = record { c = c.args.c; s = _; sound = c.requires; p = c.in-Some.place; found = sym c.in-Some.is ∙ c.find_event.ensures }

pub returns-then-out-len : goal.returns-then-out-len
returns-then-out-len c = event_short (met (goal.at.returns-then-out-len c).In-Some) _ c.if-out-len.true

pub take-taken-requires : goal.take-taken-requires
take-taken-requires c = record { within = (event_within (met (goal.at.take-taken-requires c).In-Some), event_byte (met (goal.at.take-taken-requires c).In-Some)); len_in_bounds = search rules }

pub returns : goal.returns
returns c = event_taken (met (goal.at.returns c).In-Some) _ c.if-out-len.false _ _ _ c.take-taken.result.class _ _ c.take-taken.ensures.class_value c.take-taken.ensures.takes c.handed_out-event.ensures c.moved.ensures

pub returns-in_default : goal.returns-in_default
returns-in_default c = event_none _ _ _ (sym c.in_default.is ∙ c.find_event.ensures)
