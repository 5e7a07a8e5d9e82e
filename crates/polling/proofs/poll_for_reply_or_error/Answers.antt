use Rattle.std.proofs.Common.{◌∙◌, sym, rules}
use Rattle.polling.specs.Steps.{MetReply, reply_within, reply_slots, taken_short, taken_narrow, taken_given, taken_none, reply_byte}
use Rattle.polling.proofs.poll_for_reply_or_error.Goals as goal
use Rattle.polling.proofs.poll_for_reply_or_error.Goals.{In-Some}

-- where the reply was found
abbrev met : In-Some → MetReply
met c = record { c = c.args.c; n = _; s = _; f = _; ready = c.requires; p = c.in-Some.place; found = sym c.in-Some.is ∙ c.find_reply.ensures }

pub returns-then-out-len : goal.returns-then-out-len
returns-then-out-len c = taken_short (met (goal.at.returns-then-out-len c).In-Some) _ _ c.if-out-len.true

pub returns-then-fds-n : goal.returns-then-fds-n
returns-then-fds-n c = taken_narrow (met (goal.at.returns-then-fds-n c).In-Some) _ _ c.if-out-len.false c.if-fds-n.true

pub hand_out-rest-requires : goal.hand_out-rest-requires
hand_out-rest-requires c = let h = reply_slots (met (goal.at.hand_out-rest-requires c).In-Some) in (h.0, h.1, search rules)

pub take-taken-requires : goal.take-taken-requires
take-taken-requires c = record { within = (reply_within (met (goal.at.take-taken-requires c).In-Some), reply_byte (met (goal.at.take-taken-requires c).In-Some)); len_in_bounds = search rules }

pub returns : goal.returns
returns c = taken_given (met (goal.at.returns c).In-Some) _ _ c.if-out-len.false c.if-fds-n.false _ _ _ _ _ _ _ c.take-taken.ensures.takes c.hand_out-rest.ensures c.take-taken.result.class c.take-taken.ensures.class_value _ c.handed_out-handed.ensures c.moved.ensures

pub returns-in_default : goal.returns-in_default
returns-in_default c = taken_none _ _ _ _ (sym c.in_default.is ∙ c.find_reply.ensures) _ _
