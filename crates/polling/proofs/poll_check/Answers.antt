use Rattle.std.proofs.Common.{◌∙◌, sym, rules}
use Rattle.polling.specs.Steps.{MetReply, reply_within, reply_slots, checked_short, checked_given, checked_past, checked_again, reply_byte}
use Rattle.polling.proofs.poll_check.Goals as goal
use Rattle.polling.proofs.poll_check.Goals.{In-Some}

-- where the reply was found
abbrev met : In-Some → MetReply
met c = record { c = c.args.c; n = _; s = _; f = _; ready = c.requires; p = c.in-Some.place; found = sym c.in-Some.is ∙ c.find_reply.ensures }

pub returns-then-out-len : goal.returns-then-out-len
returns-then-out-len c = checked_short (met (goal.at.returns-then-out-len c).In-Some) _ c.if-out-len.true

pub close_held-rest-requires : goal.close_held-rest-requires
close_held-rest-requires c = reply_slots (met (goal.at.close_held-rest-requires c).In-Some)

pub take-taken-requires : goal.take-taken-requires
take-taken-requires c = record { within = (reply_within (met (goal.at.take-taken-requires c).In-Some), reply_byte (met (goal.at.take-taken-requires c).In-Some)); len_in_bounds = search rules }

pub returns-then-number-c : goal.returns-then-number-c
returns-then-number-c c = checked_past _ _ _ _ (sym c.in_default.is ∙ c.find_reply.ensures) _ c.if-number-c.true

pub returns : goal.returns
returns c = checked_given (met (goal.at.returns c).In-Some) _ c.if-out-len.false _ _ _ _ _ _ c.take-taken.ensures.takes c.close_held-rest.ensures c.take-taken.result.class c.take-taken.ensures.class_value _ c.handed_out-handed.ensures c.moved.ensures

pub returns-in_default : goal.returns-in_default
returns-in_default c = checked_again _ _ _ _ (sym c.in_default.is ∙ c.find_reply.ensures) _ c.if-number-c.false
