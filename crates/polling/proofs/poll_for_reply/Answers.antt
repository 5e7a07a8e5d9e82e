use Rattle.std.proofs.Common.{◌∙◌, sym, rules}
use Rattle.polling.specs.Steps.{MetReply, reply_within, reply_slots, reply_byte, replied_error, replied_short, replied_given, replied_none}
use Rattle.polling.proofs.poll_for_reply.Goals as goal
use Rattle.polling.proofs.poll_for_reply.Goals.{In-Some}

-- where the reply was found
abbrev met : In-Some → MetReply
met c = record { c = c.args.c; n = _; s = _; f = _; ready = c.requires; p = c.in-Some.place; found = sym c.in-Some.is ∙ c.find_reply.ensures }

pub class_at-requires : goal.class_at-requires
class_at-requires c = reply_byte (met (goal.at.class_at-requires c).In-Some)

pub close_held-rest-requires : goal.close_held-rest-requires
close_held-rest-requires c = reply_slots (met (goal.at.close_held-rest-requires c).In-Some)

pub demote-requires : goal.demote-requires
demote-requires c = reply_within (met (goal.at.demote-requires c).In-Some)

pub returns-then-is_error : goal.returns-then-is_error
returns-then-is_error c = replied_error (met (goal.at.returns-then-is_error c).In-Some) _ c.class_at.result c.class_at.ensures (sym c.is_error.ensures ∙ c.if-is_error.true) _ _ _ _ c.demote.ensures c.close_held-rest.ensures c.moved.ensures

pub returns-then-out-len : goal.returns-then-out-len
returns-then-out-len c = replied_short (met (goal.at.returns-then-out-len c).In-Some) _ c.class_at.result c.class_at.ensures (sym c.is_error.ensures ∙ c.if-is_error.false) c.if-out-len.true

pub close_held-rest-requires-2 : goal.close_held-rest-requires-2
close_held-rest-requires-2 c = reply_slots (met (goal.at.close_held-rest-requires-2 c).In-Some)

pub take-taken-requires : goal.take-taken-requires
take-taken-requires c = record { within = (reply_within (met (goal.at.take-taken-requires c).In-Some), reply_byte (met (goal.at.take-taken-requires c).In-Some)); len_in_bounds = search rules }

pub returns : goal.returns
returns c = replied_given (met (goal.at.returns c).In-Some) _ c.class_at.result c.class_at.ensures (sym c.is_error.ensures ∙ c.if-is_error.false) c.if-out-len.false _ _ _ _ _ _ c.take-taken.ensures.takes c.close_held-rest-2.ensures c.take-taken.result.class c.take-taken.ensures.class_value _ c.handed_out-handed.ensures c.moved-2.ensures

pub returns-in_default : goal.returns-in_default
returns-in_default c = replied_none _ _ _ _ (sym c.in_default.is ∙ c.find_reply.ensures) _
