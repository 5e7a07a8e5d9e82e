use Rattle.model.specs.Says.{polled_is}
use Rattle.refusal.specs.declared.Refusal.{Refusal}
use Rattle.refusal.specs.Answer.{passed_on}
use Rattle.model.specs.declared.Connection.{Connection}
use Rattle.model.specs.declared.Polled.{Polled}
use Rattle.polling.specs.Exact.{EventStep}
use Rattle.batch.specs.Events.{room_left, marked, marked_by}
use Rattle.batch.specs.EventsLaws.{turn_markable, turn_is, room_most}
use Rattle.model.specs.Sound.{ready}
use Rattle.std.proofs.Common.{arith, ◌≡◌, ◌∙◌, ◌+◌, ◌-◌, ◌≤◌, length, length-drop, length-take-le, ap, sym, subst, List, ℕ, Result}
use Rattle.batch.proofs.events.turn.Goals as goal
use Rattle.batch.proofs.events.turn.Goals.{After-room_for}

-- the part of the output that the poll is lent
part-fits : (c : After-room_for) → c.args.used + c.room_for.result ≤ length c.args.out.now
part-fits c = omega (arith, c.room_for.ensures, room_most (length c.args.marks.now - c.args.at) (length c.args.out.now - c.args.used))

part-long : (c : After-room_for) → c.args.used + c.room_for.result - c.args.used ≡ room_left c.args.out.now c.args.marks.now c.args.used c.args.at
part-long c = let z : c.args.used + c.room_for.result - c.args.used ≡ c.room_for.result = omega arith in z ∙ c.room_for.ensures

pub overflow_add-end : goal.overflow_add-end
overflow_add-end c = omega (arith, part-fits (goal.at.overflow_add-end c).After-room_for)

pub slice_bounds-poll_for_event-end : goal.slice_bounds-poll_for_event-end
slice_bounds-poll_for_event-end c = omega (arith, part-fits (goal.at.slice_bounds-poll_for_event-end c).After-room_for)

pub poll_for_event-requires : goal.poll_for_event-requires
poll_for_event-requires c = (ready _ _ c.requires.0.sound).held

-- the step with an answer that is known
known : {c : Connection} {s p s' p' : List ℕ} {a b : Result Polled Refusal} → a ≡ b → EventStep c s p a s' p' → EventStep c s p b s' p'
known {c} {s} {p} {s'} {p'} e x = subst (λ a. EventStep c s p a s' p') e x

pub mark-requires : goal.mark-requires
mark-requires c = turn_markable _ _ _ c.args.out.now c.args.marks.now c.args.used _ _ _ _ _ c.requires.0
    (length-take-le _ _ (omega (arith, part-fits (goal.at.mark-requires c).After-room_for, length-drop c.args.used c.args.out.now)) ∙ part-long (goal.at.mark-requires c).After-room_for)
    (known (polled_is c.in_ok-polled.was c.in-Some.is) c.poll_for_event.ensures)

pub returns-in_err-polled : goal.returns-in_err-polled
returns-in_err-polled c = let e = sym (passed_on c.from_residual.ensures.1) in
    turn_is _ _ _ _ _ _ _ _ _ _ _ c.requires.0 (part-long (goal.at.returns-in_err-polled c).After-room_for) (omega (arith, part-fits (goal.at.returns-in_err-polled c).After-room_for))
    (known (c.in_err-polled.was ∙ e) c.poll_for_event.ensures) (ap (λ a. marked a c.args.at c.args.marks.now) e)

pub returns-in-Some : goal.returns-in-Some
returns-in-Some c = turn_is _ _ _ _ _ _ _ _ _ _ _ c.requires.0 (part-long (goal.at.returns-in-Some c).After-room_for) (omega (arith, part-fits (goal.at.returns-in-Some c).After-room_for)) c.in_ok-polled.ensures
    (c.mark.ensures ∙ ap (λ z. marked_by z c.args.at c.args.marks.now) (sym c.in-Some.is))

pub returns-in_default : goal.returns-in_default
returns-in_default c = turn_is _ _ _ _ _ _ _ _ _ _ _ c.requires.0 (part-long (goal.at.returns-in_default c).After-room_for) (omega (arith, part-fits (goal.at.returns-in_default c).After-room_for)) c.in_ok-polled.ensures
    (ap (λ z. marked_by z c.args.at c.args.marks.now) (sym c.in_default.is))
