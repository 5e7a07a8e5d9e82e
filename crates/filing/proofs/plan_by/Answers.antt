use Rattle.filing.specs.Planned.{plan_ahead, plan_few, plan_over, plan_file}
use Rattle.std.proofs.Common.{sym, ◌∙◌}
use Rattle.filing.proofs.plan_by.Goals as goal

pub returns-then-is_ahead : goal.returns-then-is_ahead
returns-then-is_ahead c = plan_ahead _ _ _ _ (sym c.is_ahead.ensures ∙ c.if-is_ahead.true)

pub returns-then-c-claim : goal.returns-then-c-claim
returns-then-c-claim c = plan_few _ _ _ (sym c.is_ahead.ensures ∙ c.if-is_ahead.false) _ _ c.request_of-request.ensures _ c.class_of-class.ensures _ _ c.place_of-place.ensures c.claimed-claim.ensures c.if-c-claim.true

pub returns-then-over_room : goal.returns-then-over_room
returns-then-over_room c = plan_over _ _ _ (sym c.is_ahead.ensures ∙ c.if-is_ahead.false) _ _ c.request_of-request.ensures _ c.class_of-class.ensures _ _ c.place_of-place.ensures c.claimed-claim.ensures c.if-c-claim.false (sym c.over_room.ensures ∙ c.if-over_room.true)

pub returns : goal.returns
returns c = plan_file _ _ _ (sym c.is_ahead.ensures ∙ c.if-is_ahead.false) _ _ c.request_of-request.ensures _ c.class_of-class.ensures _ _ c.place_of-place.ensures c.claimed-claim.ensures c.if-c-claim.false (sym c.over_room.ensures ∙ c.if-over_room.false)
