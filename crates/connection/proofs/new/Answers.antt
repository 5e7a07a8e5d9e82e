use Rattle.connection.specs.Opening.{opens_slots, opens_rooms, opens_order, opens_done}
use Rattle.std.proofs.Common.{sym, ◌∙◌}
use Rattle.connection.proofs.new.Goals as goal

pub returns-then-slots-ne-MOST_DESCRIPTORS : goal.returns-then-slots-ne-MOST_DESCRIPTORS
returns-then-slots-ne-MOST_DESCRIPTORS c = opens_slots _ _ c.if-slots-ne-MOST_DESCRIPTORS.true

pub returns-then-not-in_range : goal.returns-then-not-in_range
returns-then-not-in_range c = let k = c.capacity-k.ensures in
    opens_rooms _ _ c.if-slots-ne-MOST_DESCRIPTORS.false k (sym c.in_range.ensures ∙ c.if-not-in_range.true)

pub returns-then-not-is_legal : goal.returns-then-not-is_legal
returns-then-not-is_legal c = let k = c.capacity-k.ensures in
    opens_order _ _ c.if-slots-ne-MOST_DESCRIPTORS.false k (sym c.in_range.ensures ∙ c.if-not-in_range.false) (sym c.is_legal.ensures ∙ c.if-not-is_legal.true)

pub returns : goal.returns
returns c = let k = c.capacity-k.ensures in
    opens_done _ _ c.if-slots-ne-MOST_DESCRIPTORS.false k (sym c.in_range.ensures ∙ c.if-not-in_range.false) (sym c.is_legal.ensures ∙ c.if-not-is_legal.false) _ c.fresh-c.ensures
