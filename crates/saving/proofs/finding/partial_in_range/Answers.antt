use Rattle.std.proofs.Common.{sym, ap, ◌∙◌, arith}
use Rattle.octets.specs.Logic.{apart}
use Rattle.octets.specs.Bytes.{legal}
use Rattle.savepoint.proofs.Ranges.{is_partial}
use Rattle.saving.specs.Finding.{not_partial, target_is, filled_long, order_byte}
use Rattle.saving.proofs.finding.partial_in_range.Goals as goal

pub returns-then-room : goal.returns-then-room
returns-then-room c = λ p P. not_partial p (λ N. omega (arith, N.least, P.room, c.get_u64-room.ensures, c.if-room.true))

pub returns-then-room-2 : goal.returns-then-room-2
returns-then-room-2 c = λ p P. not_partial p (λ N. omega (arith, N.most, P.room, c.get_u64-room.ensures, c.if-room-2.true))

pub returns-then-not-is_order : goal.returns-then-not-is_order
returns-then-not-is_order c = λ p P. not_partial p (λ N. apart N.order (ap legal (P.order ∙ sym c.get_u64-order.ensures) ∙ sym c.is_order.ensures ∙ c.if-not-is_order.true))

pub overflow_cast-order : goal.overflow_cast-order
overflow_cast-order c = omega (arith, order_byte _ (sym c.is_order.ensures ∙ c.if-not-is_order.false))

pub returns-then-room-target : goal.returns-then-room-target
returns-then-room-target c = λ p P. not_partial p (λ N. omega (arith, N.fits, P.room, c.get_u64-room.ensures, c.if-room-target.true, target_is _ _ _ c.requires.1 (omega (arith, c.requires.2)) p P _ _ c.get_u64-order.ensures c.wanted-target.ensures))

pub returns-then-target-filled : goal.returns-then-target-filled
returns-then-target-filled c = λ p P. not_partial p (λ N. omega (arith, N.waits, c.if-target-filled.true, target_is _ _ _ c.requires.1 (omega (arith, c.requires.2)) p P _ _ c.get_u64-order.ensures c.wanted-target.ensures, filled_long _ _ _ c.requires.1 (omega (arith, c.requires.2)) p P))

pub returns : goal.returns
returns c = λ p P. sym (is_partial p (record {
  least = omega (arith, P.room, c.get_u64-room.ensures, c.if-room.false);
  most = omega (arith, P.room, c.get_u64-room.ensures, c.if-room-2.false);
  order = ap legal (P.order ∙ sym c.get_u64-order.ensures) ∙ sym c.is_order.ensures ∙ c.if-not-is_order.false;
  fits = omega (arith, P.room, c.get_u64-room.ensures, c.if-room-target.false, target_is _ _ _ c.requires.1 (omega (arith, c.requires.2)) p P _ _ c.get_u64-order.ensures c.wanted-target.ensures);
  waits = omega (arith, c.if-target-filled.false, target_is _ _ _ c.requires.1 (omega (arith, c.requires.2)) p P _ _ c.get_u64-order.ensures c.wanted-target.ensures, filled_long _ _ _ c.requires.1 (omega (arith, c.requires.2)) p P);
}))
