use Rattle.std.proofs.Common.{sym, ap, ◌∙◌, arith}
use Rattle.octets.specs.Logic.{apart}
use Rattle.octets.specs.Bytes.{legal}
use Rattle.savepoint.proofs.Ranges.{are_numbers}
use Rattle.saving.specs.Finding.{not_numbers}
use Rattle.saving.proofs.finding.numbers_in_range.Goals as goal

pub returns-then-not-is_order : goal.returns-then-not-is_order
returns-then-not-is_order c = λ m H. not_numbers m (λ N. apart N.order (ap legal (H.order ∙ sym c.get_u64.ensures) ∙ sym c.is_order.ensures ∙ c.if-not-is_order.true))

pub returns-then-most-lt1 : goal.returns-then-most-lt1
returns-then-most-lt1 c = λ m H. not_numbers m (λ N. omega (arith, N.requests_least, H.requests, c.get_u64-most.ensures, c.if-most-lt1.true))

pub returns-then-most : goal.returns-then-most
returns-then-most c = λ m H. not_numbers m (λ N. omega (arith, N.requests_most_lem, H.requests, c.get_u64-most.ensures, c.if-most.true))

pub returns-then-room : goal.returns-then-room
returns-then-room c = λ m H. not_numbers m (λ N. omega (arith, N.store_least, H.bytes, c.get_u64-room.ensures, c.if-room.true))

pub returns-then-room-2 : goal.returns-then-room-2
returns-then-room-2 c = λ m H. not_numbers m (λ N. omega (arith, N.store_most, H.bytes, c.get_u64-room.ensures, c.if-room-2.true))

pub returns-then-written-gt-LAST_NUMBER : goal.returns-then-written-gt-LAST_NUMBER
returns-then-written-gt-LAST_NUMBER c = λ m H. not_numbers m (λ N. omega (arith, N.written_most, H.written, c.get_u64-written.ensures, c.if-written-gt-LAST_NUMBER.true))

pub returns-then-get_u64-gt-LAST_NUMBER : goal.returns-then-get_u64-gt-LAST_NUMBER
returns-then-get_u64-gt-LAST_NUMBER c = λ m H. not_numbers m (λ N. omega (arith, N.expected_most, H.expected, c.get_u64-2.ensures, c.if-get_u64-gt-LAST_NUMBER.true))

pub returns-then-get_u64-gt-LAST_NUMBER-2 : goal.returns-then-get_u64-gt-LAST_NUMBER-2
returns-then-get_u64-gt-LAST_NUMBER-2 c = λ m H. not_numbers m (λ N. omega (arith, N.read_most, H.read, c.get_u64-3.ensures, c.if-get_u64-gt-LAST_NUMBER-2.true))

pub returns-then-written-count : goal.returns-then-written-count
returns-then-written-count c = λ m H. not_numbers m (λ N. omega (arith, N.run_from_one, H.written, H.run, c.get_u64-written.ensures, c.if-written-count.true))

pub returns-then-most-count : goal.returns-then-most-count
returns-then-most-count c = λ m H. not_numbers m (λ N. omega (arith, N.run_most, H.requests, H.run, c.get_u64-most.ensures, c.if-most-count.true))

pub returns : goal.returns
returns c = λ m H. sym (are_numbers m (record {
  order = ap legal (H.order ∙ sym c.get_u64.ensures) ∙ sym c.is_order.ensures ∙ c.if-not-is_order.false;
  requests_least = omega (arith, H.requests, c.get_u64-most.ensures, c.if-most-lt1.false);
  requests_most_lem = omega (arith, H.requests, c.get_u64-most.ensures, c.if-most.false);
  store_least = omega (arith, H.bytes, c.get_u64-room.ensures, c.if-room.false);
  store_most = omega (arith, H.bytes, c.get_u64-room.ensures, c.if-room-2.false);
  written_most = omega (arith, H.written, c.get_u64-written.ensures, c.if-written-gt-LAST_NUMBER.false);
  expected_most = omega (arith, H.expected, c.get_u64-2.ensures, c.if-get_u64-gt-LAST_NUMBER.false);
  read_most = omega (arith, H.read, c.get_u64-3.ensures, c.if-get_u64-gt-LAST_NUMBER-2.false);
  run_from_one = omega (arith, H.written, H.run, c.get_u64-written.ensures, c.if-written-count.false);
  run_most = omega (arith, H.requests, H.run, c.get_u64-most.ensures, c.if-most-count.false);
}))
