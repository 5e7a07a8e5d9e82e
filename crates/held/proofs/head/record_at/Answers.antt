use Rattle.std.proofs.Common.{arith, ap}
use Rattle.held.specs.Head.{most_fds}
use Rattle.held.specs.Front.{begun_not, begun_of}
use Rattle.held.proofs.head.record_at.Goals as goal

pub returns-then-room : goal.returns-then-room
returns-then-room c = begun_not _ _ _ (omega arith) (λ w. omega (arith, w.size, w.least))

pub returns-then-room-len : goal.returns-then-room-len
returns-then-room-len c = begun_not _ _ _ (omega arith) (λ w. omega (arith, w.size))

pub returns-then-len-lt-LEAST_PACKET : goal.returns-then-len-lt-LEAST_PACKET
returns-then-len-lt-LEAST_PACKET c = begun_not _ _ _ (omega arith) (λ w. omega (arith, w.least))

pub returns-then-len-gt-MOST_PACKET : goal.returns-then-len-gt-MOST_PACKET
returns-then-len-gt-MOST_PACKET c = begun_not _ _ _ (omega arith) (λ w. omega (arith, w.most))

pub returns-then-kind-gt-IN_EVENTS : goal.returns-then-kind-gt-IN_EVENTS
returns-then-kind-gt-IN_EVENTS c = begun_not _ _ _ (omega arith) (λ w. omega (arith, w.kind))

pub returns-then-most_fds-count_at : goal.returns-then-most_fds-count_at
returns-then-most_fds-count_at c = begun_not _ _ _ (omega arith) (λ w. omega (arith, w.count, ap most_fds c.kind_at-kind.ensures))

pub returns-then-zero_at-ne0 : goal.returns-then-zero_at-ne0
returns-then-zero_at-ne0 c = begun_not _ _ _ (omega arith) (λ w. omega (arith, w.zero))

pub returns : goal.returns
returns c = begun_of _ _ _ (omega arith) (λ i. (c.type_inv.s i).fits) (record { size = omega arith; least = omega arith; most = omega arith; kind = omega arith; count = omega (arith, ap most_fds c.kind_at-kind.ensures); zero = omega arith }) _ (omega arith)
