use Rattle.std.proofs.Common.{◌≡◌, ap, ◌∙◌, List, [], ℕ, ◌+◌, ◌≤◌, ◌<◌, arith, length, drop}
use Rattle.held.specs.Head.{Record, header_size, num_of, len_of, kind_of, reply}
use Rattle.held.specs.Reading.{records, only}
use Rattle.held.specs.Rest.{Turn, rest_all, rest_none, turn, turn_room, turn_behind}
use Rattle.held.specs.Tally.{own, higher, tally_of, tallied, tally_one, own_front, above_front, one_few}
use Rattle.held.specs.declared.Tally.{Tally}
use Rattle.held.proofs.counting.count.Goals as goal
use Rattle.held.proofs.counting.count.Invariants.{rs, Inv}

module _ (s : List ℕ) (n start end at a b : ℕ) (I : Inv s n start end at a b) where
  ends : end ≤ at → record { own = a; above = b } ≡ tally_of n (rs s start end)
  unfolding own higher only
  ends h =
      let z : I.hs ≡ [] = rest_none s at end I.hs I.rest h in
      let p : a ≡ length (own n (rs s start end)) = omega (arith, I.owns, ap (λ (l : List Record). length (own n (only reply l))) z) in
      let q : b ≡ length (higher n (rs s start end)) = omega (arith, I.aboves, ap (λ (l : List Record). length (higher n (only reply l))) z) in
      λ k. record { own = p k; above = q k }

  module _ (below : at < end) (one : Tally) (e : one ≡ tally_one n (kind_of (drop at s)) (num_of (drop at s))) where
    abbrev T : Turn s at end I.hs
    T = turn s at end I.hs I.rest below

    is_one : one ≡ tally_one n T.it.kind T.it.number
    is_one = e ∙ (λ k. tally_one n (T.here.kind k) (T.here.number k))

    once : (one.own ≤ 1) × (one.above ≤ 1)
    once = let z = one_few n T.it.kind T.it.number in (omega (arith, z, ap (λ (x : Tally). x.own) is_one), omega (arith, z, ap (λ (x : Tally). x.above) is_one))

    again : (len : ℕ) → len ≡ len_of (drop at s) → Inv s n start end (at + (header_size + len)) (a + one.own) (b + one.above)
    again len p =
        record {
          hs = T.others;
          rest = turn_behind s at end I.hs I.rest below len p;
          few = (omega (arith, once, I.few), omega (arith, once, I.few));
          owns = omega (arith, I.owns, ap (λ (l : List Record). length (own n (only reply l))) T.is, own_front n T.it T.others, ap (λ (x : Tally). x.own) is_one);
          aboves = omega (arith, I.aboves, ap (λ (l : List Record). length (higher n (only reply l))) T.is, above_front n T.it T.others, ap (λ (x : Tally). x.above) is_one);
        }

pub loop-at-init : goal.loop-at-init
unfolding records
loop-at-init c = record { hs = records c.args.window c.args.store.now; rest = rest_all _ _ c.requires; few = (omega arith, omega arith); owns = omega arith; aboves = omega arith }

pub count_one-one-requires : goal.count_one-one-requires
count_one-one-requires c = let z = turn_room _ _ _ _ c.loop-at.invariant.rest (omega arith) in omega (arith, z)

pub overflow_add-own : goal.overflow_add-own
overflow_add-own c = let z = once _ _ _ _ _ _ _ c.loop-at.invariant (omega arith) _ c.count_one-one.ensures in omega (arith, z, c.loop-at.invariant.few)

pub overflow_add-above : goal.overflow_add-above
overflow_add-above c = let z = once _ _ _ _ _ _ _ c.loop-at.invariant (omega arith) _ c.count_one-one.ensures in omega (arith, z, c.loop-at.invariant.few)

pub length_at-requires : goal.length_at-requires
length_at-requires c = let z = turn_room _ _ _ _ c.loop-at.invariant.rest (omega arith) in omega (arith, z)

pub overflow_add-at : goal.overflow_add-at
overflow_add-at c = let z = turn_room _ _ _ _ c.loop-at.invariant.rest (omega arith) in omega (arith, z)

pub overflow_add-at-in-loop-at : goal.overflow_add-at-in-loop-at
overflow_add-at-in-loop-at c = let z = turn_room _ _ _ _ c.loop-at.invariant.rest (omega arith) in omega (arith, z)

pub loop-at-preserved : goal.loop-at-preserved
loop-at-preserved c = again _ _ _ _ _ _ _ c.loop-at.invariant (omega arith) _ c.count_one-one.ensures _ c.length_at.ensures

pub returns : goal.returns
unfolding tallied records
returns c = ends _ _ _ _ _ _ _ c.loop-at.invariant c.loop-at-test.false
