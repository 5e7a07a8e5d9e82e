use Rattle.std.proofs.Common.{refl, sym, ◌∙◌, [], arith, drop, length-take, ◌+◌, ◌-◌}
use Rattle.octets.specs.Put.{put_none}
use Rattle.held.specs.Head.{header_size}
use Rattle.held.specs.Reading.{records}
use Rattle.held.specs.Rest.{rest_all, turn_room}
use Rattle.saving.specs.WritingRows.{all_done, ready, again, copy_none, copy_long, copy_some}
use Rattle.saving.proofs.writing.Stored.copy_kind.Goals as goal
use Rattle.saving.proofs.writing.Stored.copy_kind.Goals.{then-kind_at-kind, else-kind_at-kind}

pub loop-at-init : goal.loop-at-init
unfolding records
loop-at-init c = record { hs = records c.args.self.now.window c.args.self.now.store.now; bytes = []; rest = rest_all _ _ c.args.self.now.readable; small = c.args.self.now.readable.room; room = c.requires; now = sym (put_none _ _); there = omega arith; few = (omega arith, omega arith); whole_is = refl; whole_many = omega arith; whole_all = omega arith }

pub length_at-size-requires : goal.length_at-size-requires
length_at-size-requires c = let z = turn_room _ _ _ _ c.loop-at.invariant.rest (omega arith) in omega (arith, z, c.loop-at.invariant.rest.within)

pub overflow_add-size : goal.overflow_add-size
overflow_add-size c = let z = turn_room _ _ _ _ c.loop-at.invariant.rest (omega arith) in omega (arith, z, c.length_at-size.ensures, c.loop-at.invariant.rest.within, c.loop-at.invariant.small)

pub kind_at-requires : goal.kind_at-requires
kind_at-requires c = let z = turn_room _ _ _ _ c.loop-at.invariant.rest (omega arith) in omega (arith, z, c.loop-at.invariant.rest.within)

pub overflow_add-at : goal.overflow_add-at
overflow_add-at c = let z = turn_room _ _ _ _ c.loop-at.invariant.rest (omega arith) in omega (arith, z, c.length_at-size.ensures, c.loop-at.invariant.rest.within, c.loop-at.invariant.small)

pub slice_bounds-copy_in-end : goal.slice_bounds-copy_in-end
slice_bounds-copy_in-end c = let z = turn_room _ _ _ _ c.loop-at.invariant.rest (omega arith) in omega (arith, z, c.length_at-size.ensures, c.loop-at.invariant.rest.within)

pub copy_in-requires : goal.copy_in-requires
copy_in-requires c = let r = ready _ _ _ _ _ _ _ _ _ _ _ c.loop-at.invariant (omega arith) in let z = copy_long _ c.loop-at.out c.loop-at.passed.end _ _ (sym c.kind_at.ensures ∙ c.if-kind_at-kind.true) r.0 in omega (arith, z, r.1, c.length_at-size.ensures, length-take (c.loop-at.at + (header_size + c.length_at-size.result) - c.loop-at.at) (drop c.loop-at.at c.args.self.now.store.now))

pub overflow_add-at-in-loop-at : goal.overflow_add-at-in-loop-at
overflow_add-at-in-loop-at c = let z = turn_room _ _ _ _ c.loop-at.invariant.rest (omega arith) in omega (arith, z, c.length_at-size.ensures, c.loop-at.invariant.rest.within, c.loop-at.invariant.small)

pub loop-at-preserved : goal.loop-at-preserved
loop-at-preserved c =
    let r = ready _ _ _ _ _ _ _ _ _ _ _ c.loop-at.invariant (omega arith) in
    elim c.if-kind_at-kind.branch [
      | then-kind_at-kind w ↦ rw (w.out-is, w.passed-is) (again _ _ _ _ _ _ _ _ _ _ _ c.loop-at.invariant (omega arith) _ _ _ _ c.length_at-size.ensures (copy_some _ _ _ _ _ (sym c.kind_at.ensures ∙ w.if-kind_at-kind.true) r.0 _ _ _ c.length_at-size.ensures w.copy_in.ensures))
      | else-kind_at-kind w ↦ rw (w.out-is, w.passed-is) (again _ _ _ _ _ _ _ _ _ _ _ c.loop-at.invariant (omega arith) _ _ _ _ c.length_at-size.ensures (copy_none _ _ _ _ _ _ (λ e. w.if-kind_at-kind.false (c.kind_at.ensures ∙ e))))
    ]

pub returns : goal.returns
unfolding records
returns c = all_done _ _ _ _ _ _ _ _ _ _ _ c.loop-at.invariant (omega arith)
