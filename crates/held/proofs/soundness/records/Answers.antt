use Rattle.std.proofs.Common.{◌≡◌, refl, sym, ap, ◌∙◌, List, ℕ, ◌+◌, ◌-◌, ◌≤◌, ◌<◌, arith, eqb, length, drop}
use Rattle.octets.specs.Logic.{choose}
use Rattle.octets.specs.Put.{cut, drop_cut, length_cut}
use Rattle.packet.specs.Packet.{least_packet}
use Rattle.held.specs.Head.{reply, header_size, cost, decoded, num_of, fds_of, kind_of}
use Rattle.held.specs.Front.{Begins, Sized, Begun, Stands, begins_stands, begun_some}
use Rattle.held.specs.Walk.{walked_on, raised, walk_end, walk_stop, walk_step}
use Rattle.held.proofs.soundness.records.Goals as goal
use Rattle.held.proofs.soundness.records.Invariants.{Inv}
use Rattle.std.specs.Prelude.{Option, Some, None}

ends : (s : List ℕ) (start end last at from sum : ℕ) → Inv s start end last at from sum → end ≤ at → end ≤ length s → Some sum ≡ walked_on 0 last 0 (cut start (end - start) s)
ends s start end last at from sum I h f =
    walk_end from last sum (cut at (end - at) s) (omega (arith, I.most, length_cut at (end - at) s (omega (arith, I.most)))) ∙ sym I.same

module _ (s : List ℕ) (start end last at from sum : ℕ) (I : Inv s start end last at from sum) (below : at < end) (within : end ≤ length s) where
  abbrev x : List ℕ
  x = cut at (end - at) s

  some : 0 < length x
  some = omega (arith, length_cut at (end - at) s (omega arith))

  front : Begins x → Stands s at (end - at) (decoded x) (drop (cost (decoded x)) x)
  front = begins_stands s at (end - at) (omega arith)

  stops : (Begins x → (decoded x).number ≤ last → from ≤ raised (decoded x).kind (decoded x).number from → ⊥) → None ≡ walked_on 0 last 0 (cut start (end - start) s)
  stops n = walk_stop from last sum x some n ∙ sym I.same

  none : (r : Option ℕ) → Begun x r → r ≡ None → None ≡ walked_on 0 last 0 (cut start (end - start) s)
  none r z e = stops (λ b k q. z.none e b)

  sizes : (size : ℕ) → Sized x size → (size ≡ 0 → ⊥) → (header_size + least_packet ≤ size) × (size ≤ end - at)
  sizes size z e =
      let F : Stands s at (end - at) (decoded x) (drop (cost (decoded x)) x) = front (z.some e).0 in
      (omega (arith, F.least, (z.some e).1), omega (arith, F.most, (z.some e).1))

  module _ (number : ℕ) (n : number ≡ num_of (drop at s)) where
    over : last < number → None ≡ walked_on 0 last 0 (cut start (end - start) s)
    over h = stops (λ b k r. omega (arith, (front b).number))

    module _ (kind m : ℕ) (d : kind ≡ kind_of (drop at s)) (q : m ≡ choose (eqb kind reply) number from) where
      next : Begins x → raised (decoded x).kind (decoded x).number from ≡ m
      next b = (λ j. raised ((sym (front b).kind ∙ sym d) j) ((sym (front b).number ∙ sym n) j) from) ∙ sym q

      under : m < from → None ≡ walked_on 0 last 0 (cut start (end - start) s)
      under h = stops (λ b k r. omega (arith, next b))

      goes : (size fds : ℕ) → Sized x size → (size ≡ 0 → ⊥) → number ≤ last → from ≤ m → fds ≡ fds_of (drop at s) → fds < 256 → Inv s start end last (at + size) m (sum + fds)
      goes size fds z e k r u v =
          let b : Begins x = (z.some e).0 in
          let c : size ≡ cost (decoded x) = (z.some e).1 in
          let F : Stands s at (end - at) (decoded x) (drop (cost (decoded x)) x) = front b in
          let w : end - at - size ≡ end - (at + size) = omega arith in
          let y : drop (cost (decoded x)) x ≡ cut (at + size) (end - (at + size)) s =
          ap (λ (i : ℕ). drop i x) (sym c) ∙ drop_cut s at (end - at) size (omega (arith, F.most)) ∙ ap (λ (i : ℕ). cut (at + size) i s) w in
          record {
            most = omega (arith, F.most);
            few = omega (arith, F.least, I.few);
            same = I.same
                ∙ walk_step from last sum x some b (omega (arith, F.number)) (omega (arith, next b))
                ∙ (λ j. walked_on (next b j) last (sum + (sym F.fds ∙ sym u) j) (y j));
          }

pub loop-at-init : goal.loop-at-init
loop-at-init c = record { most = omega arith; few = omega arith; same = refl }

pub returns-in_err-size : goal.returns-in_err-size
returns-in_err-size c = c.from_residual.ensures ∙ none _ _ _ _ _ _ _ c.loop-at.invariant (omega arith) (omega arith) _ c.record_at.ensures c.in_err-size.was

pub number_at-number-requires : goal.number_at-number-requires
number_at-number-requires c = let z = sizes _ _ _ _ _ _ _ c.loop-at.invariant (omega arith) (omega arith) _ (begun_some _ _ _ c.in_ok-size.was c.record_at.ensures).0 (begun_some _ _ _ c.in_ok-size.was c.record_at.ensures).1 in omega (arith, z)

pub returns-then-last-number : goal.returns-then-last-number
returns-then-last-number c = over _ _ _ _ _ _ _ c.loop-at.invariant (omega arith) (omega arith) _ c.number_at-number.ensures c.if-last-number.true

pub kind_at-requires : goal.kind_at-requires
kind_at-requires c = let z = sizes _ _ _ _ _ _ _ c.loop-at.invariant (omega arith) (omega arith) _ (begun_some _ _ _ c.in_ok-size.was c.record_at.ensures).0 (begun_some _ _ _ c.in_ok-size.was c.record_at.ensures).1 in omega (arith, z)

pub returns-then-next-from : goal.returns-then-next-from
returns-then-next-from c = under _ _ _ _ _ _ _ c.loop-at.invariant (omega arith) (omega arith) _ c.number_at-number.ensures _ _ c.kind_at.ensures c.pick-next.ensures c.if-next-from.true

pub count_at-requires : goal.count_at-requires
count_at-requires c = let z = sizes _ _ _ _ _ _ _ c.loop-at.invariant (omega arith) (omega arith) _ (begun_some _ _ _ c.in_ok-size.was c.record_at.ensures).0 (begun_some _ _ _ c.in_ok-size.was c.record_at.ensures).1 in omega (arith, z)

pub overflow_add-at : goal.overflow_add-at
overflow_add-at c = let z = sizes _ _ _ _ _ _ _ c.loop-at.invariant (omega arith) (omega arith) _ (begun_some _ _ _ c.in_ok-size.was c.record_at.ensures).0 (begun_some _ _ _ c.in_ok-size.was c.record_at.ensures).1 in omega (arith, z)

pub loop-at-preserved : goal.loop-at-preserved
loop-at-preserved c = goes _ _ _ _ _ _ _ c.loop-at.invariant (omega arith) (omega arith) _ c.number_at-number.ensures _ _ c.kind_at.ensures c.pick-next.ensures _ _ (begun_some _ _ _ c.in_ok-size.was c.record_at.ensures).0 (begun_some _ _ _ c.in_ok-size.was c.record_at.ensures).1 (omega arith) (omega arith) c.count_at.ensures (omega arith)

pub returns : goal.returns
returns c = ends _ _ _ _ _ _ _ c.loop-at.invariant c.loop-at-test.false (omega arith)
