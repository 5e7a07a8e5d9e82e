use Rattle.std.proofs.Common.{length, ◌≡◌, refl, sym, Bool, true, false, ℕ, ◌+◌, ◌-◌, ◌≤◌, ◌<◌, arith, leb, eqb, le-leb, leb-true, leb-false, eq-eqb, ne_eqb}
use borrow.Author.Tests.{lt-leb}
use Rattle.octets.specs.Logic.{both}
use Rattle.descriptors.specs.Room.{most_descriptors, total, sound}
use Rattle.descriptors.proofs.sound.Goals as goal

-- the sum's test without the sum, which could wrap
by_difference : (a b c : ℕ) → a ≤ most_descriptors → b ≤ most_descriptors - a → leb c (most_descriptors - a - b) ≡ leb (a + b + c) most_descriptors
by_difference a b c h f = go (leb c (most_descriptors - a - b)) refl
  where
    go : (t : Bool) → leb c (most_descriptors - a - b) ≡ t → t ≡ leb (a + b + c) most_descriptors
    go true e = let p : c ≤ most_descriptors - a - b = leb-true _ _ e in sym (le-leb (a + b + c) most_descriptors (omega arith))
    go false e = let p : most_descriptors - a - b < c = leb-false _ _ e in sym (lt-leb (a + b + c) most_descriptors (omega arith))

over : (n s : ℕ) → n ≡ most_descriptors → most_descriptors < s → false ≡ both (eqb n most_descriptors) (leb s most_descriptors)
unfolding both
over n s e h = simp (eq-eqb n most_descriptors e, lt-leb s most_descriptors h)

pub returns-then-slots-ne-MOST_DESCRIPTORS : goal.returns-then-slots-ne-MOST_DESCRIPTORS
unfolding sound both
returns-then-slots-ne-MOST_DESCRIPTORS c = simp (ne_eqb _ _ c.if-slots-ne-MOST_DESCRIPTORS.true)

pub returns-then-counts-gt-MOST_DESCRIPTORS : goal.returns-then-counts-gt-MOST_DESCRIPTORS
unfolding sound
returns-then-counts-gt-MOST_DESCRIPTORS c = over (length c.args.slots.now) (total c.args.counts) c.if-slots-ne-MOST_DESCRIPTORS.false (omega arith)

pub returns-then-rest-counts : goal.returns-then-rest-counts
unfolding sound
returns-then-rest-counts c = over (length c.args.slots.now) (total c.args.counts) c.if-slots-ne-MOST_DESCRIPTORS.false (omega arith)

pub returns : goal.returns
unfolding sound both
returns c = simp (eq-eqb _ _ c.if-slots-ne-MOST_DESCRIPTORS.false) (by_difference c.args.counts.closed c.args.counts.held c.args.counts.waiting (omega arith) (omega arith))
