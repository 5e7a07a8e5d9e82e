-- Laws of soundness, and what is known of a call that gave something. Assumes nothing.
use Rattle.std.specs.Prelude.{ℕ, ◌+◌, ◌-◌, ◌*◌, ◌^◌, ◌<◌, ◌≤◌, ◌≡◌, refl, Bool, true, false, leb}
use Rattle.std.proofs.Common.{sym, ap, ◌∙◌, arith, pos_of_ne-zero, mul-le-mul, mul-le-mul_right, leb-true, leb-false, ltb-true, ltb-false, le-leb, lt-ltb}
use Rattle.std.proofs.lemmas.Nat.{and_le_r, or_lt}
use Rattle.std.specs.Int.Bits.{or_add_and}
use Rattle.std.proofs.lemmas.Bool.{eqb-false, not-false}
use Rattle.octets.specs.Logic.{both, both_left, both_right, either_left}
use Rattle.refusal.specs.Answer.{Answer, gives, refuse}
use Rattle.id_allocator.specs.declared.IdAllocator.{IdAllocator}
use Rattle.id_allocator.specs.Ids.{bits, limit, Sound, sound, lowest_bit, fresh, onward, ranged, no_ids, new_ids, generated, updated}
use Rattle.id_allocator.specs.LowestLaws.{lowest_is, lowest_power, power_of, power_yes}

-- ---- the test and the sentence

-- The test holds only where the sentence does,
pub sound_of : (a : IdAllocator) → sound a ≡ true → Sound a
unfolding sound
sound_of a h =
    let p = power_of bits a.step (both_left _ _ h) in let q = both_right _ _ h in
    record {
      power = p.0;
      step_power = p.1;
      step_below = p.2;
      last_below = ltb-true _ _ (both_left _ _ q);
      next_most = leb-true _ _ (both_right _ _ q);
    }

-- for a right step and last id it is the test of next,
sound_rest : (a : IdAllocator) (power : ℕ) → a.step ≡ 2 ^ power → a.step < limit → a.last < limit → sound a ≡ leb a.next (a.last + a.step)
unfolding sound both
sound_rest a power e s l = simp (power_yes bits a.step power e s, lt-ltb a.last limit l)

-- so it holds where the sentence does,
pub sound_yes : (a : IdAllocator) → Sound a → sound a ≡ true
sound_yes a s = sound_rest a s.power s.step_power s.step_below s.last_below ∙ le-leb _ _ s.next_most

-- and fails where the sentence does.
pub sound_no : (a : IdAllocator) → (Sound a → ⊥) → sound a ≡ false
sound_no a h = go (sound a) refl
  where
    go : (b : Bool) → sound a ≡ b → b ≡ false
    go true e = absurd (h (sound_of a e))
    go false e = refl

-- ---- the code's way: the step is its own lowest set bit

-- The step of a sound allocator is its own lowest set bit,
pub sound_lowest : (a : IdAllocator) → Sound a → lowest_bit bits a.step ≡ a.step
sound_lowest a s = ap (lowest_bit bits) s.step_power ∙ lowest_power bits s.power (omega arith) ∙ sym s.step_power

-- and where it is, and step and last id are below 2^32, the test of next is left.
pub lowest_sound : (a : IdAllocator) → 1 ≤ a.step → a.step < limit → a.last < limit → lowest_bit bits a.step ≡ a.step → sound a ≡ leb a.next (a.last + a.step)
lowest_sound a p s l e = let w = lowest_is bits a.step p s in sound_rest a w.place (sym e ∙ w.bit) s l

-- ---- the allocators that calls hand back

-- A mask that is not 0 makes a sound allocator.
pub fresh_sound : (base mask : ℕ) → 1 ≤ mask → base < limit → mask < limit → Sound (fresh base mask)
fresh_sound base mask p q r =
    let l = lowest_is bits mask p r in
    let m : 1 * 2 ^ l.place ≤ (2 * l.above + 1) * 2 ^ l.place = mul-le-mul_right (2 ^ l.place) (omega arith) in
    record {
      power = l.place;
      step_power = l.bit;
      step_below = omega arith;
      last_below = or_lt bits base mask q r;
      next_most = omega (arith, or_add_and base mask, and_le_r base mask);
    }

-- A sound allocator's step serves with other ids too.
pub sound_with : (a : IdAllocator) → Sound a → (next last : ℕ) → last < limit → next ≤ last + a.step → Sound (record { next = next; last = last; step = a.step })
sound_with a s next last l h =
    record { power = s.power; step_power = s.step_power; step_below = s.step_below; last_below = l; next_most = h }

-- ---- what is known of a call that gave something

-- It has passed the first refusal, and what came after gave it.
passed : {A : Type 0} (b : Bool) (n : ℕ) (x : Answer A) {y : A} → refuse b n x ≡ gives y → (b ≡ false) × (x ≡ gives y)
unfolding refuse
passed true n x h = let z : ◌≡◌ {A = ℕ} 0 1 = cc in absurd (omega arith)
passed false n x h = (refl, h)

-- A range with ids has a count.
pub some_count : (start count : ℕ) → no_ids start count ≡ false → 1 ≤ count
unfolding no_ids
some_count start count h = pos_of_ne-zero (eqb-false _ _ (either_left _ _ h))

-- `new` was given a mask that is not 0, and made a fresh allocator.
pub new_of : (base mask : ℕ) {a : IdAllocator} → new_ids base mask ≡ gives a → (1 ≤ mask) × (fresh base mask ≡ a)
unfolding new_ids
new_of base mask h = let p = passed _ _ _ h in (pos_of_ne-zero (eqb-false _ _ p.0), cc)

-- `generate_id` had a sound allocator with an id left, gave that id and went one step on.
pub generated_of : (a : IdAllocator) {p : ℕ × IdAllocator} → generated a ≡ gives p → Sound a × (a.next ≤ a.last) × ((a.next, onward a) ≡ p)
unfolding generated
generated_of a h =
    let p = passed _ _ _ h in let q = passed _ _ _ p.1 in
    (sound_of a (not-false _ p.0), ltb-false _ _ q.0, cc)

-- `update_xid_range` had a sound allocator and a range with ids that fits, and took it up.
pub updated_of : (a : IdAllocator) (start count : ℕ) {b : IdAllocator} → updated a start count ≡ gives b
    → Sound a × (1 ≤ count) × ((ranged a start count).last < limit) × (ranged a start count ≡ b)
unfolding updated
updated_of a start count h =
    let p = passed _ _ _ h in let q = passed _ _ _ p.1 in let r = passed _ _ _ q.1 in
    (sound_of a (not-false _ p.0), some_count start count q.0, leb-false _ _ r.0, cc)

-- ---- the code's sums

-- The last id of a range fits 64 bits.
pub span_fits : (start count step : ℕ) → start < limit → count < limit → step < limit → start + (count - 1) * step < 2 ^ 64
span_fits start count step p q r =
    let c : count - 1 ≤ limit - 2 = omega arith in let s : step ≤ limit - 1 = omega arith in omega (arith, mul-le-mul c s)
