-- Laws of calls in a row: where the allocator stands, and what the next call answers. Assumes nothing.
use Prim.Native.Nat.{ℕ, zero, suc, ◌+◌, ◌-◌, ◌*◌, ◌<◌, ◌≤◌}
use Rattle.std.specs.Prelude.{◌≡◌}
use Rattle.std.proofs.Math.Path.{ap}
use Rattle.std.proofs.Common.{◌∙◌, add-suc, mul-lt-mul_of_pos_right, lt-ltb, le-ltb}
use native.Mathlib.Omega.{arith}
use Rattle.std.proofs.Math.Decide.{dec_le}
use Rattle.std.proofs.Math.Nat.{suc-mul, mul-le-mul_right}
use Rattle.std.proofs.Math.Pow.{pow_pos}
use Rattle.refusal.specs.Answer.{gives, refuses, refuse}
use Rattle.id_allocator.specs.declared.IdAllocator.{IdAllocator}
use Rattle.id_allocator.specs.Ids.{Sound, generated, onward}
use Rattle.id_allocator.specs.Runs.{next_of, after_calls, id_of, call, Run}
use Rattle.id_allocator.specs.SoundLaws.{sound_yes, sound_with}

-- A sound allocator gives its next id as long as that is not past the last,
gives_next : (a : IdAllocator) → Sound a → a.next ≤ a.last → generated a ≡ gives (a.next, onward a)
unfolding generated refuse
gives_next a s l = simp (sound_yes a s, le-ltb a.last a.next l)

-- and then none.
gives_none : (a : IdAllocator) → Sound a → a.last < a.next → generated a ≡ refuses 11
unfolding generated refuse
gives_none a s l = simp (sound_yes a s, lt-ltb a.last a.next l)

-- the allocator i steps on
abbrev moved : IdAllocator → ℕ → IdAllocator
moved a i = record { next = a.next + i * a.step; last = a.last; step = a.step }

module _ (a : IdAllocator) (s : Sound a) where
  -- It is sound up to one step past the last id.
  moved_sound : (i : ℕ) → a.next + i * a.step ≤ a.last + a.step → Sound (moved a i)
  moved_sound i = sound_with a s (a.next + i * a.step) a.last s.last_below

  -- After i calls the allocator is i steps on, as long as each had an id,
  after_ids : (i : ℕ) → a.next + i * a.step ≤ a.last + a.step → after_calls i a ≡ moved a i
  unfolding after_calls
  after_ids zero h =
      let e : a.next ≡ a.next + 0 * a.step = omega arith in λ k. record { next = e k; last = a.last; step = a.step }
  after_ids (suc i) h =
      let m = suc-mul i a.step in let e : a.next + i * a.step + a.step ≡ a.next + suc i * a.step = omega arith in
      ap (λ (b : IdAllocator). next_of b (generated b)) (after_ids i (omega arith))
      ∙ ap (next_of (moved a i)) (gives_next (moved a i) (moved_sound i (omega arith)) (omega arith))
      ∙ (λ k. record { next = e k; last = a.last; step = a.step })

  -- and stays where it is past the last id.
  after_end : (i d : ℕ) → a.next + i * a.step ≤ a.last + a.step → a.last < a.next + i * a.step → after_calls (i + d) a ≡ moved a i
  unfolding after_calls
  after_end i zero h l = let e : i + 0 ≡ i = omega arith in ap (λ (n : ℕ). after_calls n a) e ∙ after_ids i h
  after_end i (suc d) h l =
      ap (λ (n : ℕ). after_calls n a) (add-suc i d) ∙ ap (λ (b : IdAllocator). next_of b (generated b)) (after_end i d h l)
      ∙ ap (next_of (moved a i)) (gives_none (moved a i) (moved_sound i h) l)

  -- Where the last id is c steps on, calls 0 to c give an id,
  pub call_id : (c : ℕ) → a.last ≡ a.next + c * a.step → (i : ℕ) → i ≤ c → call i a ≡ gives (a.next + i * a.step)
  unfolding call
  call_id c e i l =
      let m : i * a.step ≤ c * a.step = mul-le-mul_right a.step l in
      ap (λ (b : IdAllocator). id_of (generated b)) (after_ids i (omega arith)) ∙ ap id_of (gives_next (moved a i) (moved_sound i (omega arith)) (omega arith))

  -- and every later call refuses by 11.
  pub call_end : (c : ℕ) → a.last ≡ a.next + c * a.step → (i : ℕ) → c < i → call i a ≡ refuses 11
  unfolding call
  call_end c e i l =
      let m = suc-mul c a.step in let q = pow_pos s.power in let d : i ≡ suc c + (i - suc c) = omega arith in
      ap (λ (n : ℕ). id_of (generated (after_calls n a))) d ∙ ap (λ (b : IdAllocator). id_of (generated b)) (after_end (suc c) (i - suc c) (omega arith) (omega arith))
      ∙ ap id_of (gives_none (moved a (suc c)) (moved_sound (suc c) (omega arith)) (omega arith))

-- The ids of a run rise.
pub run_rising : {a : IdAllocator} {first step count : ℕ} → Run a first step count → 1 ≤ step → (i l x y : ℕ) → i < l → call i a ≡ gives x → call l a ≡ gives y → x < y
run_rising {a} {first} {step} {count} r p i l x y h e f =
    let m : i * step < l * step = mul-lt-mul_of_pos_right h p in let u = given i x e in let v = given l y f in omega arith
  where
    given : (i x : ℕ) → call i a ≡ gives x → x ≡ first + i * step
    given i x e =
        elim (dec_le count i) [
          | yes q ↦ let g = r.end i q in let z : ◌≡◌ {A = ℕ} 0 1 = cc in absurd (omega arith)
          | no q ↦ let g = r.ids i (omega arith) in cc
        ]
