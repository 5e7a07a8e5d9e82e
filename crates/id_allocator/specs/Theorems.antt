-- The theorems of the crate; their lemmas are in the files of laws. Assumes nothing.
use Rattle.std.specs.Prelude.{ℕ, zero, suc, ◌+◌, ◌-◌, ◌*◌, ◌^◌, ◌<◌, ◌≤◌, ◌≡◌, refl, ◌↔◌, true, Result}
use Rattle.std.proofs.Common.{sym, ap, ◌∙◌, subst, arith, pow_pos, ne_eqb}
use Rattle.std.specs.Int.Bits.{bit_and, bit_or}
use Rattle.refusal.specs.Answer.{Answer, gives, refuses, refuse, says_one}
use Rattle.id_allocator.specs.declared.IdAllocator.{IdAllocator}
use Rattle.id_allocator.specs.declared.Generated.{Generated}
use Rattle.id_allocator.specs.Ids.{bits, limit, Sound, sound, lowest_bit, Lowest, fresh, ranged, new_ids, generated, updated, says_ids, says_generated}
use Rattle.id_allocator.specs.Runs.{after_calls, call, id_of, next_of, Run, contiguous, EveryId}
use Rattle.id_allocator.specs.Lent.{says_next, taken_up, Generates, Updates}
use Rattle.id_allocator.specs.LowestLaws.{lowest_of, lowest_is}
use Rattle.id_allocator.specs.SoundLaws.{sound_of, sound_yes, fresh_sound, sound_with, new_of, generated_of, updated_of}
use Rattle.id_allocator.specs.RunLaws.{call_id, call_end}
use Rattle.id_allocator.specs.MaskLaws.{or_steps, contiguous_some, contiguous_lowest, contiguous_or, contiguous_run}
use Rattle.refusal.specs.declared.Refusal.{Refusal}

-- 01, How a promise is judged: any two answers that `new` or `update_xid_range` may give are equal, since they say the same,
pub ids_one : (r s : Result IdAllocator Refusal) → says_ids r ≡ says_ids s → r ≡ s
ids_one = says_one _ (λ a. a) (λ x. refl)

-- and so are any two of `generate_id`.
pub generated_one : (r s : Result Generated Refusal) → says_generated r ≡ says_generated s → r ≡ s
generated_one = says_one _ (λ p. record { id = p.0; next = p.1 }) (λ x. refl)

-- 01, Rooms: the test of soundness holds exactly where the paper's sentence does.
pub sound_is : (a : IdAllocator) → (sound a ≡ true) ↔ Sound a
sound_is a = (sound_of a, sound_yes a)

-- 01, Ids: the step of a mask is its lowest set bit, and nothing else is.
pub step_is : (mask s : ℕ) → 1 ≤ mask → mask < limit → (s ≡ lowest_bit bits mask) ↔ Lowest mask s
step_is mask s p q = (
  λ e. subst (Lowest mask) (sym e) (lowest_is bits mask p q),
  λ l. l.bit ∙ sym (lowest_of bits l.above l.place (omega arith)) ∙ ap (lowest_bit bits) (sym l.digits),
)

-- 01, Rooms: each state that is left is sound, by `new`,
pub new_sound : (base mask : ℕ) {a : IdAllocator} → base < limit → mask < limit → new_ids base mask ≡ gives a → Sound a
new_sound base mask p q h = let n = new_of base mask h in subst Sound n.1 (fresh_sound base mask n.0 p q)

-- by `generate_id`, which refuses an unsound one,
pub generate_sound : (a : IdAllocator) {id : ℕ} {b : IdAllocator} → generated a ≡ gives (id, b) → Sound b
generate_sound a h =
    let g = generated_of a h in
    subst (λ (p : ℕ × IdAllocator). Sound p.1) g.2 (sound_with a g.0 (a.next + a.step) a.last g.0.last_below (omega arith))

-- and by `update_xid_range`, which does too.
pub update_sound : (a : IdAllocator) (start count : ℕ) {b : IdAllocator} → updated a start count ≡ gives b → Sound b
update_sound a start count h =
    let u = updated_of a start count h in
    subst Sound u.3 (sound_with a u.0 start (ranged a start count).last u.2 (omega arith))

-- 01, Ids: a sound allocator whose last id is count - 1 steps on gives next, next + step, .., last, in this order, and then refuses by 11.
pub run : (a : IdAllocator) (count : ℕ) → Sound a → 1 ≤ count → a.last ≡ a.next + (count - 1) * a.step → Run a a.next a.step count
run a count s p e =
    record {
      ids = λ i l. call_id a s (count - 1) e i (omega arith);
      end = λ i l. call_end a s (count - 1) e i (omega arith);
    }

-- 01, Ids: "Ids run from base to base | mask", which is itself the last, for every mask but 0.
pub new_run : (base mask : ℕ) {a : IdAllocator} → base < limit → mask < limit → new_ids base mask ≡ gives a
    → (count : ℕ) × (1 ≤ count) × (bit_or base mask ≡ base + (count - 1) * lowest_bit bits mask) × Run a base (lowest_bit bits mask) count
new_run base mask p q h =
    let n = new_of base mask h in let a : IdAllocator = fresh base mask in
    let o = or_steps base mask a.step (lowest_is bits mask n.0 q) in
    let e : a.last ≡ base + (suc o.0 - 1) * a.step = o.1 ∙ ap (λ (c : ℕ). base + c * a.step) (omega arith) in
    (suc o.0, omega arith, e, subst (λ (b : IdAllocator). Run b base a.step (suc o.0)) n.1 (run a (suc o.0) (fresh_sound base mask n.0 p q) (omega arith) e))

-- 01, Ids: "For a contiguous mask sharing no bit with the base, every such id comes once, rising."
pub every_id : (base j k : ℕ) → 1 ≤ j → base < limit → contiguous j k < limit → bit_and base (contiguous j k) ≡ 0
    → (a : IdAllocator) × (new_ids base (contiguous j k) ≡ gives a) × EveryId a base (contiguous j k) (2 ^ j)
unfolding new_ids refuse
every_id base j k p q l e =
    let m = contiguous_some j k p in let a : IdAllocator = fresh base (contiguous j k) in
    let s = contiguous_lowest bits j k p l in
    let r = run a (2 ^ j) (fresh_sound base (contiguous j k) m q l) (pow_pos j) (contiguous_or base j k e ∙ ap (λ (x : ℕ). base + (2 ^ j - 1) * x) (sym s)) in
    (a, simp (ne_eqb (contiguous j k) 0 (λ z. omega arith)), contiguous_run base j k e (subst (λ (x : ℕ). Run a base x (2 ^ j)) s r))

-- 01, Ids: "A range gives start to start + (count - 1) × step."
pub range_run : (a : IdAllocator) (start count : ℕ) {b : IdAllocator} → updated a start count ≡ gives b → Run b start a.step count
range_run a start count h =
    let u = updated_of a start count h in let b : IdAllocator = ranged a start count in
    subst (λ (c : IdAllocator). Run c start a.step count) u.3 (run b count (sound_with a u.0 start b.last u.2 (omega arith)) u.1 refl)

-- ---- the allocator lent

-- Any two answers that the lent `generate_id` may give are equal, and so are the allocators that they leave,
pub generates_one : {a b c : IdAllocator} (r s : Result ℕ Refusal) → Generates a r b → Generates a s c → (r ≡ s) × (b ≡ c)
generates_one r s p q = (says_one _ (λ n. n) (λ x. refl) r s (p.answer ∙ sym q.answer), p.exit ∙ sym q.exit)

-- and of the lent `update_xid_range` too.
pub updates_one : {a b c : IdAllocator} {start count : ℕ} (r s : Result Unit Refusal) → Updates a start count r b → Updates a start count s c → (r ≡ s) × (b ≡ c)
updates_one r s p q = (says_one _ (λ x. x) (λ x. refl) r s (p.answer ∙ sym q.answer), p.exit ∙ sym q.exit)

-- A sound allocator that is lent is sound afterwards, refused or not.
pub generates_sound : {a b : IdAllocator} {r : Result ℕ Refusal} → Sound a → Generates a r b → Sound b
generates_sound {a} s p = subst Sound (sym p.exit) (go (generated a) refl)
  where
    go : (x : Answer (ℕ × IdAllocator)) → generated a ≡ x → Sound (next_of a x)
    go (gives q) e = generate_sound a e
    go (refuses n) e = s

pub updates_sound : {a b : IdAllocator} {start count : ℕ} {r : Result Unit Refusal} → Sound a → Updates a start count r b → Sound b
updates_sound {a} {start = start} {count = count} s p = subst Sound (sym p.exit) (go (updated a start count) refl)
  where
    go : (x : Answer IdAllocator) → updated a start count ≡ x → Sound (taken_up a x)
    go (gives b) e = update_sound a start count e
    go (refuses n) e = s

-- Lent calls in a row, call i from state i to the next: they find and leave the allocators that calls by value hand on,
pub lent_state : (state : ℕ → IdAllocator) (said : ℕ → Result ℕ Refusal) → ((i : ℕ) → Generates (state i) (said i) (state (suc i))) → (i : ℕ) → state i ≡ after_calls i (state 0)
unfolding after_calls
lent_state state said each zero = refl
lent_state state said each (suc i) = (each i).exit ∙ ap (λ (a : IdAllocator). next_of a (generated a)) (lent_state state said each i)

-- and give the same ids and refusals. So what `Run` and `EveryId` say of calls in a row, they say of lent calls.
pub lent_call : (state : ℕ → IdAllocator) (said : ℕ → Result ℕ Refusal) → ((i : ℕ) → Generates (state i) (said i) (state (suc i))) → (i : ℕ) → says_next (said i) ≡ call i (state 0)
unfolding call
lent_call state said each i = (each i).answer ∙ ap (λ (a : IdAllocator). id_of (generated a)) (lent_state state said each i)
