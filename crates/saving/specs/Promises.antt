-- EACH PROMISE HAS ONE OUTCOME: two answers that keep it are equal, and so is what is lent at exit. Assumes nothing.
use Rattle.std.specs.Prelude.{◌≡◌, List, ℕ, Result}
use Rattle.std.proofs.Common.{sym, ◌∙◌}
use Rattle.model.specs.Reading.{Rooms}
use Rattle.savepoint.specs.Calls.{Laid, Measures, Saves, Restores}
use Rattle.saving.specs.Says.{says_saved, says_restored, saved_one, restored_one}
use Rattle.refusal.specs.declared.Refusal.{Refusal}
use Rattle.saving.specs.declared.Client.{Client}

pub measures_one : (x : Laid) (a b : Result ℕ Refusal) → Measures x (says_saved a) → Measures x (says_saved b) → a ≡ b
measures_one x a b p q = saved_one a b (p ∙ sym q)

pub saves_one : (x : Laid) (out : List ℕ) (a b : Result ℕ Refusal) (y z : List ℕ) → Saves x out (says_saved a) y → Saves x out (says_saved b) z → (a ≡ b) × (y ≡ z)
saves_one x out a b y z p q = (saved_one a b (p.answers ∙ sym q.answers), p.writes ∙ sym q.writes)

pub restores_one : (bytes : List ℕ) (r : Rooms) (buf : List ℕ) (a b : Result Client Refusal) (s t : Rooms) (y z : List ℕ) → Restores bytes r buf (says_restored a) s y → Restores bytes r buf (says_restored b) t z → (a ≡ b) × (s ≡ t) × (y ≡ z)
restores_one bytes r buf a b s t y z p q = (restored_one a b (p.answers ∙ sym q.answers), p.leaves ∙ sym q.leaves, p.fills ∙ sym q.fills)
