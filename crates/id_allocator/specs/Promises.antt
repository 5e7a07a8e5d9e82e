-- THE PROMISES of the public calls: what a contract says of the answer r, and that any two answers that it allows are equal. Of the lent calls that is `Generates` and `Updates` (`Lent.antt`). Assumes nothing.
use Rattle.std.specs.Prelude.{◌≡◌, ℕ, Result}
use Rattle.std.proofs.Common.{sym, ◌∙◌}
use Rattle.id_allocator.specs.Ids.{new_ids, generated, updated, says_ids, says_generated}
use Rattle.id_allocator.specs.Theorems.{ids_one, generated_one}
use Rattle.id_allocator.specs.declared.IdAllocator.{IdAllocator}
use Rattle.id_allocator.specs.declared.Generated.{Generated}
use Rattle.refusal.specs.declared.Refusal.{Refusal}

-- `IdAllocator::new`
module _ (base mask : ℕ) where
  abbrev pub MakesIds : Result IdAllocator Refusal → Type 0
  MakesIds r = says_ids r ≡ new_ids base mask

  pub makes_ids_one : (a b : Result IdAllocator Refusal) → MakesIds a → MakesIds b → a ≡ b
  makes_ids_one a b x y = ids_one a b (x ∙ sym y)

-- `generate_id`
module _ (ids : IdAllocator) where
  abbrev pub GivesId : Result Generated Refusal → Type 0
  GivesId r = says_generated r ≡ generated ids

  pub gives_id_one : (a b : Result Generated Refusal) → GivesId a → GivesId b → a ≡ b
  gives_id_one a b x y = generated_one a b (x ∙ sym y)

-- `update_xid_range`
module _ (ids : IdAllocator) (start count : ℕ) where
  abbrev pub TakesRange : Result IdAllocator Refusal → Type 0
  TakesRange r = says_ids r ≡ updated ids start count

  pub takes_range_one : (a b : Result IdAllocator Refusal) → TakesRange a → TakesRange b → a ≡ b
  takes_range_one a b x y = ids_one a b (x ∙ sym y)
