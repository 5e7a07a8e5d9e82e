-- What `found` answers, and what comes of a savepoint that is none. Assumes nothing.
use Rattle.std.specs.Prelude.{◌≡◌, refl, List, ℕ, Option, None, Some, Result, Ok, Err}
use Rattle.std.specs.Option.{ok_or}
use Rattle.std.proofs.Common.{sym, subst}
use Rattle.refusal.specs.Answer.{Answer, refuses}
use Rattle.refusal.specs.declared.Refusal.{Refusal}
use Rattle.refusal.specs.declared.Refusal.TheVariants.{BadSavepoint}
use Rattle.model.specs.Reading.{Rooms}
use Rattle.savepoint.specs.Saved.{decode}
use Rattle.savepoint.specs.Calls.{Values, Restores}
use Rattle.saving.specs.declared.laying.Savepoint.{Savepoint}
use Rattle.saving.specs.Planned.{Good}

-- THE CODE'S ANSWER: the bytes, with where the sections of a sound state stand, or that no such bytes are given.
abbrev pub Planned : List ℕ → Option Savepoint → Type 0
Planned s None = refuses 19 ≡ decode s
Planned s (Some x) = (x.bytes.now ≡ s) × Good x.bytes.now x.plan

-- and so says a result that refuses by 19 where they are none
abbrev pub Told : List ℕ → Result Savepoint Refusal → Type 0
Told s (Ok x) = (x.bytes.now ≡ s) × Good x.bytes.now x.plan
Told s (Err e) = (e ≡ BadSavepoint) × (refuses 19 ≡ decode s)

pub planned_told : (s : List ℕ) (a : Option Savepoint) (r : Result Savepoint Refusal) → Planned s a → r ≡ ok_or a BadSavepoint → Told s r
planned_told s a r P e = subst (Told s) (sym e) (go a P)
  where
    go : (a : Option Savepoint) → Planned s a → Told s (ok_or a BadSavepoint)
    go None N = (refl, N)
    go (Some x) G = G

-- what the savepoint's bytes restore the bytes given do
pub restores_same : {s t : List ℕ} {r r' : Rooms} {b b' : List ℕ} {a : Answer Values} → s ≡ t → Restores s r b a r' b' → Restores t r b a r' b'
restores_same {r = r} {r' = r'} {b = b} {b' = b'} {a = a} e R = subst (λ s. Restores s r b a r' b') e R
