-- What the answers of the three calls say in the rules' terms. Assumes nothing.
use Rattle.std.specs.Prelude.{◌≡◌, refl, List, ℕ, Result}
use Rattle.refusal.specs.Answer.{Answer, says, says_one}
use Rattle.model.specs.Reading.{Rooms}
use Rattle.savepoint.specs.Calls.{Laid, laid, Values}
use Rattle.saving.specs.declared.Client.{Client}
use Rattle.refusal.specs.declared.Refusal.{Refusal}

-- a client with what is lent with it
abbrev pub laid_of : Client → Rooms → List ℕ → Laid
laid_of x r b = laid x.connection r x.reader b x.ids

abbrev pub values_in : Client → Values
values_in x = (x.connection, (x.reader, x.ids))

abbrev pub says_saved : Result ℕ Refusal → Answer ℕ
says_saved = says (λ n. n)

abbrev pub says_restored : Result Client Refusal → Answer Values
says_restored = says (λ x. values_in x)

-- Two answers that say the same are equal.

pub saved_one : (a b : Result ℕ Refusal) → says_saved a ≡ says_saved b → a ≡ b
saved_one = says_one _ (λ n. n) (λ x. refl)

pub restored_one : (a b : Result Client Refusal) → says_restored a ≡ says_restored b → a ≡ b
restored_one = says_one _ (λ v. record { connection = v.0; reader = v.1.0; ids = v.1.1 }) (λ x. refl)
