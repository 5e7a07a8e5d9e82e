-- What a row of packets comes to, and what the answer of `enqueue_packets` says. Assumes nothing.
use Rattle.std.specs.Prelude.{◌≡◌, refl, List, [], ◌∷◌, ℕ, ◌+◌, length, Result}
use Rattle.std.proofs.Common.{ap}
use Rattle.refusal.specs.Answer.{Answer, gives, refuses, says, says_one}
use Rattle.refusal.specs.Numbers.{number_of, refusal_of, listed}
use Rattle.model.specs.Client.{Client}
use Rattle.model.specs.Model.{Filing}
use Rattle.model.specs.Promise.{Done}
use Rattle.model.specs.Batch.{Turn, goes, stops, Site, site}
use Rattle.model.specs.declared.Connection.{Connection}
use Rattle.model.specs.declared.Halt.{Halt}
use Rattle.model.specs.declared.Fed.{Fed}
use Rattle.refusal.specs.declared.Refusal.{Refusal}

-- what stops it: no byte is left, part of a packet is left, or the next packet is refused
pub data Stopped : Type 0 where
  ended : Stopped
  partial : Stopped
  refused : ℕ → Stopped

-- a packet that was taken: its bytes, where it was filed and under which number
pub record Took : Type 0 where
  pub bytes : ℕ
  pub filing : Filing

-- what was taken, packet by packet, and what stopped it
pub record Feeding : Type 0 where
  pub packets : List Took
  pub stopped : Stopped

-- the bytes of all
unfoldable pub bytes_taken : List Took → ℕ
bytes_taken [] = 0
bytes_taken (t ∷ l) = t.bytes + bytes_taken l

-- ---- a packet as a turn

-- of the model,
unfoldable pub model_took : ℕ → Answer (Filing × Client) → Turn Took Stopped Client
model_took n (gives x) = goes (record { bytes = n; filing = x.0 }) x.1
model_took n (refuses k) = stops (refused k)

-- and of an exact outcome
unfoldable pub exact_took : ℕ → Answer (Done Filing) → Turn Took Stopped Site
exact_took n (gives d) = goes (record { bytes = n; filing = d.value }) (site d.state d.left)
exact_took n (refuses k) = stops (refused k)

-- ---- what is shown of it: how many bytes, how many packets, and what stopped it

pub record ShownFed : Type 0 where
  pub bytes : ℕ
  pub packets : ℕ
  pub stopped : Stopped

abbrev pub shown_fed : Feeding → ShownFed
shown_fed m = record { bytes = bytes_taken m.packets; packets = length m.packets; stopped = m.stopped }

abbrev pub says_halt : Halt → Stopped
says_halt Halt.End = ended
says_halt Halt.Part = partial
says_halt (Halt.Refused r) = refused (number_of r)

abbrev pub says_fed : Result Fed Refusal → Answer (ShownFed × Connection)
says_fed = says (λ x. (record { bytes = x.bytes; packets = x.packets; stopped = says_halt x.halt }, x.connection))

-- Two answers that say the same are equal.
back_halt : Stopped → Halt
back_halt ended = Halt.End
back_halt partial = Halt.Part
back_halt (refused n) = Halt.Refused (refusal_of n)

back_halt_lem : (h : Halt) → back_halt (says_halt h) ≡ h
unfolding back_halt
back_halt_lem Halt.End = refl
back_halt_lem Halt.Part = refl
back_halt_lem (Halt.Refused r) = ap Halt.Refused (listed r)

pub fed_one : (a b : Result Fed Refusal) → says_fed a ≡ says_fed b → a ≡ b
fed_one = says_one _ (λ x. record { bytes = x.0.bytes; packets = x.0.packets; halt = back_halt x.0.stopped; connection = x.1 })
    (λ f. ap (λ (h : Halt). record { bytes = f.bytes; packets = f.packets; halt = h; connection = f.connection }) (back_halt_lem f.halt))
