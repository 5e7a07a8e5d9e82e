-- 01, Sending. Assumes nothing.
use Rattle.std.specs.Prelude.{◌≡◌, ℕ, ◌+◌, ◌-◌, ◌<◌, ◌≤◌, Bool, true, false, not, nat_le, refl, Result}
use Rattle.std.proofs.Common.{sym, arith, le-leb, leb-true, leb-false}
use Rattle.std.proofs.lemmas.Bool.{lt-leb}
use Rattle.octets.specs.Logic.{both, choose}
use Rattle.refusal.specs.Answer.{Answer, gives, refuse, says, says_one}
use Rattle.refusal.specs.declared.Refusal.{Refusal}
use Rattle.sequence.specs.Numbering.{last_number}
use Rattle.sequence.specs.declared.Sent.{Sent}

-- next reply expected + 65,534 <= last written
abbrev pub sync_span : ℕ
sync_span = 65534

unfoldable pub must_sync : ℕ → ℕ → Bool
must_sync written expected = nat_le (expected + sync_span) written

-- What a sent request comes to: its number, and the next reply expected.
pub record Numbers : Type 0 where
  pub number : ℕ
  pub expected : ℕ

-- A request gets last written + 1; if it has a reply, next reply expected becomes its number. Refusals in the order of sending: 3 where the number would pass the last one; 6 for a request without a reply where `sync` says that a sync must come first.
abbrev pub sending_if : Bool → ℕ → ℕ → Bool → Answer Numbers
sending_if sync written expected has-reply =
    refuse (nat_le last_number written) 3
    (refuse (both (not has-reply) sync) 6
    (gives (record { number = written + 1; expected = choose has-reply (written + 1) expected })))

unfoldable pub sending : ℕ → ℕ → Bool → Answer Numbers
sending written expected has-reply = sending_if (must_sync written expected) written expected has-reply

-- The same with any span in the place of 65,534, for theorems about that number.
unfoldable pub sending_by : ℕ → ℕ → ℕ → Bool → Answer Numbers
sending_by span written expected has-reply = sending_if (nat_le (expected + span) written) written expected has-reply

-- what a sent request or its refusal says
abbrev pub says_sent : Result Sent Refusal → Answer Numbers
says_sent = says (λ s. record { number = s.number.0; expected = s.expected.0 })

-- ---- laws

pub sending_by_lem : (written expected : ℕ) (has-reply : Bool) → sending written expected has-reply ≡ sending_by sync_span written expected has-reply
unfolding sending must_sync sending_by
sending_by_lem written expected has-reply = refl

-- the test without a sum that could wrap
pub sync_by_difference : (written expected : ℕ) → sync_span ≤ written → nat_le expected (written - sync_span) ≡ must_sync written expected
unfolding must_sync
sync_by_difference written expected h = go (nat_le expected (written - sync_span)) refl
  where
    go : (t : Bool) → nat_le expected (written - sync_span) ≡ t → t ≡ nat_le (expected + sync_span) written
    go true e = let p : expected ≤ written - sync_span = leb-true _ _ e in sym (le-leb (expected + sync_span) written (omega arith))
    go false e = let p : written - sync_span < expected = leb-false _ _ e in sym (lt-leb (expected + sync_span) written (omega arith))

-- Two answers that say the same are equal.
pub sent_one_lem : (a b : Result Sent Refusal) → says_sent a ≡ says_sent b → a ≡ b
sent_one_lem = says_one _ (λ n. record { number = record { 0 = n.number }; expected = record { 0 = n.expected } }) (λ s. refl)
