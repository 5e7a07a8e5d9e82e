-- What rows of sends come to, on a client that has read nothing. Assumes nothing.
use Rattle.std.specs.Prelude.{◌≡◌, ℕ, ◌+◌}
use mathlib.Core.List.{List}
use Rattle.std.proofs.Math.ListN.{length}
use Rattle.requests.specs.declared.Request.{Request}
use Rattle.model.specs.Client.{Client, set_numbers, set_outstanding}
use Rattle.model.specs.Model.{fresh}
use Rattle.model.specs.Calls.{run}
use Rattle.ledger.specs.Sends.{most_sends, without_reply, numbers_from}

-- the client with these numbers and requests, nothing read and nothing held
abbrev pub client_after : ℕ → ℕ → ℕ → ℕ → List Request → Client
client_after o s w e out = set_outstanding (set_numbers (fresh o most_sends s) (record { written = w; expected = e; read = 0 })) out

-- ---- rows

-- n sends without a reply pass while neither 3, 6 nor 5 applies
pub record Passes (o s w e : ℕ) (out : List Request) (n : ℕ) : Type 0 where
  pub outstanding : List Request
  pub many : length outstanding ≡ length out + n
  pub runs : run (client_after o s w e out) (without_reply n) ≡ record { said = numbers_from (w + 1) n; end = client_after o s (w + n) e outstanding }
