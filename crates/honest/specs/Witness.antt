-- There are runs with an honest server: one with each call, and an event, a KeymapNotify of either code, an error and replies that are held, have a descriptor or are dropped; runs of any length; and one that is both, past 65,536. Assumes nothing.
use Rattle.std.specs.Prelude.{true, List, [], ◌∷◌}
use Prim.Native.Nat.{ℕ, zero, suc, ◌%◌, ◌≤◌}
use Rattle.std.proofs.Math.ListN.{length}
use Rattle.sequence.specs.Numbering.{wire_values}
use Rattle.packet.specs.Packet as Packet
use Rattle.requests.specs.declared.Request.{Request}
use Rattle.model.specs.Client.{Numbers, Client, set_numbers, set_outstanding}
use Rattle.model.specs.Model.{fresh, Filing}
use Rattle.model.specs.Calls.{Call}
use Rattle.model.specs.declared.Place.TheVariants.{Replies}
use Rattle.honest.specs.Run.{Entry, sent, took, Runs}
use Rattle.honest.specs.Computing.{packet_of}

-- ---- A run with every kind of call and packet

-- a call, and the true number of the packet that it brings
pub record Move : Type 0 where
  pub call : Call
  pub true_number : ℕ

-- a state that holds nothing, in a request room of k
abbrev pub client_at : ℕ → Numbers → List Request → Client
client_at k numbers outstanding = set_outstanding (set_numbers (fresh 108 k 100) numbers) outstanding

-- the state between rounds: the request that was answered last is still outstanding
abbrev pub between : ℕ → ℕ → List Request → Client
between k n rest = client_at k (record { written = n; expected = n; read = n }) rest

-- the reply to request t
abbrev pub reply_to : ℕ → List ℕ
reply_to t = packet_of 1 0 (t % wire_values)

abbrev pub in_replies : ℕ → Filing
in_replies n = record { place = Replies; number = n; class = Packet.reply }

unfoldable pub rounds : ℕ → List Entry
rounds zero = []
rounds (suc n) = took (suc n) (reply_to (suc n)) (in_replies (suc n)) ∷ sent true ∷ rounds n

-- a run through n rounds
pub record Through (k n : ℕ) : Type 0 where
  pub rest : List Request
  pub short : length rest ≤ 1
  pub fewer : length rest ≤ n
  pub run : Runs (between k n rest) (rounds n)
