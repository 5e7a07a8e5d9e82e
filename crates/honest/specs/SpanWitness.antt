-- There are states at the edge, for each last read up to the bound, fresh and past any wrap: a run of the engine, rooms and all, comes there. So 65,534 is the greatest span. Assumes nothing.
use Rattle.std.specs.Prelude.{false, List, ◌∷◌, ◌≡◌, ℕ, zero, suc, ◌+◌}
use Rattle.refusal.specs.Answer.{refuses}
use Rattle.requests.specs.declared.Request.{Request}
use Rattle.model.specs.Client.{Client}
use Rattle.model.specs.Model.{send_request}
use Rattle.model.specs.declared.ReplyFdKind.TheVariants.{NoReply}
use Rattle.honest.specs.Run.{Entry, sent, Runs, Honest}
use Rattle.honest.specs.Witness.{client_at, rounds}

-- j requests without a reply more
unfoldable pub without : ℕ → List Entry → List Entry
without zero l = l
without (suc j) l = sent false ∷ without j l

-- ---- A run: n requests with a reply, each answered, and then 65,534 without one

-- the state on the way, in the largest request room
abbrev pub standing : ℕ → ℕ → List Request → Client
standing written n outstanding = client_at 65536 (record { written = written; expected = n; read = n }) outstanding

-- 65,534 requests after the last reply expected went through, and now 6 is given.
pub record Stands (n : ℕ) : Type 0 where
  pub outstanding : List Request
  pub run : Runs (standing (n + 65534) n outstanding) (without 65534 (rounds n))
  pub honest : Honest 108 (without 65534 (rounds n))
  pub refused : send_request (standing (n + 65534) n outstanding) NoReply ≡ refuses 6
