-- `send_requests` in the model: a row of `send_request`, one for each byte. Assumes nothing.
use Rattle.std.specs.Prelude.{List, ℕ, zero, suc, ltb, length}
use Rattle.octets.specs.Logic.{choose}
use Rattle.refusal.specs.Answer.{Answer, gives}
use Rattle.model.specs.Client.{Client}
use Rattle.model.specs.Model.{send_request}
use Rattle.model.specs.Batch.{Turn, stops, many, Stop, ended, meaningless, model_turn, model_many}
use Rattle.model.specs.declared.ReplyFdKind.{ReplyFdKind}

-- the bytes 0, 1 and 2 mean the three kinds, and others none
abbrev pub kinds : ℕ
kinds = 3

abbrev pub kind_of : ℕ → ReplyFdKind
kind_of zero = ReplyFdKind.NoReply
kind_of (suc zero) = ReplyFdKind.ReplyWithoutFds
kind_of (suc (suc n)) = ReplyFdKind.ReplyWithFds

unfoldable pub send_turn : Client → ℕ → Turn ℕ Stop Client
send_turn c byte = choose (ltb byte kinds) (model_turn (send_request c (kind_of byte))) (stops meaningless)

-- what was sent: the numbers, in order; the last written after it; and what stopped it
pub record Sendings : Type 0 where
  pub numbers : List ℕ
  pub last : ℕ
  pub stopped : Stop

abbrev pub sendings : List ℕ → Stop → Client → Sendings
sendings numbers stopped c = record { numbers = numbers; last = c.numbers.written; stopped = stopped }

unfoldable pub send_requests : Client → List ℕ → Answer (Sendings × Client)
send_requests c bytes = gives (model_many sendings (many send_turn ended c bytes))

-- what is shown of it: of the numbers how many
pub record ShownSendings : Type 0 where
  pub count : ℕ
  pub last : ℕ
  pub stopped : Stop

abbrev pub shown_sendings : Sendings → ShownSendings
shown_sendings x = record { count = length x.numbers; last = x.last; stopped = x.stopped }
