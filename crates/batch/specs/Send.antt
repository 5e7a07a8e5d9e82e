-- Many requests sent, exactly: a row of single sends. Assumes nothing.
use Rattle.std.specs.Prelude.{List, ℕ, ltb, Result, Ok}
use Rattle.octets.specs.Logic.{choose}
use Rattle.refusal.specs.Answer.{Answer, gives}
use Rattle.model.specs.Reading.{Rooms, rooms}
use Rattle.model.specs.Sound.{Sound}
use Rattle.model.specs.Promise.{Done, Exact}
use Rattle.model.specs.Batch.{Turn, stops, many, Stop, ended, meaningless, Site, site, exact_turn, exact_many}
use Rattle.model.specs.SendRequests.{kinds, kind_of, Sendings, sendings, shown_sendings}
use Rattle.model.specs.SaysBatch.{says_sent_many}
use Rattle.model.specs.declared.Connection.{Connection}
use Rattle.model.specs.declared.SentMany.{SentMany}
use Rattle.model.specs.declared.Stop as Declared
use Rattle.sending.specs.Send.{send_exact}
use Rattle.refusal.specs.declared.Refusal.{Refusal}

-- one byte: a send of its kind, or none
unfoldable pub send_step : Site → ℕ → Turn ℕ Stop Site
send_step s byte = choose (ltb byte kinds) (exact_turn (send_exact s.state s.left (kind_of byte))) (stops meaningless)

unfoldable pub sends_exact : Connection → Rooms → List ℕ → Answer (Done Sendings)
sends_exact c r bytes = gives (exact_many sendings (many send_step ended (site c r) bytes))

-- the answer for so many sends: the last number is that of the state handed back
abbrev pub answered : ℕ → Declared.Stop → Connection → Result SentMany Refusal
answered n stop c = Ok (record { count = n; last = (record { 0 = c.written }); stop = stop; connection = c })

-- the state is sound with the request room and two others, which are not lent
pub record SoundWithSome (c : Connection) (q : List ℕ) : Type 0 where
  pub store : List ℕ
  pub slots : List ℕ
  pub sound : Sound c (rooms q store slots)

-- The step is exact, whatever the rooms that it is not lent.
pub record SendsStep (c : Connection) (bytes q : List ℕ) (a : Result SentMany Refusal) (q' : List ℕ) : Type 0 where
  pub exact : (s f : List ℕ) → Exact shown_sendings (sends_exact c (rooms q s f) bytes) (rooms q s f) (says_sent_many a) (rooms q' s f)
