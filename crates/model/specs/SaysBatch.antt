-- What the answers of calls that make many steps say. Assumes nothing.
use Rattle.std.specs.Prelude.{◌≡◌, refl, Result}
use Rattle.std.proofs.Common.{ap}
use Rattle.refusal.specs.Answer.{Answer, says, says_one}
use Rattle.refusal.specs.Numbers.{number_of, refusal_of, listed}
use Rattle.model.specs.Batch as Batch
use Rattle.model.specs.SendRequests.{ShownSendings}
use Rattle.model.specs.PollForEvents.{ShownHandings}
use Rattle.model.specs.declared.Connection.{Connection}
use Rattle.model.specs.declared.Stop.{Stop}
use Rattle.model.specs.declared.SentMany.{SentMany}
use Rattle.model.specs.declared.Events.{Events}
use Rattle.refusal.specs.declared.Refusal.{Refusal}

-- ---- what stopped it: a refusal by its number

abbrev pub says_stop : Stop → Batch.Stop
says_stop Stop.End = Batch.ended
says_stop (Stop.Refused r) = Batch.refused (number_of r)
says_stop Stop.NoKind = Batch.meaningless

back_stop : Batch.Stop → Stop
back_stop Batch.ended = Stop.End
back_stop (Batch.refused n) = Stop.Refused (refusal_of n)
back_stop Batch.meaningless = Stop.NoKind

back_stop_lem : (s : Stop) → back_stop (says_stop s) ≡ s
unfolding back_stop
back_stop_lem Stop.End = refl
back_stop_lem (Stop.Refused r) = ap Stop.Refused (listed r)
back_stop_lem Stop.NoKind = refl

-- ---- `send_requests`

abbrev pub says_sent_many : Result SentMany Refusal → Answer (ShownSendings × Connection)
says_sent_many = says (λ x. (record { count = x.count; last = x.last.0; stopped = says_stop x.stop }, x.connection))

pub sent_many_one : (a b : Result SentMany Refusal) → says_sent_many a ≡ says_sent_many b → a ≡ b
sent_many_one = says_one _ (λ x. record { count = x.0.count; last = record { 0 = x.0.last }; stop = back_stop x.0.stopped; connection = x.1 })
    (λ m. ap (λ (s : Stop). record { count = m.count; last = m.last; stop = s; connection = m.connection }) (back_stop_lem m.stop))

-- ---- `poll_for_events`

abbrev pub says_events : Result Events Refusal → Answer (ShownHandings × Connection)
says_events = says (λ x. (record { count = x.count; bytes = x.bytes; stopped = says_stop x.stop }, x.connection))

pub events_one : (a b : Result Events Refusal) → says_events a ≡ says_events b → a ≡ b
events_one = says_one _ (λ x. record { count = x.0.count; bytes = x.0.bytes; stop = back_stop x.0.stopped; connection = x.1 })
    (λ e. ap (λ (s : Stop). record { count = e.count; bytes = e.bytes; stop = s; connection = e.connection }) (back_stop_lem e.stop))
