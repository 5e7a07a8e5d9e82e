use Rattle.refusal.specs.Answer.{refused}
use Rattle.batch.specs.Theorems.{events_model}
use Rattle.connection.specs.Laws.{events_unsound, events_sound}
use Rattle.model.specs.Sound.{sound_is}
use Rattle.connection.proofs.poll_for_events.Goals as goal

pub returns-in_err-check : goal.returns-in_err-check
returns-in_err-check c = rw (refused c.from_residual.ensures.1 c.in_err-check.ensures.0) (events_unsound _ _ _ _ (λ S. events_model _ _ S _ _) c.in_err-check.ensures.1)

pub poll_for_events-requires : goal.poll_for_events-requires
poll_for_events-requires c = record { requests = _; slots = _; sound = sound_is _ _ c.in_ok-check.ensures }

pub returns : goal.returns
returns c = events_sound _ _ _ _ (λ S. events_model _ _ S _ _) _ _ _ _ c.in_ok-check.ensures (c.poll_for_events.ensures.exact _ _) (c.poll_for_events.ensures.output _ _) (c.poll_for_events.ensures.marked _ _)
