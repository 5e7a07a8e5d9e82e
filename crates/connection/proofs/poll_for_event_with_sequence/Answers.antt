use Rattle.refusal.specs.Answer.{refused}
use Rattle.polling.specs.Theorems.{event_model}
use Rattle.connection.specs.Laws.{hands_unsound, hands_sound}
use Rattle.model.specs.Sound.{sound_is, ready}
use Rattle.connection.proofs.poll_for_event_with_sequence.Goals as goal

pub returns-in_err-check : goal.returns-in_err-check
returns-in_err-check c = rw (refused c.from_residual.ensures.1 c.in_err-check.ensures.0) (hands_unsound _ _ _ _ _ _ _ (λ S. event_model _ _ S _) c.in_err-check.ensures.1)

pub poll_for_event-requires : goal.poll_for_event-requires
poll_for_event-requires c = (ready _ _ (sound_is _ _ c.in_ok-check.ensures)).held

pub returns : goal.returns
returns c = hands_sound _ _ _ _ _ _ _ (λ S. event_model _ _ S _) _ _ _ c.in_ok-check.ensures (c.poll_for_event.ensures.exact _ _) (c.poll_for_event.ensures.output _ _)
