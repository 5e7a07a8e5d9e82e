use Rattle.refusal.specs.Answer.{refused}
use Rattle.std.proofs.Common.{ap, arith}
use Rattle.refusal.specs.Answer.{gives}
use Rattle.requests.specs.Theorems.{sized_is}
use Rattle.held.specs.Tally.{tallied}
use Rattle.held.specs.declared.Tally.{Tally}
use Rattle.discarding.specs.Theorems.{discard_model}
use Rattle.model.specs.Promise.{answer_of, rooms_of, promise_unsound, promise_sound}
use Rattle.model.specs.Sound.{sound_is, ready}
use Rattle.connection.proofs.discard_reply.Goals as goal

pub returns-in_err-check : goal.returns-in_err-check
returns-in_err-check c = rw (refused c.from_residual.ensures.1 c.in_err-check.ensures.0) (promise_unsound _ _ _ _ _ (λ S. discard_model _ _ S _ _) c.in_err-check.ensures.1)

pub count-found-requires : goal.count-found-requires
count-found-requires c = (ready _ _ (sound_is _ _ c.in_ok-check.ensures)).held.readable

pub discard_reply-next-requires : goal.discard_reply-next-requires
unfolding tallied
discard_reply-next-requires c = let S = sound_is _ _ c.in_ok-check.ensures in
    let z = (sized_is _ _).0 S.requests in
    (ready _ _ S, omega (arith, z.least, z.holds), record { count_own = ap (λ (t : Tally). t.own) c.count-found.ensures; count_above = ap (λ (t : Tally). t.above) c.count-found.ensures })

pub returns : goal.returns
unfolding answer_of rooms_of
returns c = let e = c.discard_reply-next.ensures in
    promise_sound _ _ _ _ _ (λ S. discard_model _ _ S _ _) _ _ c.in_ok-check.ensures (record { answers = ap (λ x. gives (tt, x)) e.state; leaves = e.leaves })
