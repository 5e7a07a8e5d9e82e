-- In which order `discard_reply` closes, computed: by the slots, and by the model. Assumes nothing.
use Rattle.std.specs.Prelude.{◌≡◌, refl, List, [], ◌∷◌, ℕ}
use Rattle.octets.specs.Logic.{choose}
use Rattle.octets.specs.Put.{put, cut}
use Rattle.held.specs.Head as Head
use Rattle.held.specs.Reading.{fds_in}
use Rattle.held.specs.Tally.{own, lower, higher}
use Rattle.descriptors.specs.Room as Slots
use Rattle.model.specs.Client.{descriptors_of, set_replies}
use Rattle.model.specs.Model.{fresh, of_number, not_of, above, errors_of, closing_order, discarding}
use Rattle.model.specs.Reading.{with_descriptors}
use Rattle.model.specs.declared.DiscardMode.{DiscardMode}
use Rattle.model.specs.declared.DiscardMode.TheVariants.{DiscardReply, DiscardReplyAndError}
use Rattle.discarding.specs.Exact.{turn_at, fds_below, fds_before, fds_from, closed_round, discard_slots}

-- a held reply of a number, with so many descriptors
abbrev reply : ℕ → ℕ → Head.Record
reply number fds = Head.held number fds Head.reply (1 ∷ [])

-- One reply of request 4 with descriptor 40; three of request 5, with 50, with 51 and 52, and with 53; and four of higher requests, of which one has descriptor 60.
abbrev replies : List Head.Record
replies = reply 4 1 ∷ reply 5 1 ∷ reply 5 2 ∷ reply 5 1 ∷ reply 6 1 ∷ reply 6 0 ∷ reply 7 0 ∷ reply 8 0 ∷ []

-- Descriptor 9 is to be closed already, and 80 waits.
abbrev slots : Slots.Room
slots = Slots.room (9 ∷ 40 ∷ 50 ∷ 51 ∷ 52 ∷ 53 ∷ 60 ∷ 80 ∷ 0 ∷ []) (Slots.counted 1 6 1)

-- the close list, what is held and what waits, once the answers of request 5 are discarded
abbrev after : DiscardMode → List ℕ × List ℕ × List ℕ
after m = let d = discard_slots m 5 replies slots in (Slots.closing d, Slots.holding d, Slots.waiting d)

-- Four replies are behind the three, and 4 mod 3 is 1: the first turn is that of the second of the three. One descriptor is of lower numbers, one is before the turn, three are from it on.
pub parts : (turn_at DiscardReplyAndError 5 replies ≡ 1) × (fds_below 5 replies ≡ 1) × (fds_before DiscardReplyAndError 5 replies ≡ 1) × (fds_from DiscardReplyAndError 5 replies ≡ 3)
unfolding own lower higher fds_in choose
parts = (refl, refl, refl, refl)

-- So 51, 52 and 53 are closed, then 50; under DiscardReply they are closed as they stand.
pub closes : (after DiscardReplyAndError ≡ (9 ∷ 51 ∷ 52 ∷ 53 ∷ 50 ∷ [], 40 ∷ 60 ∷ [], 80 ∷ [])) × (after DiscardReply ≡ (9 ∷ 50 ∷ 51 ∷ 52 ∷ 53 ∷ [], 40 ∷ 60 ∷ [], 80 ∷ []))
unfolding own lower higher fds_in choose closed_round Slots.close_held Slots.close_run Slots.closing Slots.holding Slots.waiting put cut
closes = (refl, refl)

-- The model closes the same, by its lists: the replies have these descriptors, and nothing else was to be closed.
abbrev closed : DiscardMode → List ℕ
closed m = (discarding m 5 (set_replies (fresh 108 4 500) (with_descriptors replies (40 ∷ 50 ∷ 51 ∷ 52 ∷ 53 ∷ 60 ∷ [])))).closing

pub modelled : (closed DiscardReplyAndError ≡ 51 ∷ 52 ∷ 53 ∷ 50 ∷ []) × (closed DiscardReply ≡ 50 ∷ 51 ∷ 52 ∷ 53 ∷ [])
unfolding with_descriptors of_number not_of above errors_of closing_order descriptors_of choose
modelled = (refl, refl)
