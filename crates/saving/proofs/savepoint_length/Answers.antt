use Rattle.saving.specs.Measuring.{sizable, few, tested, length_unsound, length_held, length_told}
use Rattle.std.proofs.Common.{ap, not}
use Rattle.saving.proofs.savepoint_length.Goals as goal

pub returns-then-not-is_sound : goal.returns-then-not-is_sound
returns-then-not-is_sound c = length_unsound _ _ c.is_sound.ensures (ap not c.if-not-is_sound.true)

pub holds-requires : goal.holds-requires
holds-requires c = few _ (tested _ _ c.is_sound.ensures (ap not c.if-not-is_sound.false))

pub returns-then-holds : goal.returns-then-holds
returns-then-holds c = length_held _ _ c.is_sound.ensures (ap not c.if-not-is_sound.false) _ c.holds.ensures c.if-holds.true

pub size-requires : goal.size-requires
size-requires c = sizable _ (tested _ _ c.is_sound.ensures (ap not c.if-not-is_sound.false))

pub returns : goal.returns
returns c = length_told _ _ c.is_sound.ensures (ap not c.if-not-is_sound.false) _ c.holds.ensures c.if-holds.false _ c.size.ensures
