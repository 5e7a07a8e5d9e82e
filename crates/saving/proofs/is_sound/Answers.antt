use Rattle.saving.specs.Measuring.{bad_connection, bad_reader, last_ids}
use Rattle.std.proofs.Common.{ap, not}
use Rattle.saving.proofs.is_sound.Goals as goal

pub returns-then-not-is_sound : goal.returns-then-not-is_sound
returns-then-not-is_sound c = bad_connection _ _ c.is_sound.ensures (ap not c.if-not-is_sound.true)

pub returns-then-not-is_sound-2 : goal.returns-then-not-is_sound-2
returns-then-not-is_sound-2 c = bad_reader _ _ c.is_sound.ensures (ap not c.if-not-is_sound.false) _ c.is_sound-2.ensures (ap not c.if-not-is_sound-2.true)

pub returns : goal.returns
returns c = last_ids _ _ c.is_sound.ensures (ap not c.if-not-is_sound.false) _ c.is_sound-2.ensures (ap not c.if-not-is_sound-2.false) _ c.is_sound-3.ensures
