use Rattle.batch.specs.EventsLaws.{room_few, room_many}
use Rattle.batch.proofs.events.room_for.Goals as goal

pub returns-then-marks-lt-MARKS : goal.returns-then-marks-lt-MARKS
returns-then-marks-lt-MARKS c = room_few _ _ c.if-marks-lt-MARKS.true

pub returns : goal.returns
returns c = room_many _ _ c.if-marks-lt-MARKS.false
