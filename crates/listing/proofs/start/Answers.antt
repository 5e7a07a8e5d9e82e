use Rattle.listing.specs.Text.{first_line}
use Rattle.listing.specs.Laws.{opening_lists, opening_waits}
use Rattle.listing.proofs.start.Goals as goal

pub returns-then-out-lt-MOST_LINE : goal.returns-then-out-lt-MOST_LINE
returns-then-out-lt-MOST_LINE c = opening_waits _ c.if-out-lt-MOST_LINE.true

pub returns : goal.returns
unfolding first_line
returns c = opening_lists _ _ c.if-out-lt-MOST_LINE.false c.copy_in.ensures
