-- Answers and what is left are the model's of the state as it is read: so states that are alike answer alike, over rows of calls too. Assumes nothing.
use Rattle.std.specs.Prelude.{◌≡◌}
use Rattle.refusal.specs.Answer.{Answer}
use Rattle.model.specs.Reading.{Rooms, reads}
use Rattle.model.specs.declared.Connection.{Connection}
use Rattle.session.specs.Ask.{Form}
use Rattle.ledger.specs.State.{as_read, shown_by, written_by}

-- ---- the model's of the state as it is read

-- What a call of this form tells and leaves, and what stands in its outputs, from the model alone.
pub record Alone (f : Form) (c : Connection) (r : Rooms) (a : Answer (f.Value × Connection)) (r' : Rooms) (o : f.Outputs) : Type 0 where
  pub seen : as_read c a r' ≡ shown_by f.shows (reads c r) (f.modelled (reads c r))
  pub outputs : o ≡ written_by f.lent f.written (f.modelled (reads c r))
