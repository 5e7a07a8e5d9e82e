-- A saved client in rooms of the lengths saved is sound and is read as what was saved; and what is saved of a sound client without descriptors is sound. Assumes nothing.
use Rattle.std.specs.Prelude.{◌≡◌, length}
use Rattle.requests.specs.Room.{capacity}
use Rattle.descriptors.specs.Room.{most_descriptors}
use Rattle.model.specs.Client.{Client}
use Rattle.model.specs.Reading.{Rooms}

-- ---- the connection

pub record Fitting (m : Client) (r : Rooms) : Type 0 where
  pub requests : capacity r.requests ≡ m.most_requests
  pub store : length r.store ≡ m.most_bytes
  pub slots : length r.slots ≡ most_descriptors
