-- WHAT IS CERTAIN OF SAVEPOINTS. Assumes nothing.
use Rattle.std.specs.Prelude.{◌≡◌, true}
use Rattle.packet_reader.specs.Sound as Reader
use Rattle.id_allocator.specs.Ids as Ids
use Rattle.model.specs.Sound as Connection
use Rattle.savepoint.specs.Calls.{Laid}

-- ---- a client as it lies in its rooms

-- the test and what it tells
pub record Sound (x : Laid) : Type 0 where
  pub connection : Connection.Sound x.connection x.rooms
  pub reader : Reader.Sound x.reader x.buffer
  pub ids : Ids.sound x.ids ≡ true
