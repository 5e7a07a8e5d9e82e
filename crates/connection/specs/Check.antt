-- What the test that every call begins with answers: nothing where the state is sound with its rooms, and refusal 9 where it is not. Assumes nothing.
use Rattle.std.specs.Prelude.{◌≡◌, true, false, Result, Ok, Err}
use Rattle.refusal.specs.declared.Refusal.{Refusal}
use Rattle.model.specs.Reading.{Rooms}
use Rattle.model.specs.Sound.{soundb}
use Rattle.model.specs.declared.Connection.{Connection}

abbrev pub Checked : Connection → Rooms → Result Unit Refusal → Type 0
Checked c r (Ok u) = soundb c r ≡ true
Checked c r (Err e) = (e ≡ Refusal.BadRoom) × (soundb c r ≡ false)
