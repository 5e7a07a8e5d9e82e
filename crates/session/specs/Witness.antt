-- There are sessions with an honest server. What the model says of a call some public call does, so that a run that is worked out in the model is one of public calls. Assumes nothing.
use Rattle.std.specs.Prelude.{List, ◌≡◌}
use Rattle.refusal.specs.Answer.{Answer, gives, refuses}
use Rattle.model.specs.Client.{Client}
use Rattle.model.specs.Reading.{Rooms, reads}
use Rattle.model.specs.declared.Connection.{Connection}
use Rattle.honest.specs.Run.{Entry}
use Rattle.honest.specs.Server.{Packet}
use Rattle.session.specs.Ask.{Ask, form, Value}
use Rattle.session.specs.Serving.{Serves}

-- what a call answers and leaves, by the model
unfoldable pub shown : {A B : Type 0} → (A → B) → Answer (A × Client) → Answer (B × Client)
shown f (gives y) = gives (f y.0, y.1)
shown f (refuses n) = refuses n

abbrev pub told : (x : Ask) → Client → Answer (Value x × Client)
told x m = shown (form x).shows ((form x).modelled m)

unfoldable pub next : {B : Type 0} → Answer (B × Client) → Client → Client
next (gives y) m = y.1
next (refuses n) m = m

-- some state and rooms that are read as m, where public calls with a server came to
pub record Reached (all rest : List Packet) (m : Client) (l : List Entry) : Type 1 where
  pub state : Connection
  pub left : Rooms
  pub run : Serves all rest state left l
  pub read : reads state left ≡ m
