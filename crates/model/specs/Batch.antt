-- MANY STEPS BEHIND ONE CALL: a row of single calls, one after the other, up to the first that cannot be made. Such a call says how far it came and what stopped it; `poll_for_events` alone is refused by that, where it came nowhere. Assumes nothing.
use Rattle.std.specs.Prelude.{List, [], ◌∷◌, ◌++◌, ℕ}
use Rattle.refusal.specs.Answer.{Answer, gives, refuses}
use Rattle.model.specs.Client.{Client}
use Rattle.model.specs.Reading.{Rooms, reads}
use Rattle.model.specs.Promise.{Done}
use Rattle.model.specs.declared.Connection.{Connection}

-- ---- a row, over any kind of state S

-- one turn: it gives something and leaves a state, or the row stops here, for the reason W
pub data Turn (A W S : Type 0) : Type 0 where
  goes : A → S → Turn A W S
  stops : W → Turn A W S

-- what a row comes to: what its turns gave, in order, what stopped it, and the state left
pub record Many (A W S : Type 0) : Type 0 where
  pub values : List A
  pub stopped : W
  pub end : S

-- values that were given before the others
abbrev pub onward : {A W S : Type 0} → List A → Many A W S → Many A W S
onward vs x = record { values = vs ++ x.values; stopped = x.stopped; end = x.end }

unfoldable pub on_turn : {A W S B : Type 0} → (A → S → B) → (W → B) → Turn A W S → B
on_turn go stop (goes a s) = go a s
on_turn go stop (stops w) = stop w

-- THE ROW: one turn for each input, each with the state that the turn before left; over is what stops it at the end of the inputs.
unfoldable pub many : {A W S X : Type 0} → (S → X → Turn A W S) → W → S → List X → Many A W S
many turn over s [] = record { values = []; stopped = over; end = s }
many turn over s (x ∷ xs) = on_turn (λ a s'. onward (a ∷ []) (many turn over s' xs)) (λ w. record { values = []; stopped = w; end = s }) (turn s x)

-- ---- turns that are single calls

-- what stops a row: the end of what it was given, the refusal of the next call, or an input that means no call
pub data Stop : Type 0 where
  ended : Stop
  refused : ℕ → Stop
  meaningless : Stop

-- a call of the model, as a turn
unfoldable pub model_turn : {A : Type 0} → Answer (A × Client) → Turn A Stop Client
model_turn (gives x) = goes x.0 x.1
model_turn (refuses n) = stops (refused n)

-- state and rooms, as a call leaves them for the next
pub record Site : Type 0 where
  pub state : Connection
  pub left : Rooms

abbrev pub site : Connection → Rooms → Site
site c r = record { state = c; left = r }

abbrev pub read_site : Site → Client
read_site s = reads s.state s.left

-- an exact outcome, as a turn
unfoldable pub exact_turn : {A : Type 0} → Answer (Done A) → Turn A Stop Site
exact_turn (gives d) = goes d.value (site d.state d.left)
exact_turn (refuses n) = stops (refused n)

-- ---- a row as what a call gives

-- what is made of the values, of what stopped the row and of the state left
abbrev pub model_many : {A W B : Type 0} → (List A → W → Client → B) → Many A W Client → B × Client
model_many f x = (f x.values x.stopped x.end, x.end)

abbrev pub exact_many : {A W B : Type 0} → (List A → W → Client → B) → Many A W Site → Done B
exact_many f x = record { value = f x.values x.stopped (read_site x.end); state = x.end.state; left = x.end.left }

-- ---- a row as it is read

unfoldable pub read_turn : {A W S T : Type 0} → (S → T) → Turn A W S → Turn A W T
read_turn f (goes a s) = goes a (f s)
read_turn f (stops w) = stops w

abbrev pub read_many : {A W S T : Type 0} → (S → T) → Many A W S → Many A W T
read_many f x = record { values = x.values; stopped = x.stopped; end = f x.end }

-- P is true of each of a list
abbrev pub Each : {X : Type 0} → (X → Type 0) → List X → Type 0
Each P [] = Unit {0}
Each P (x ∷ xs) = P x × Each P xs

-- what a row adds to a log, where a turn of input x that gave a adds note x a
unfoldable pub notes : {X A L : Type 0} → (X → A → L → L) → List X → List A → L → L
notes note [] vs l = l
notes note (x ∷ xs) [] l = l
notes note (x ∷ xs) (a ∷ vs) l = notes note xs vs (note x a l)
