-- What a call leaves in a room that it was lent for its output. Assumes nothing.
use Rattle.std.specs.Prelude.{List, ℕ}
use Rattle.refusal.specs.Answer.{Answer, gives, refuses}
use Rattle.octets.specs.Put.{put}

-- What was given stands at the start of the room and the rest is as before; a refusal leaves all as it was.
abbrev pub leaves : {A : Type 0} → Answer A → List ℕ → List ℕ → List ℕ
leaves (gives x) v before = put before 0 v
leaves (refuses n) v before = before
