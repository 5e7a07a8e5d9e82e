-- A call is refused by 5 exactly where it lacks room. Assumes nothing.
use Rattle.std.specs.Prelude.{[], ◌∷◌, ◌++◌, ◌+◌}
use Rattle.octets.specs.Logic.{choose}
use Rattle.model.specs.Client.{Client, set_numbers, set_outstanding}
use Rattle.model.specs.Model.{has_reply, joining}
use Rattle.model.specs.declared.ReplyFdKind.{ReplyFdKind}

-- the state after a request was sent
abbrev pub sent_on : Client → ReplyFdKind → Client
sent_on c kind =
    set_outstanding (set_numbers c (record { written = c.numbers.written + 1; expected = choose (has_reply kind) (c.numbers.written + 1) c.numbers.expected; read = c.numbers.read }))
    (c.outstanding ++ (joining kind ∷ []))
