use Rattle.setup_request.specs.Request.{says_written, room_there, writes_given, writes_refused}
use Rattle.std.proofs.Common.{sym, ap, ◌∙◌}
use Rattle.std.proofs.lemmas.Result.{err_from_is_err_and}
use Rattle.setup_request.proofs.setup_request.Goals as goal

pub put_request-requires : goal.put_request-requires
put_request-requires c = room_there _ _ _ _ _ (sym (ap says_written c.in_ok-n.was) ∙ c.room_for.ensures)

pub returns : goal.returns
returns c = writes_given _ _ _ _ _ _ (sym (ap says_written c.in_ok-n.was) ∙ c.room_for.ensures) c.put_request.ensures

pub returns-in_err-n : goal.returns-in_err-n
returns-in_err-n c =
    let p = err_from_is_err_and c.from_residual.result c.from_residual.ensures.1 in
    rw (p.1, p.2) (writes_refused _ _ _ _ _ (sym (ap says_written c.in_err-n.was) ∙ c.room_for.ensures))
