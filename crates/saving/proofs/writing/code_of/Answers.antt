use Rattle.saving.specs.Writing.{code_is}
use Rattle.saving.proofs.writing.code_of.Goals as goal

pub returns : goal.returns
returns c = code_is _ _ _ c.mode_code.ensures c.from.ensures
