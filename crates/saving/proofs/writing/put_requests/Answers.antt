use Rattle.saving.specs.Writing.{requests_put}
use Rattle.std.proofs.Common.{refl}
use Rattle.saving.proofs.writing.put_requests.Goals as goal

pub returns : goal.returns
returns c = (refl, requests_put _ _ _ _ _ _ _ c.put_u32.ensures c.put_codes.ensures c.requires.3)
