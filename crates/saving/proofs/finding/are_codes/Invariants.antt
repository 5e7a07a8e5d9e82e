use Rattle.std.proofs.Common.{◌≡◌, take}
use Rattle.std.specs.List.{list_all}
use Rattle.saving.specs.Codes.{is_code}
use Rattle.saving.proofs.finding.are_codes.Given as goal

abbrev pub invariant-loop-code : goal.invariant-loop-code
invariant-loop-code l = l.good ≡ list_all is_code (take l.code-index l.bytes)
