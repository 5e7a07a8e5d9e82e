use Rattle.octets.specs.Put.{put, cut}
use Rattle.std.proofs.Common.{take, drop, arith, ℕ, ◌+◌, ◌-◌, List, ◌≡◌, ap, ◌∙◌}
use Rattle.octets.proofs.moves.copy_out.Goals as goal

part : (d s x : List ℕ) (from n : ℕ) → x ≡ put d 0 (take (from + n - from) (drop from s)) → x ≡ put d 0 (cut from n s)
unfolding cut
part d s x from n e =
    let q : from + n - from ≡ n = omega arith in
    e ∙ ap (λ (m : ℕ). put d 0 (take m (drop from s))) q

pub returns : goal.returns
returns c = part _ _ _ _ _ c.copy_in.ensures
