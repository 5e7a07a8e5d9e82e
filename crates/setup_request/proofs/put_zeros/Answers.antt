use Rattle.std.proofs.Common.{◌≡◌, ap, ◌∙◌, ℕ, ◌+◌, ◌-◌, ◌≤◌, List, arith, length, length-drop, length-take-le, take, drop, replicate}
use Rattle.octets.specs.Put.{put}
use Rattle.octets.proofs.Parts.{part_put}
use Rattle.setup_request.specs.Pad.{zeros, length_zeros}
use Rattle.setup_request.proofs.put_zeros.Goals as goal

-- the part holds as many zeros as it has bytes
filled : (s v : List ℕ) (at n : ℕ) → at + n ≤ length s → v ≡ replicate (length (take (at + n - at) (drop at s))) 0 → v ≡ zeros n
unfolding zeros
filled s v at n h e =
    let m : at + n - at ≤ length (drop at s) = omega (arith, length-drop at s) in
    let l : length (take (at + n - at) (drop at s)) ≡ n = omega (arith, length-take-le (at + n - at) (drop at s) m) in
    e ∙ ap (λ (k : ℕ). replicate k 0) l

pub returns : goal.returns
returns c =
    let f : c.fill.new.self ≡ zeros c.args.n = filled c.args.out.now _ c.args.at _ c.requires (c.fill.ensures.after (λ y e. e)) in
    let l : length c.fill.new.self ≡ c.args.n = ap length f ∙ length_zeros c.args.n in
    part_put c.args.out.now c.fill.new.self _ _ (omega (arith, l)) ∙ ap (put c.args.out.now c.args.at) f
