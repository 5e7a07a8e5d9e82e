use Rattle.std.proofs.Common.{◌≡◌, sym, ap, ◌∙◌, ℕ, ◌+◌, ◌≤◌, ◌<◌, List, arith, zero-add, length, set, get_or}
use Rattle.octets.specs.Put.{put, cut, cut_all}
use Rattle.octets.specs.Moves.{copy_none, copy_turn, copy_done}
use Rattle.octets.proofs.moves.copy_bytes.Goals as goal

turn : (d₀ d s : List ℕ) (at i : ℕ) → i < length s → at + i < length d₀ → d ≡ put d₀ at (cut 0 i s) → set d (at + i) (get_or s i 0) ≡ put d₀ at (cut 0 (i + 1) s)
turn d₀ d s at i h f e = copy_turn d₀ d s at 0 i (omega arith) f (ap (λ (k : ℕ). get_or s k 0) (sym (zero-add i))) e

done : (d₀ d s : List ℕ) (at i : ℕ) → i ≤ length s → length s ≤ i → d ≡ put d₀ at (cut 0 i s) → d ≡ put d₀ at s
done d₀ d s at i h f e =
    copy_done d₀ d s at 0 (length s) i h f e ∙ ap (put d₀ at) (cut_all s)

pub loop-i-init : goal.loop-i-init
loop-i-init c = copy_none _ _ _ _

pub loop-i-preserved : goal.loop-i-preserved
loop-i-preserved c = turn _ _ _ _ _ (omega arith) (omega arith) c.loop-i.invariant

pub returns : goal.returns
returns c = done _ _ _ _ _ (omega arith) (omega arith) c.loop-i.invariant
