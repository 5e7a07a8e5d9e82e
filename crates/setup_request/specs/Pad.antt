-- Bytes padded to a multiple of four. Assumes nothing.
use Rattle.std.specs.Prelude.{◌≡◌, refl, List, [], ◌∷◌, ◌++◌, ℕ, ◌+◌, ◌-◌, ◌%◌, ◌≤◌, length, replicate}
use Rattle.std.proofs.Common.{sym, ap, ◌∙◌, arith, length-append}
use Rattle.std.proofs.lemmas.List.{length-replicate, replicate-append-replicate}
use Rattle.octets.specs.Put.{put, put_put}

-- Core, Syntactic Conventions: pad(E) = (4 - (E mod 4)) mod 4
unfoldable pub pad : ℕ → ℕ
pad n = (4 - n % 4) % 4

-- n bytes 0
unfoldable pub zeros : ℕ → List ℕ
zeros n = replicate n 0

-- bytes, and behind them as many zeros as round their number up to a multiple of four
unfoldable pub padded : List ℕ → List ℕ
padded t = t ++ zeros (pad (length t))

-- ---- laws

pub length_zeros : (n : ℕ) → length (zeros n) ≡ n
unfolding zeros
length_zeros n = length-replicate n 0

pub zeros_behind : (n : ℕ) → zeros (n + 1) ≡ zeros n ++ (0 ∷ [])
unfolding zeros
zeros_behind n = sym (replicate-append-replicate n 1 0)

pub length_padded : (t : List ℕ) → length (padded t) ≡ length t + pad (length t)
unfolding padded
length_padded t = length-append t (zeros (pad (length t))) ∙ ap (λ (n : ℕ). length t + n) (length_zeros (pad (length t)))

-- it is a multiple of four, and no more is put behind than must be
pub pad_four : (n : ℕ) → (n + pad n) % 4 ≡ 0
unfolding pad
pad_four n = omega arith

pub pad_least : (n : ℕ) → pad n ≤ 3
unfolding pad
pad_least n = omega arith

-- padded bytes are written as the bytes, and then the zeros
pub put_padded : (s s₁ s₂ : List ℕ) (at n : ℕ) (t : List ℕ) → at + (length t + pad (length t)) ≤ length s → n ≡ pad (length t) → s₁ ≡ put s at t → s₂ ≡ put s₁ (at + length t) (zeros n)
    → s₂ ≡ put s at (padded t)
unfolding padded
put_padded s s₁ s₂ at n t h e p q =
    let z : length (zeros (pad (length t))) ≡ pad (length t) = length_zeros (pad (length t)) in
    q ∙ (λ k. put (p k) (at + length t) (zeros (e k))) ∙ put_put s at (length t) t (zeros (pad (length t))) refl (omega arith)
