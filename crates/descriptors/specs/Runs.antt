-- Runs of elements that are copied, exchanged or taken out: laws of `put` and `cut` over any list. Assumes nothing.
use Rattle.std.specs.Prelude.{◌≡◌, ℕ, ◌+◌, ◌-◌, ◌≤◌, List, [], ◌++◌, length}
use Rattle.std.proofs.Common.{sym, ap, ◌∙◌, arith, append-nil}
use Rattle.octets.specs.Put.{put, cut, put_same, put_put, length_cut, cut_none, cut_put}

-- ---- two neighbours exchanged

-- where one of the two is empty nothing changes
pub exchange_left : (s : List ℕ) (at mid end : ℕ) → at ≡ mid → mid ≤ end → end ≤ length s → s ≡ put s at (cut mid (end - mid) s ++ cut at (mid - at) s)
exchange_left s at mid end e h f =
    let z : mid - at ≡ 0 = omega arith in
    let w : cut mid (end - mid) s ++ cut at (mid - at) s ≡ cut at (end - mid) s =
    (λ j. cut (sym e j) (end - mid) s ++ cut at (z j) s) ∙ ap (λ (l : List ℕ). cut at (end - mid) s ++ l) (cut_none s at) ∙ append-nil (cut at (end - mid) s) in
    sym (ap (put s at) w ∙ put_same s at (end - mid) (omega arith))

pub exchange_right : (s : List ℕ) (at mid end : ℕ) → at ≤ mid → mid ≡ end → end ≤ length s → s ≡ put s at (cut mid (end - mid) s ++ cut at (mid - at) s)
exchange_right s at mid end h e f =
    let z : end - mid ≡ 0 = omega arith in
    let w : cut mid (end - mid) s ≡ [] = ap (λ (k : ℕ). cut mid k s) z ∙ cut_none s mid in
    sym (ap (λ (l : List ℕ). put s at (l ++ cut at (mid - at) s)) w ∙ put_same s at (mid - at) (omega arith))

-- the first kept aside, the second moved down over it, and the first put behind
pub exchange : (s s₁ s₂ t t₁ : List ℕ) (at mid end : ℕ) → at ≤ mid → mid ≤ end → end ≤ length s → mid - at ≤ length t → t₁ ≡ put t 0 (cut at (mid - at) s)
    → s₁ ≡ put s at (cut mid (end - mid) s) → s₂ ≡ put s₁ (at + (end - mid)) (cut 0 (mid - at) t₁) → s₂ ≡ put s at (cut mid (end - mid) s ++ cut at (mid - at) s)
exchange s s₁ s₂ t t₁ at mid end h k f g p q r =
    let lx : length (cut at (mid - at) s) ≡ mid - at = length_cut at (mid - at) s (omega arith) in
    let ly : length (cut mid (end - mid) s) ≡ end - mid = length_cut mid (end - mid) s (omega arith) in
    let x : cut 0 (mid - at) t₁ ≡ cut at (mid - at) s = ap (cut 0 (mid - at)) p ∙ cut_put t 0 (cut at (mid - at) s) (mid - at) lx (omega arith) in
    r ∙ (λ j. put (q j) (at + (end - mid)) (x j)) ∙ put_put s at (end - mid) (cut mid (end - mid) s) (cut at (mid - at) s) ly (omega arith)
