-- A byte run that is fed to a reader in any pieces gives the packets that the run is cut into. Assumes nothing.
use Rattle.std.specs.Prelude.{◌≡◌, refl, Bool, true, false, List, [], ◌∷◌, ◌++◌, ℕ, ◌+◌, ◌-◌, ◌≤◌, ◌<◌, length, take, ltb}
use Rattle.std.proofs.Common.{sym, ap, ◌∙◌, subst, append_assoc, append-nil, arith, length-take-le}
use borrow.Author.Tests.{ltb-true, ltb-false, not-false}
use Rattle.octets.specs.Logic.{choose}
use Rattle.octets.specs.Put.{put, take_put}
use Rattle.refusal.specs.Answer.{gives, gives_past, gives_rest}
use Rattle.packet.specs.Packet.{PacketClass, packet_class}
use Rattle.packet_reader.specs.Frame.{aim, cuts}
use Rattle.packet_reader.specs.Reader.{Progress, waits, whole, fresh, reached, advanced}
use Rattle.packet_reader.specs.Sound.{Sound, sound_is}
use Rattle.packet_reader.specs.CutLaws.{aim_head, aim_held, aim_grows, cut_rest, cut_packet}
use Rattle.packet_reader.specs.declared.PacketReader.{PacketReader}

-- pieces in a row
abbrev pub joined : List (List ℕ) → List ℕ
joined [] = []
joined (x ∷ xs) = x ++ joined xs

-- pieces xs, each put where the reader's part stands and then counted, give the packets ps, with no refusal
pub data Feeds : PacketReader → List ℕ → List (List ℕ) → List (List ℕ) → PacketReader → List ℕ → Type 0 where
  done : {r : PacketReader} {s : List ℕ} → Feeds r s [] [] r s
  more : {r r₁ r₂ : PacketReader} {s s₂ x : List ℕ} {xs ps : List (List ℕ)} → advanced r (put s r.filled x) (length x) ≡ gives (waits r₁)
      → Feeds r₁ (put s r.filled x) xs ps r₂ s₂ → Feeds r s (x ∷ xs) ps r₂ s₂
  packet : {r r₁ r₂ : PacketReader} {s s₂ x : List ℕ} {xs ps : List (List ℕ)} {t : ℕ} {k : PacketClass} → advanced r (put s r.filled x) (length x) ≡ gives (whole t k r₁)
      → Feeds r₁ (put s r.filled x) xs ps r₂ s₂ → Feeds r s (x ∷ xs) (take t (put s r.filled x) ∷ ps) r₂ s₂

-- ---- what an answer tells

-- the reader after n more bytes of a packet that is not whole
abbrev pub grown : PacketReader → List ℕ → ℕ → PacketReader
grown r s n = record { order = r.order; filled = r.filled + n; target = aim r.order s (r.filled + n) }

-- what is known where bytes were counted
pub record Moved (r : PacketReader) (s : List ℕ) (n : ℕ) : Type 0 where
  pub was : Sound r s
  pub within : n ≤ r.target - r.filled
  pub fits : aim r.order s (r.filled + n) ≤ length s

of_waits : (b : Bool) (p q r : PacketReader) (t : ℕ) (j : PacketClass) → waits r ≡ choose b (waits p) (whole t j q) → (b ≡ true) × (p ≡ r)
unfolding choose
of_waits true p q r t j e = (refl, (cc))
of_waits false p q r t j e = absurd (let z : ◌≡◌ {A = ℕ} 0 1 = cc in omega arith)

of_whole : (b : Bool) (p q r : PacketReader) (t u : ℕ) (j k : PacketClass) → whole u k r ≡ choose b (waits p) (whole t j q) → (b ≡ false) × ((t ≡ u) × (q ≡ r) × (k ≡ j))
unfolding choose
of_whole true p q r t u j k e = absurd (let z : ◌≡◌ {A = ℕ} 0 1 = cc in omega arith)
of_whole false p q r t u j k e = (refl, ((cc), (cc), (cc)))

module _ (r : PacketReader) (s : List ℕ) (n : ℕ) where
  moved : {x : Progress} → gives x ≡ advanced r s n → Moved r s n
  unfolding advanced reached
  moved e =
      let f = gives_rest _ _ _ e in let g = gives_rest _ _ _ f in
      record { was = sound_is r s (not-false _ (gives_past _ _ _ e)); within = ltb-false _ _ (gives_past _ _ _ f); fits = ltb-false _ _ (gives_past _ _ _ g) }

  progress : {x : Progress} → gives x ≡ advanced r s n
      → x ≡ choose (ltb (r.filled + n) (aim r.order s (r.filled + n))) (waits (grown r s n)) (whole (aim r.order s (r.filled + n)) (packet_class (take (r.filled + n) s)) (fresh r.order))
  unfolding advanced reached
  progress e = let f = gives_rest _ _ _ (gives_rest _ _ _ (gives_rest _ _ _ e)) in cc

  pub from_more : (r₁ : PacketReader) → advanced r s n ≡ gives (waits r₁) → Moved r s n × ((r.filled + n < aim r.order s (r.filled + n)) × (grown r s n ≡ r₁))
  from_more r₁ h = let p = of_waits _ _ _ _ _ _ (progress (sym h)) in (moved (sym h), (ltb-true _ _ p.0, p.1))

  pub from_packet : (r₁ : PacketReader) (t : ℕ) {k : PacketClass} → advanced r s n ≡ gives (whole t k r₁)
      → Moved r s n × ((r.filled + n ≡ t) × ((aim r.order s (r.filled + n) ≡ t) × (fresh r.order ≡ r₁)))
  from_packet r₁ t h =
      let p = of_whole _ _ _ _ _ _ _ _ (progress (sym h)) in
      let m = moved (sym h) in
      let f : aim r.order s (r.filled + n) ≤ r.filled + n = ltb-false _ _ p.0 in
      (m, (omega (arith, p.1.0, m.within, m.was.not_reached, m.was.target_given, aim_grows r.order s r.filled (r.filled + n) (omega arith)), (p.1.0, p.1.1)))

  -- THE CLASS of a whole packet is that of the packet that is handed on.
  pub class_handed : (r₁ : PacketReader) (t : ℕ) {k : PacketClass} → advanced r s n ≡ gives (whole t k r₁) → k ≡ packet_class (take t s)
  class_handed r₁ t h = (of_whole _ _ _ _ _ _ _ _ (progress (sym h))).1.2 ∙ ap (λ (m : ℕ). packet_class (take m s)) (from_packet r₁ t h).1.0

-- ---- each state that is left is sound

pub sound_grown : (r : PacketReader) (s : List ℕ) (n : ℕ) → Moved r s n → r.filled + n < aim r.order s (r.filled + n) → Sound (grown r s n) s
sound_grown r s n m h = record { least = m.was.least; most = m.was.most; order_known = m.was.order_known; target_given = refl; target_fits = m.fits; not_reached = h }

pub sound_fresh : (r : PacketReader) (s : List ℕ) → Sound r s → Sound (fresh r.order) s
sound_fresh r s h =
    record { least = h.least; most = h.most; order_known = h.order_known; target_given = sym (aim_head r.order s 0 (omega arith)); target_fits = h.least; not_reached = omega arith }

-- ---- THE STREAM THEOREM: for any pieces, as long as nothing is refused

pub fed : (o : ℕ) {r r₂ : PacketReader} {s s₂ : List ℕ} {xs ps : List (List ℕ)} → Feeds r s xs ps r₂ s₂ → r.order ≡ o → Sound r s → (n : ℕ) → length (take r.filled s ++ joined xs) ≤ n
    → cuts o n (take r.filled s ++ joined xs) ≡ record { packets = ps; left = take r₂.filled s₂ }
fed o {r} {s = s} done e h n b =
    let l : length (take r.filled s) ≡ r.filled = length-take-le r.filled s (omega (arith, h.target_fits, h.not_reached)) in
    let a : aim o (take r.filled s) (length (take r.filled s)) ≡ r.target =
    (λ i. aim (sym e i) (take r.filled s) (l i)) ∙ aim_held r.order s r.filled (omega (arith, h.target_fits, h.not_reached)) ∙ sym h.target_given in
    ap (λ (y : List ℕ). cuts o n y) (append-nil (take r.filled s)) ∙ cut_rest o n (take r.filled s) (omega (arith, h.not_reached))
fed o {r} {s = s} (more {r₁ = r₁} {x = x} {xs = xs} p q) e h n b =
    let s' : List ℕ = put s r.filled x in
    let m = from_more r s' (length x) r₁ p in
    let f : r₁.filled ≡ r.filled + length x = ap (λ (y : PacketReader). y.filled) (sym m.1.1) in
    let c : r₁.order ≡ o = ap (λ (y : PacketReader). y.order) (sym m.1.1) ∙ e in
    let g : take r₁.filled s' ≡ take r.filled s ++ x =
    ap (λ (k : ℕ). take k s') f ∙ take_put s r.filled x (omega (arith, h.target_fits, h.not_reached, m.0.within)) in
    let w : take r.filled s ++ (x ++ joined xs) ≡ take r₁.filled s' ++ joined xs =
    sym (append_assoc (take r.filled s) x (joined xs)) ∙ ap (λ (y : List ℕ). y ++ joined xs) (sym g) in
    let d : Sound r₁ s' = subst (λ (y : PacketReader). Sound y s') m.1.1 (sound_grown r s' (length x) m.0 m.1.0) in
    ap (λ (y : List ℕ). cuts o n y) w ∙ fed o q c d n (omega (arith, ap length w))
fed o {r} {r₂} {s} {s₂} (packet {r₁ = r₁} {x = x} {xs = xs} {ps = ps} {t = t} p q) e h n b =
    let s' : List ℕ = put s r.filled x in
    let m = from_packet r s' (length x) r₁ t p in
    let g : take t s' ≡ take r.filled s ++ x =
    ap (λ (k : ℕ). take k s') (sym m.1.0) ∙ take_put s r.filled x (omega (arith, h.target_fits, h.not_reached, m.0.within)) in
    let w : take r.filled s ++ (x ++ joined xs) ≡ take t s' ++ joined xs =
    sym (append_assoc (take r.filled s) x (joined xs)) ∙ ap (λ (y : List ℕ). y ++ joined xs) (sym g) in
    let i : t ≤ length s' = omega (arith, m.0.fits, m.1.1.0) in
    let l : length (take t s') ≡ t = length-take-le t s' i in
    let a : aim o (take t s') (length (take t s')) ≡ t =
    (λ j. aim (sym e j) (take t s') (l j)) ∙ aim_held r.order s' t i ∙ ap (λ (k : ℕ). aim r.order s' k) (sym m.1.0) ∙ m.1.1.0 in
    let c : r₁.order ≡ o = ap (λ (y : PacketReader). y.order) (sym m.1.1.1) ∙ e in
    let d : Sound r₁ s' = subst (λ (y : PacketReader). Sound y s') m.1.1.1 (sound_fresh r s' m.0.was) in
    let z : take r₁.filled s' ++ joined xs ≡ joined xs = ap (λ (y : PacketReader). take y.filled s' ++ joined xs) (sym m.1.1.1) in
    ap (λ (y : List ℕ). cuts o n y) w
    ∙ cut_packet o n (take t s') (joined xs) (record { packets = ps; left = take r₂.filled s₂ }) (l ∙ sym a) (omega (arith, ap length w))
    (λ k b'. ap (λ (y : List ℕ). cuts o k y) (sym z) ∙ fed o q c d k (omega (arith, ap length z)))
