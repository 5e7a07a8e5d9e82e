-- What is certain of a reader that is fed a byte run piece by piece. Assumes nothing.
use Rattle.std.specs.Prelude.{◌≡◌, Bool, ℕ, ◌+◌, ◌-◌, ◌≤◌, ◌<◌, ltb}
use Rattle.std.proofs.Math.Path.{refl, sym, ap, subst}
use Rattle.std.proofs.Common.{◌∙◌, arith}
use Rattle.std.proofs.Math.Bool.{true, false}
use mathlib.Core.List.{List, ◌++◌}
use Rattle.std.proofs.Math.ListN.{length, take}
use borrow.Author.Tests.{ltb-true, ltb-false, le-ltb}
use Rattle.octets.specs.Logic.{choose}
use Rattle.octets.specs.Put.{put, length_put, take_put, take_put_before}
use Rattle.refusal.specs.Answer.{Answer, gives, refuses, refuse}
use Rattle.packet.specs.Packet.{PacketClass, packet_class}
use Rattle.packet_reader.specs.Frame.{aim, Cut, cut_packets}
use Rattle.packet_reader.specs.Reader.{Progress, waits, whole, fresh, reached, advanced}
use Rattle.packet_reader.specs.Sound.{Sound, is_sound}
use Rattle.packet_reader.specs.CutLaws.{aim_held}
use Rattle.packet_reader.specs.Stream.{joined, Feeds, done, more, packet, Moved, from_more, from_packet, fed, sound_grown, sound_fresh}
use Rattle.packet_reader.specs.declared.PacketReader.{PacketReader}

-- Pieces put into the lent part one after the other, from a fresh reader and with no refusal, give the packets that their bytes in a row are cut into, and leave the bytes over filled.
pub stream : (o : ℕ) {r : PacketReader} {s s' : List ℕ} {xs ps : List (List ℕ)} → Feeds (fresh o) s xs ps r s' → Sound (fresh o) s
    → cut_packets o (joined xs) ≡ record { packets = ps; left = take r.filled s' }
unfolding cut_packets
stream o {xs = xs} q h = fed o q refl h (length (joined xs)) (omega arith)

-- So pieces do not matter: the same bytes in other pieces and in another buffer give the same packets and leave the same bytes over.
pub any_pieces : (o : ℕ) {r q : PacketReader} {s s' u u' : List ℕ} {xs ys ps qs : List (List ℕ)} → Feeds (fresh o) s xs ps r s' → Feeds (fresh o) u ys qs q u'
    → Sound (fresh o) s → Sound (fresh o) u → joined xs ≡ joined ys → (ps ≡ qs) × (take r.filled s' ≡ take q.filled u')
any_pieces o f g h k e =
    let z = sym (stream o f h) ∙ ap (cut_packets o) e ∙ stream o g k in
    (ap (λ (c : Cut). c.packets) z, ap (λ (c : Cut). c.left) z)

-- The reader that is left is sound beside its buffer.
pub fed_sound : {r r₂ : PacketReader} {s s₂ : List ℕ} {xs ps : List (List ℕ)} → Feeds r s xs ps r₂ s₂ → Sound r s → (r₂.order ≡ r.order) × Sound r₂ s₂
fed_sound done h = (refl, h)
fed_sound {r} {s = s} (more {r₁ = r₁} {x = x} p q) h =
    let s' : List ℕ = put s r.filled x in
    let m = from_more r s' (length x) r₁ p in
    let z = fed_sound q (subst (λ (y : PacketReader). Sound y s') m.1.1 (sound_grown r s' (length x) m.0 m.1.0)) in
    (z.0 ∙ ap (λ (y : PacketReader). y.order) (sym m.1.1), z.1)
fed_sound {r} {s = s} (packet {r₁ = r₁} {x = x} {t = t} p q) h =
    let s' : List ℕ = put s r.filled x in
    let m = from_packet r s' (length x) r₁ t p in
    let z = fed_sound q (subst (λ (y : PacketReader). Sound y s') m.1.1.1 (sound_fresh r s' m.0.was)) in
    (z.0 ∙ ap (λ (y : PacketReader). y.order) (sym m.1.1.1), z.1)

-- What a piece that fits the lent part can come to: the reader goes on, soundly, or the packet is longer than the buffer.
pub data Comes (r : PacketReader) (s x : List ℕ) : Answer Progress → Type 0 where
  goes_on : {r₁ : PacketReader} → Sound r₁ (put s r.filled x) → Comes r s x (gives (waits r₁))
  ends : {t : ℕ} {k : PacketClass} {r₁ : PacketReader} → Sound r₁ (put s r.filled x) → Comes r s x (gives (whole t k r₁))
  too_long : length s < aim r.order (take r.filled s ++ x) (r.filled + length x) → Comes r s x (refuses 2)

module _ (r : PacketReader) (s x : List ℕ) (h : Sound r s) (k : length x ≤ r.target - r.filled) where
  s' : List ℕ
  s' = put s r.filled x

  bound : r.filled + length x ≤ length s
  bound = omega (arith, h.target_fits, h.not_reached, k)

  size : length s' ≡ length s
  unfolding s'
  size = length_put s r.filled x bound

  -- bytes put into the unfilled part leave the reader sound
  sound_put : Sound r s'
  unfolding s'
  sound_put =
      let l : length (put s r.filled x) ≡ length s = size in
      let b : r.filled + length x ≤ length s = bound in
      let t : take r.filled (put s r.filled x) ≡ take r.filled s = take_put_before s r.filled x r.filled (omega arith) (omega arith) in
      let a : aim r.order s r.filled ≡ aim r.order (put s r.filled x) r.filled =
      sym (aim_held r.order s r.filled (omega arith)) ∙ ap (λ (y : List ℕ). aim r.order y r.filled) (sym t) ∙ aim_held r.order (put s r.filled x) r.filled (omega arith) in
      record { least = omega (arith, h.least); most = omega (arith, h.most); order_known = h.order_known; target_given = h.target_given ∙ a; target_fits = omega (arith, h.target_fits); not_reached = h.not_reached }

  n : ℕ
  n = r.filled + length x

  t : ℕ
  t = aim r.order s' n

  by_tests : (b c : Bool) → ltb (length s') t ≡ b → ltb n t ≡ c
      → Comes r s x (refuse b 2 (gives (choose c (waits (record { order = r.order; filled = n; target = t })) (whole t (packet_class (take n s')) (fresh r.order)))))
  unfolding s' n t refuse choose
  by_tests true c p q =
      let b : r.filled + length x ≤ length s = bound in
      let l : length (put s r.filled x) ≡ length s = size in
      let a : aim r.order (take r.filled s ++ x) (r.filled + length x) ≡ aim r.order (put s r.filled x) (r.filled + length x) =
      ap (λ (y : List ℕ). aim r.order y (r.filled + length x)) (sym (take_put s r.filled x b))
      ∙ aim_held r.order (put s r.filled x) (r.filled + length x) (omega arith) in
      let u : length (put s r.filled x) < aim r.order (put s r.filled x) (r.filled + length x) = ltb-true _ _ p in
      too_long (omega arith)
  by_tests false true p q =
      let m : Moved r s' (length x) = record { was = sound_put; within = k; fits = ltb-false _ _ p } in
      goes_on (sound_grown r s' (length x) m (ltb-true _ _ q))
  by_tests false false p q = ends (sound_fresh r s' sound_put)

  pub comes : Comes r s x (advanced r (put s r.filled x) (length x))
  unfolding s' n t advanced reached refuse
  comes =
      subst (Comes r s x) (simp (is_sound r s' sound_put, le-ltb (r.target - r.filled) (length x) k)) (by_tests (ltb (length s') t) (ltb n t) refl refl)
