-- READERS THAT ARE ALIKE answer alike for ever: what stands in a buffer behind the bytes filled has no part in any answer. Assumes nothing.
use Rattle.std.specs.Prelude.{◌≡◌, refl, Bool, true, false, not, leb, ltb, eqb}
use Rattle.std.proofs.Math.Path.{sym, ap}
use Rattle.std.proofs.Common.{◌∙◌, subst, arith, ltb-true, ltb-false}
use mathlib.Core.List.{List, ◌∷◌, ◌++◌, append_assoc}
use Prim.Native.Nat.{ℕ, ◌+◌, ◌-◌, ◌≤◌}
use Rattle.std.proofs.Math.ListN.{length, take, drop, length-append, length-drop}
use Rattle.std.proofs.Math.Seq.{length-take-le}
use Rattle.std.proofs.lemmas.List.{take-append-le}
use Rattle.octets.specs.Logic.{choose, both}
use Rattle.octets.specs.Bytes.{legal}
use Rattle.octets.specs.Put.{put, length_put, take_put}
use Rattle.refusal.specs.Answer.{Answer, gives, refuse}
use Rattle.packet.specs.Packet.{least_packet, PacketClass, packet_class}
use Rattle.packet_reader.specs.Frame.{aim}
use Rattle.packet_reader.specs.Reader.{room, soundb, capacity, Progress, waits, whole, fresh, reached, advanced}
use Rattle.packet_reader.specs.Sound.{Sound, is_sound}
use Rattle.packet_reader.specs.CutLaws.{aim_head, aim_total, total_append, aim_held}
use Rattle.packet_reader.specs.Stream.{Feeds, done, more, packet, grown, from_more, from_packet, sound_grown, sound_fresh}
use Rattle.packet_reader.specs.declared.PacketReader.{PacketReader}

-- ALIKE: two readers, each sound with its buffer, of one byte order, in buffers of one length, with the same bytes filled
pub record Alike (r : PacketReader) (s : List ℕ) (q : PacketReader) (t : List ℕ) : Type 0 where
  pub sound : Sound r s
  pub other_sound : Sound q t
  pub order : r.order ≡ q.order
  pub long : length s ≡ length t
  pub filled : r.filled ≡ q.filled
  pub bytes : take r.filled s ≡ take q.filled t

-- ---- bytes behind those that are counted decide nothing

pub aim_front : (o : ℕ) (a u : List ℕ) (k : ℕ) → k ≤ length a → aim o (a ++ u) k ≡ aim o a k
aim_front o a u k h = go (ltb k least_packet) refl where
  go : (b : Bool) → ltb k least_packet ≡ b → aim o (a ++ u) k ≡ aim o a k
  go true e = aim_head o (a ++ u) k (ltb-true _ _ e) ∙ sym (aim_head o a k (ltb-true _ _ e))
  go false e =
      let w : least_packet ≤ k = ltb-false _ _ e in
      aim_total o (a ++ u) k w ∙ total_append o a u (omega arith) ∙ sym (aim_total o a k w)

module _ (r : PacketReader) (a u v : List ℕ) (n : ℕ) (e : length u ≡ length v) (h : r.filled + n ≤ length a) where
  size : length (a ++ u) ≡ length (a ++ v)
  size = omega (arith, length-append a u, length-append a v)

  aims : (k : ℕ) → k ≤ length a → aim r.order (a ++ u) k ≡ aim r.order (a ++ v) k
  aims k w = aim_front r.order a u k w ∙ sym (aim_front r.order a v k w)

  pub advanced_front : advanced r (a ++ u) n ≡ advanced r (a ++ v) n
  unfolding advanced reached soundb
  advanced_front =
      let l = size in
      let f : aim r.order (a ++ u) r.filled ≡ aim r.order (a ++ v) r.filled = aims r.filled (omega arith) in
      let g : aim r.order (a ++ u) (r.filled + n) ≡ aim r.order (a ++ v) (r.filled + n) = aims (r.filled + n) h in
      let p : packet_class (take (r.filled + n) (a ++ u)) ≡ packet_class (take (r.filled + n) (a ++ v)) =
      ap packet_class (take-append-le (r.filled + n) a u h ∙ sym (take-append-le (r.filled + n) a v h)) in
      λ i.
      refuse (not (both (room (l i)) (both (legal r.order) (both (eqb r.target (f i)) (both (leb r.target (l i)) (ltb r.filled r.target)))))) 9
      (refuse (ltb (r.target - r.filled) n) 7
      (refuse (ltb (l i) (g i)) 2
      (gives (choose (ltb (r.filled + n) (g i)) (waits (record { order = r.order; filled = r.filled + n; target = g i })) (whole (g i) (p i) (fresh r.order))))))

-- ---- two readers that are alike

module _ (r : PacketReader) (s : List ℕ) (q : PacketReader) (t : List ℕ) (k : Alike r s q t) where
  within : r.filled ≤ length s
  within = omega (arith, k.sound.target_fits, k.sound.not_reached)

  -- the bytes filled give the target, so that the readers are equal
  pub alike_target : r.target ≡ q.target
  alike_target =
      k.sound.target_given
      ∙ sym (aim_held r.order s r.filled within)
      ∙ (λ i. aim (k.order i) (k.bytes i) (k.filled i))
      ∙ aim_held q.order t q.filled (omega (arith, k.other_sound.target_fits, k.other_sound.not_reached))
      ∙ sym k.other_sound.target_given

  pub alike_equal : r ≡ q
  alike_equal = let w = alike_target in λ i. record { order = k.order i; filled = k.filled i; target = w i }

  -- `remaining_capacity` answers the same,
  pub alike_capacity : capacity r s ≡ capacity q t
  unfolding capacity
  alike_capacity =
      let f : soundb r s ≡ soundb q t = is_sound r s k.sound ∙ sym (is_sound q t k.other_sound) in
      let w = alike_equal in
      λ i. refuse (not (f i)) 9 (gives ((w i).target - (w i).filled))

  -- and so does `advance`, whatever bytes x were put into the lent part and however many of them are counted.
  pub alike_advanced : (x : List ℕ) (n : ℕ) → n ≤ length x → advanced r (put s r.filled x) n ≡ advanced q (put t q.filled x) n
  unfolding put
  alike_advanced x n h =
      let a : List ℕ = take r.filled s ++ x in
      let u : List ℕ = drop (r.filled + length x) s in
      let v : List ℕ = drop (r.filled + length x) t in
      let b : r.filled ≤ length s = within in
      let l : length u ≡ length v = length-drop (r.filled + length x) s ∙ (λ i. k.long i - (r.filled + length x)) ∙ sym (length-drop (r.filled + length x) t) in
      let m : r.filled + n ≤ length a = omega (arith, length-append (take r.filled s) x, length-take-le r.filled s b) in
      ap (λ (y : List ℕ). advanced r y n) (sym (append_assoc (take r.filled s) x u))
      ∙ advanced_front r a u v n l m
      ∙ (λ i. advanced (alike_equal i) ((k.bytes i ++ x) ++ drop (k.filled i + length x) t) n)
      ∙ ap (λ (y : List ℕ). advanced q y n) (append_assoc (take q.filled t) x (drop (q.filled + length x) t))

  -- what is put there
  put_long : (x : List ℕ) → length x ≤ r.target - r.filled → length (put s r.filled x) ≡ length (put t q.filled x)
  put_long x h =
      length_put s r.filled x (omega (arith, k.sound.target_fits, k.sound.not_reached))
      ∙ k.long
      ∙ sym (length_put t q.filled x (omega (arith, k.other_sound.target_fits, k.other_sound.not_reached, alike_target, k.filled)))

  put_bytes : (x : List ℕ) → length x ≤ r.target - r.filled → take (r.filled + length x) (put s r.filled x) ≡ take (q.filled + length x) (put t q.filled x)
  put_bytes x h =
      take_put s r.filled x (omega (arith, k.sound.target_fits, k.sound.not_reached))
      ∙ ap (λ (y : List ℕ). y ++ x) k.bytes
      ∙ sym (take_put t q.filled x (omega (arith, k.other_sound.target_fits, k.other_sound.not_reached, alike_target, k.filled)))

  -- after a piece they are alike again
  alike_more : (x : List ℕ) (r₁ q₁ : PacketReader) → advanced r (put s r.filled x) (length x) ≡ gives (waits r₁) → advanced q (put t q.filled x) (length x) ≡ gives (waits q₁)
      → Alike r₁ (put s r.filled x) q₁ (put t q.filled x)
  alike_more x r₁ q₁ e f =
      let s' : List ℕ = put s r.filled x in
      let t' : List ℕ = put t q.filled x in
      let m = from_more r s' (length x) r₁ e in
      let n = from_more q t' (length x) q₁ f in
      subst (λ (y : PacketReader). Alike y s' q₁ t') m.1.1
      (subst (λ (y : PacketReader). Alike (grown r s' (length x)) s' y t') n.1.1
      (record {
        sound = sound_grown r s' (length x) m.0 m.1.0;
        other_sound = sound_grown q t' (length x) n.0 n.1.0;
        order = k.order;
        long = put_long x m.0.within;
        filled = ap (λ (y : ℕ). y + length x) k.filled;
        bytes = put_bytes x m.0.within;
      }))

  alike_packet : (x : List ℕ) (m n : ℕ) {j l : PacketClass} (r₁ q₁ : PacketReader) → advanced r (put s r.filled x) (length x) ≡ gives (whole m j r₁) → advanced q (put t q.filled x) (length x) ≡ gives (whole n l q₁)
      → (take m (put s r.filled x) ≡ take n (put t q.filled x)) × Alike r₁ (put s r.filled x) q₁ (put t q.filled x)
  alike_packet x m n r₁ q₁ e f =
      let s' : List ℕ = put s r.filled x in
      let t' : List ℕ = put t q.filled x in
      let c = from_packet r s' (length x) r₁ m e in
      let d = from_packet q t' (length x) q₁ n f in (
        ap (λ (y : ℕ). take y s') (sym c.1.0) ∙ put_bytes x c.0.within ∙ ap (λ (y : ℕ). take y t') d.1.0,
        subst (λ (y : PacketReader). Alike y s' q₁ t') c.1.1.1
            (subst (λ (y : PacketReader). Alike (fresh r.order) s' y t') d.1.1.1
            (record { sound = sound_fresh r s' c.0.was; other_sound = sound_fresh q t' d.0.was; order = k.order; long = put_long x c.0.within; filled = refl; bytes = refl })),
      )

-- a packet that waits is not whole
not_both : (a b : Answer Progress) (r q : PacketReader) (n : ℕ) {k : PacketClass} → a ≡ b → a ≡ gives (waits r) → b ≡ gives (whole n k q) → ⊥
not_both a b r q n e f g = let z : ◌≡◌ {A = ℕ} 0 1 = cc in omega arith

-- FOR EVER: two readers that are alike and are given the same pieces give the same packets, and are alike again.
pub alike_feeds : {r q r₂ q₂ : PacketReader} {s t s₂ t₂ : List ℕ} {xs ps ps' : List (List ℕ)} → Alike r s q t → Feeds r s xs ps r₂ s₂ → Feeds q t xs ps' q₂ t₂ → (ps ≡ ps') × Alike r₂ s₂ q₂ t₂
alike_feeds k done done = (refl, k)
alike_feeds {r = r} {q = q} {s = s} {t = t} k (more {r₁ = r₁} {x = x} e f) (more {r₁ = q₁} g h) = alike_feeds (alike_more r s q t k x r₁ q₁ e g) f h
alike_feeds {r = r} {q = q} {s = s} {t = t} k (more {r₁ = r₁} {x = x} e f) (packet {r₁ = q₁} {t = n} g h) = absurd (not_both _ _ r₁ q₁ n (alike_advanced r s q t k x (length x) (omega arith)) e g)
alike_feeds {r = r} {q = q} {s = s} {t = t} k (packet {r₁ = r₁} {x = x} {t = m} e f) (more {r₁ = q₁} g h) = absurd (not_both _ _ q₁ r₁ m (sym (alike_advanced r s q t k x (length x) (omega arith))) g e)
alike_feeds {r = r} {q = q} {s = s} {t = t} k (packet {r₁ = r₁} {x = x} {t = m} e f) (packet {r₁ = q₁} {t = n} g h) =
    let z = alike_packet r s q t k x m n r₁ q₁ e g in
    let w = alike_feeds z.1 f h in
    (λ i. z.0 i ∷ w.0 i, w.1)
