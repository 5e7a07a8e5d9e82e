-- Laws of the length of a packet and of cutting a run. Assumes nothing.
use Rattle.std.specs.Prelude.{◌≡◌, refl, Bool, true, false, List, [], ◌++◌, ℕ, zero, suc, ◌+◌, ◌*◌, ◌≤◌, ◌<◌, length, take, drop, ltb}
use Rattle.std.proofs.Common.{sym, ap, ◌∙◌, arith, length-append, take-append-drop, take_at, drop_at, length-take-le, ltb-true, ltb-false, lt-ltb, le-ltb}
use Rattle.std.proofs.Math.ListN.{get_or-append}
use Rattle.octets.specs.Logic.{choose}
use Rattle.octets.specs.Bytes.{number_in}
use Rattle.octets.specs.Put.{cut_append}
use Rattle.octets.specs.Field.{field}
use Rattle.packet.specs.Packet.{least_packet, PacketClass, packet_class, has_length}
use Rattle.packet.specs.Class.{class_taken}
use Rattle.packet_reader.specs.Frame.{length_as, total, total_of, aim, Cut, cons, cuts}

-- ---- the length of a packet

choose_least : (b : Bool) (x y m : ℕ) → m ≤ x → m ≤ y → m ≤ choose b x y
unfolding choose
choose_least true x y m h k = h
choose_least false x y m h k = k

pub total_least : (o : ℕ) (s : List ℕ) → least_packet ≤ total_of o s
unfolding total_of length_as
total_least o s = choose_least (has_length (packet_class s)) (least_packet + 4 * field o 4 4 s) least_packet least_packet (omega arith) (omega arith)

pub aim_least : (o : ℕ) (s : List ℕ) (f : ℕ) → least_packet ≤ aim o s f
unfolding aim
aim_least o s f = choose_least (ltb f least_packet) least_packet (total_of o s) least_packet (omega arith) (total_least o s)

pub aim_head : (o : ℕ) (s : List ℕ) (f : ℕ) → f < least_packet → aim o s f ≡ least_packet
unfolding aim choose
aim_head o s f h = simp (lt-ltb _ _ h)

pub aim_total : (o : ℕ) (s : List ℕ) (f : ℕ) → least_packet ≤ f → aim o s f ≡ total_of o s
unfolding aim choose
aim_total o s f h = simp (le-ltb _ _ h)

-- so the bytes of a packet that is whole tell its class
pub class_filled : (o : ℕ) (s : List ℕ) (n t : ℕ) (k : PacketClass) → k ≡ packet_class s → t ≡ aim o s n → t ≤ n → k ≡ packet_class (take n s)
class_filled o s n t k e h l = e ∙ sym (class_taken n s (omega (arith, aim_least o s n)))

-- the first 32 bytes decide
pub total_append : (o : ℕ) (a u : List ℕ) → least_packet ≤ length a → total_of o (a ++ u) ≡ total_of o a
unfolding total_of field
total_append o a u h = λ i. total (get_or-append a u 0 0 (omega arith) i) (number_in o (cut_append 4 4 a u (omega arith) i))

-- the target is that of the bytes held
pub aim_held : (o : ℕ) (s : List ℕ) (f : ℕ) → f ≤ length s → aim o (take f s) f ≡ aim o s f
aim_held o s f h = go (ltb f least_packet) refl where
  go : (b : Bool) → ltb f least_packet ≡ b → aim o (take f s) f ≡ aim o s f
  go true e = aim_head o (take f s) f (ltb-true _ _ e) ∙ sym (aim_head o s f (ltb-true _ _ e))
  go false e =
      let k : least_packet ≤ f = ltb-false _ _ e in
      aim_total o (take f s) f k
      ∙ sym (total_append o (take f s) (drop f s) (omega (arith, length-take-le f s h)))
      ∙ ap (λ (l : List ℕ). total_of o l) (take-append-drop f s)
      ∙ sym (aim_total o s f k)

-- a target is met, never passed
pub aim_grows : (o : ℕ) (s : List ℕ) (f g : ℕ) → f ≤ g → aim o s f ≤ aim o s g
aim_grows o s f g h = go (ltb f least_packet) refl where
  go : (b : Bool) → ltb f least_packet ≡ b → aim o s f ≤ aim o s g
  go true e = omega (arith, aim_head o s f (ltb-true _ _ e), aim_least o s g)
  go false e =
      let k : least_packet ≤ f = ltb-false _ _ e in
      omega (arith, aim_total o s f k, aim_total o s g (omega arith))

-- ---- cutting

pub cut_rest : (o n : ℕ) (s : List ℕ) → length s < aim o s (length s) → cuts o n s ≡ record { packets = []; left = s }
unfolding cuts choose
cut_rest o zero s h = refl
cut_rest o (suc n) s h = simp (lt-ltb _ _ h)

pub cut_packet : (o n : ℕ) (p u : List ℕ) (R : Cut) → length p ≡ aim o p (length p) → length (p ++ u) ≤ n → ((m : ℕ) → length u ≤ m → cuts o m u ≡ R) → cuts o n (p ++ u) ≡ cons p R
unfolding cuts choose
cut_packet o zero p u R e h k = let z : ⊥ = omega (arith, aim_least o p (length p), length-append p u) in absurd z
cut_packet o (suc n) p u R e h k =
    let l : length (p ++ u) ≡ length p + length u = length-append p u in
    let w : least_packet ≤ length p = omega (arith, aim_least o p (length p)) in
    let t : aim o (p ++ u) (length (p ++ u)) ≡ length p =
    aim_total o (p ++ u) (length (p ++ u)) (omega arith) ∙ total_append o p u w ∙ sym (aim_total o p (length p) w) ∙ sym e in
    let q : length p ≤ length (p ++ u) = omega arith in
    let r : cuts o n u ≡ R = k n (omega arith) in
    simp (t, le-ltb _ _ q, take_at p u (length p) refl, drop_at p u (length p) refl, r)
