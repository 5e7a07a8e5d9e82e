-- What a run of bytes begins with, and that this is how the run is cut into packets. Assumes nothing.
use Rattle.std.specs.Prelude.{◌≡◌, Bool, List, [], ◌++◌, ℕ, zero, suc, ◌-◌, ◌≤◌, ◌<◌, take, drop}
use Rattle.std.proofs.Math.Path.{refl, sym, ap}
use Rattle.std.proofs.Common.{◌∙◌, subst, append_assoc, arith, length-drop, take-append-drop}
use Rattle.std.proofs.Math.Bool.{true, false}
use Rattle.std.proofs.Math.Dec.{ltb, eqb}
use Rattle.std.proofs.Math.ListN.{length}
use borrow.Author.Tests.{ltb-true, ltb-false, lt-ltb, le-ltb, eqb-true, eqb-false, eq-eqb, ne_eqb}
use Rattle.octets.specs.Logic.{choose}
use Rattle.packet.specs.Packet.{least_packet, most_packet, PacketClass, packet_class, has_length}
use Rattle.packet.specs.Class.{says_class, classed, class_back}
use Rattle.packet_reader.specs.Frame.{length_as, total_of, aim, cons, cuts, cut_packets}
use Rattle.packet_reader.specs.CutLaws.{aim_least, aim_head, aim_total, cut_rest}
use Rattle.packet_reader.specs.Stream.{joined}
use Rattle.packet_reader.specs.declared.Begins.{Begins}

-- nothing, part of a packet, a packet that is longer than any may be (as far as its first 32 bytes tell), or a whole one of so many bytes and that class
pub data Front : Type 0 where
  nothing : Front
  part : Front
  long : Front
  whole : ℕ → PacketClass → Front

unfoldable pub front_of : ℕ → List ℕ → Front
front_of o s =
    choose (eqb (length s) 0) nothing
    (choose (ltb most_packet (aim o s (length s))) long
    (choose (ltb (length s) (aim o s (length s))) part (whole (aim o s (length s)) (packet_class s))))

-- what the enum says
abbrev pub says_begins : Begins → Front
says_begins Begins.Nothing = nothing
says_begins Begins.Part = part
says_begins Begins.Long = long
says_begins (Begins.Whole n k) = whole n (says_class k)

-- Two answers that say the same are equal.
back_begins : Front → Begins
back_begins nothing = Begins.Nothing
back_begins part = Begins.Part
back_begins long = Begins.Long
back_begins (whole n k) = Begins.Whole n (classed k)

back_begins_lem : (a : Begins) → back_begins (says_begins a) ≡ a
unfolding back_begins
back_begins_lem Begins.Nothing = refl
back_begins_lem Begins.Part = refl
back_begins_lem Begins.Long = refl
back_begins_lem (Begins.Whole n k) = ap (Begins.Whole n) (class_back k)

pub begins_one : (a b : Begins) → says_begins a ≡ says_begins b → a ≡ b
begins_one a b e = sym (back_begins_lem a) ∙ ap back_begins e ∙ back_begins_lem b

-- ---- each way that it can come out

module _ (o : ℕ) (s : List ℕ) where
  pub front_nothing : length s ≡ 0 → nothing ≡ front_of o s
  unfolding front_of choose
  front_nothing h = simp (eq-eqb (length s) 0 h)

  pub front_short : (length s ≡ 0 → ⊥) → length s < least_packet → part ≡ front_of o s
  unfolding front_of choose
  front_short h k =
      let a : aim o s (length s) ≡ least_packet = aim_head o s (length s) k in
      simp (ne_eqb (length s) 0 h, a, lt-ltb (length s) least_packet k)

  module _ (t : ℕ) (e : t ≡ aim o s (length s)) (h : length s ≡ 0 → ⊥) where
    pub front_long : most_packet < t → long ≡ front_of o s
    unfolding front_of choose
    front_long k = simp (ne_eqb (length s) 0 h, sym e, lt-ltb most_packet t k)

    pub front_part : t ≤ most_packet → length s < t → part ≡ front_of o s
    unfolding front_of choose
    front_part k l = simp (ne_eqb (length s) 0 h, sym e, le-ltb most_packet t k, lt-ltb (length s) t l)

    pub front_whole : t ≤ most_packet → t ≤ length s → (j : PacketClass) → j ≡ packet_class s → whole t j ≡ front_of o s
    unfolding front_of choose
    front_whole k l j c = ap (whole t) c ∙ simp (ne_eqb (length s) 0 h, sym e, le-ltb most_packet t k, le-ltb (length s) t l)

-- a packet that has no length of its own has 32 bytes
total_fixed : (o : ℕ) (s : List ℕ) → has_length (packet_class s) ≡ false → total_of o s ≡ least_packet
unfolding total_of length_as choose
total_fixed o s e = simp e

pub front_fixed : (o : ℕ) (s : List ℕ) → least_packet ≤ length s → has_length (packet_class s) ≡ false → whole least_packet (packet_class s) ≡ front_of o s
front_fixed o s h e = front_whole o s least_packet (sym (aim_total o s (length s) h ∙ total_fixed o s e)) (λ z. omega arith) (omega arith) h (packet_class s) refl

-- ---- and what each tells

pub record Part (o : ℕ) (s : List ℕ) : Type 0 where
  pub some : 0 < length s
  pub lacks : length s < aim o s (length s)
  pub most : aim o s (length s) ≤ most_packet

pub record Long (o : ℕ) (s : List ℕ) : Type 0 where
  pub some : 0 < length s
  pub over : most_packet < aim o s (length s)

pub record Whole (o : ℕ) (s : List ℕ) (n : ℕ) (k : PacketClass) : Type 0 where
  pub class : k ≡ packet_class s
  pub target : n ≡ aim o s (length s)
  pub least : least_packet ≤ n
  pub fits : n ≤ length s
  pub most : n ≤ most_packet

-- which of the four something is
abbrev Tells : ℕ → List ℕ → Front → Type 0
Tells o s nothing = length s ≡ 0
Tells o s part = Part o s
Tells o s long = Long o s
Tells o s (whole n k) = Whole o s n k

module _ (o : ℕ) (s : List ℕ) where
  tells : Tells o s (front_of o s)
  unfolding front_of choose
  tells = go (eqb (length s) 0) refl (ltb most_packet (aim o s (length s))) refl (ltb (length s) (aim o s (length s))) refl
    where
      go : (a : Bool) → eqb (length s) 0 ≡ a → (b : Bool) → ltb most_packet (aim o s (length s)) ≡ b → (c : Bool) → ltb (length s) (aim o s (length s)) ≡ c
          → Tells o s (choose a nothing (choose b long (choose c part (whole (aim o s (length s)) (packet_class s)))))
      go true e b f c g = eqb-true (length s) 0 e
      go false e true f c g =
          let z : length s ≡ 0 → ⊥ = eqb-false (length s) 0 e in
          record { some = omega arith; over = ltb-true _ _ f }
      go false e false f true g =
          let z : length s ≡ 0 → ⊥ = eqb-false (length s) 0 e in
          record { some = omega arith; lacks = ltb-true _ _ g; most = ltb-false _ _ f }
      go false e false f false g =
          record { class = refl; target = refl; least = aim_least o s (length s); fits = ltb-false _ _ g; most = ltb-false _ _ f }

  pub tells_nothing : nothing ≡ front_of o s → length s ≡ 0
  tells_nothing e = subst (Tells o s) (sym e) tells

  pub tells_part : part ≡ front_of o s → Part o s
  tells_part e = subst (Tells o s) (sym e) tells

  pub tells_long : long ≡ front_of o s → Long o s
  tells_long e = subst (Tells o s) (sym e) tells

  pub tells_whole : (n : ℕ) (k : PacketClass) → whole n k ≡ front_of o s → Whole o s n k
  tells_whole n k e = subst (Tells o s) (sym e) tells

-- ---- The packets of a run, from its front

-- the first of them
cut_next : (o n : ℕ) (s : List ℕ) → aim o s (length s) ≤ length s → cuts o (suc n) s ≡ cons (take (aim o s (length s)) s) (cuts o n (drop (aim o s (length s)) s))
unfolding cuts choose
cut_next o n s h = simp (le-ltb _ _ h)

-- more turns than bytes cut nothing more
cuts_enough : (o n m : ℕ) (s : List ℕ) → length s ≤ n → length s ≤ m → cuts o n s ≡ cuts o m s
cuts_enough o zero m s h k = cut_rest o zero s (omega (arith, aim_least o s (length s))) ∙ sym (cut_rest o m s (omega (arith, aim_least o s (length s))))
cuts_enough o (suc n) zero s h k = cut_rest o (suc n) s (omega (arith, aim_least o s (length s))) ∙ sym (cut_rest o zero s (omega (arith, aim_least o s (length s))))
cuts_enough o (suc n) (suc m) s h k =
    go (ltb (length s) (aim o s (length s))) refl
    (λ f. let w : least_packet ≤ aim o s (length s) = aim_least o s (length s) in
    let l : length (drop (aim o s (length s)) s) ≡ length s - aim o s (length s) = length-drop (aim o s (length s)) s in
    cuts_enough o n m (drop (aim o s (length s)) s) (omega arith) (omega arith))
  where
    go : (b : Bool) → ltb (length s) (aim o s (length s)) ≡ b → (aim o s (length s) ≤ length s → cuts o n (drop (aim o s (length s)) s) ≡ cuts o m (drop (aim o s (length s)) s))
        → cuts o (suc n) s ≡ cuts o (suc m) s
    go true e r = cut_rest o (suc n) s (ltb-true _ _ e) ∙ sym (cut_rest o (suc m) s (ltb-true _ _ e))
    go false e r =
        let f : aim o s (length s) ≤ length s = ltb-false _ _ e in
        cut_next o n s f ∙ ap (cons (take (aim o s (length s)) s)) (r f) ∙ sym (cut_next o m s f)

-- no whole packet is there,
pub packets_none : (o : ℕ) (s : List ℕ) → length s < aim o s (length s) → cut_packets o s ≡ record { packets = []; left = s }
unfolding cut_packets
packets_none o s h = cut_rest o (length s) s h

-- or the first one is cut off.
pub packets_next : (o : ℕ) (s : List ℕ) → aim o s (length s) ≤ length s → cut_packets o s ≡ cons (take (aim o s (length s)) s) (cut_packets o (drop (aim o s (length s)) s))
unfolding cut_packets
packets_next o s h =
    let w : least_packet ≤ aim o s (length s) = aim_least o s (length s) in
    let l : length (drop (aim o s (length s)) s) ≡ length s - aim o s (length s) = length-drop (aim o s (length s)) s in
    cuts_enough o (length s) (suc (length s)) s (omega arith) (omega arith)
    ∙ cut_next o (length s) s h
    ∙ ap (cons (take (aim o s (length s)) s)) (cuts_enough o (length s) (length (drop (aim o s (length s)) s)) (drop (aim o s (length s)) s) (omega arith) (omega arith))

-- CUTTING LOSES NOTHING: the packets in a row and what is left are the run.
cuts_whole : (o n : ℕ) (s : List ℕ) → joined (cuts o n s).packets ++ (cuts o n s).left ≡ s
unfolding cuts choose
cuts_whole o zero s = refl
cuts_whole o (suc n) s = go (ltb (length s) (aim o s (length s))) (cuts_whole o n (drop (aim o s (length s)) s))
  where
    go : (b : Bool) → joined (cuts o n (drop (aim o s (length s)) s)).packets ++ (cuts o n (drop (aim o s (length s)) s)).left ≡ drop (aim o s (length s)) s
        → joined (choose b (record { packets = []; left = s }) (cons (take (aim o s (length s)) s) (cuts o n (drop (aim o s (length s)) s)))).packets
        ++ (choose b (record { packets = []; left = s }) (cons (take (aim o s (length s)) s) (cuts o n (drop (aim o s (length s)) s)))).left ≡ s
    go true r = refl
    go false r =
        append_assoc (take (aim o s (length s)) s) (joined (cuts o n (drop (aim o s (length s)) s)).packets) (cuts o n (drop (aim o s (length s)) s)).left
        ∙ ap (λ (y : List ℕ). take (aim o s (length s)) s ++ y) r
        ∙ take-append-drop (aim o s (length s)) s

pub packets_whole : (o : ℕ) (s : List ℕ) → joined (cut_packets o s).packets ++ (cut_packets o s).left ≡ s
unfolding cut_packets
packets_whole o s = cuts_whole o (length s) s
