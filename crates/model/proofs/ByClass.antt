-- THE FIRST BYTE decides where a packet goes through its class alone. Assumes nothing.
use Rattle.std.specs.Prelude.{◌≡◌, refl, Bool, true, false, List, ◌∷◌, ℕ}
use Rattle.std.proofs.Common.{sym, ap, ◌∙◌, arith}
use Rattle.octets.specs.Put.{cut}
use Rattle.octets.specs.Field.{field}
use Rattle.refusal.specs.Answer.{gives, gives_rest, gives_same, pass_given}
use Rattle.sequence.specs.Numbering.{full, in_range}
use Rattle.packet.specs.Packet as Packet
use Rattle.packet.specs.Packet.{PacketClass, class_of, is_event, unnumbered, wire_of, number_after}
use Rattle.packet.specs.Laws.{number_full}
use Rattle.packet.specs.Class.{unnumbered_class}
use Rattle.model.specs.Client.{Client}
use Rattle.model.specs.Model.{Asked, asked_of, place_of, Task, decide_by, decide}

-- what is decided about a packet has the place of its class under a number that is its own
tasked : (c : Client) (p : List ℕ) (t : Task) → gives t ≡ decide c p → (gives t.number ≡ number_after c.order c.numbers.read p) × (t.place ≡ place_of (Packet.packet_class p) (asked_of c t.number))
unfolding decide decide_by
tasked c p t e =
    let g = pass_given _ _ (gives_rest _ 2 _ (gives_rest _ 1 _ e)) in
    let h = gives_same (gives_rest _ 5 _ (gives_rest _ 4 _ (gives_rest _ 20 _ g.2))) in
    let n : t.number ≡ g.0 = ap (λ (k : Task). k.number) h in
    (ap gives n ∙ g.1, ap (λ (k : Task). k.place) h ∙ ap (λ (m : ℕ). place_of (Packet.packet_class p) (asked_of c m)) (sym n))

-- all events go to one place
event_there : (k : PacketClass) → is_event k ≡ true → (a b : Asked) → place_of k a ≡ place_of k b
unfolding place_of
event_there Packet.error h a b = absurd (let z : ◌≡◌ {A = ℕ} 0 1 = cc in omega arith)
event_there Packet.reply h a b = absurd (let z : ◌≡◌ {A = ℕ} 0 1 = cc in omega arith)
event_there (Packet.event sent) h a b = refl
event_there (Packet.generic sent) h a b = refl

-- a number that is carried does not stand in the first byte
same_wire : (o x y : ℕ) (rest : List ℕ) → wire_of o (x ∷ rest) ≡ wire_of o (y ∷ rest)
unfolding field cut
same_wire o x y rest = refl

-- Two packets that differ in the first byte alone, and are of one class, go to one place, whichever of them carry a number.
module _ (c : Client) (x y : ℕ) (rest : List ℕ) (alike : class_of x ≡ class_of y) where
  -- where they are events,
  of_events : is_event (class_of x) ≡ true → (a b : Asked) → place_of (class_of x) a ≡ place_of (class_of y) b
  of_events h a b = event_there (class_of x) h a b ∙ ap (λ (k : PacketClass). place_of k b) alike

  -- and where both carry one number
  of_one : unnumbered x ≡ false → unnumbered y ≡ false → number_after c.order c.numbers.read (x ∷ rest) ≡ number_after c.order c.numbers.read (y ∷ rest)
  of_one h k =
      number_full c.order c.numbers.read (x ∷ rest) h
      ∙ ap (λ (w : ℕ). in_range (full c.numbers.read w)) (same_wire c.order x y rest)
      ∙ sym (number_full c.order c.numbers.read (y ∷ rest) k)

  pub same_place : (s t : Task) → gives s ≡ decide c (x ∷ rest) → gives t ≡ decide c (y ∷ rest) → s.place ≡ t.place
  same_place s t e f =
      let u = tasked c (x ∷ rest) s e in
      let v = tasked c (y ∷ rest) t f in
      go (unnumbered x) refl (unnumbered y) refl u.0 v.0 u.1 v.1
    where
      go : (a : Bool) → unnumbered x ≡ a → (b : Bool) → unnumbered y ≡ b
          → gives s.number ≡ number_after c.order c.numbers.read (x ∷ rest) → gives t.number ≡ number_after c.order c.numbers.read (y ∷ rest)
          → s.place ≡ place_of (class_of x) (asked_of c s.number) → t.place ≡ place_of (class_of y) (asked_of c t.number) → s.place ≡ t.place
      go true p b q m n i j = i ∙ of_events (ap is_event (unnumbered_class x p)) _ _ ∙ sym j
      go false p true q m n i j = i ∙ of_events (ap is_event (alike ∙ unnumbered_class y q)) _ _ ∙ sym j
      go false p false q m n i j =
          let w : s.number ≡ t.number = gives_same (m ∙ of_one p q ∙ sym n) in
          i ∙ (λ k. place_of (alike k) (asked_of c (w k))) ∙ sym j
