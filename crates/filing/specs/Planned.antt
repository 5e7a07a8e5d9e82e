-- How a plan comes out, each way, and what a plan to file a packet says. Assumes nothing.
use Rattle.std.proofs.Math.Path.{◌≡◌, refl, sym, ap}
use Rattle.std.proofs.Common.{◌∙◌, arith}
use Rattle.std.specs.Prelude.{Bool, List, ℕ, ◌+◌, ◌≤◌, ◌<◌, ltb, length, get_or, Option, Some, None, Result, Ok, Err}
use Rattle.std.proofs.Math.Bool.{true, false}
use borrow.Author.Tests.{ltb-false, lt-ltb, le-ltb}
use Rattle.octets.specs.Logic.{choose, both}
use Rattle.refusal.specs.Answer.{Answer, gives, refuses, refuse, pass, gives_past, gives_rest, pass_given}
use Rattle.refusal.specs.Numbers.{number_of}
use Rattle.sequence.specs.Numbering.{says_full}
use Rattle.sequence.specs.declared.SequenceNumber.{SequenceNumber}
use Rattle.refusal.specs.declared.Refusal.{Refusal}
use Rattle.requests.specs.declared.Request.{Request}
use Rattle.packet.specs.Packet.{least_packet, most_packet, code_of, PacketClass, packet_class, is_reply}
use Rattle.held.specs.Head.{header_size}
use Rattle.held.specs.Reading.{used}
use Rattle.model.specs.Model.{place_of, claimed, is_held, Task, ahead}
use Rattle.model.specs.Model as Model
use Rattle.model.specs.declared.Connection.{Connection}
use Rattle.model.specs.declared.Place.{Place}
use Rattle.filing.specs.Plan.{says_asked, task, packet_number_in, asked_in, over_room, plan_by, plan_of}

-- ---- what a packet claims

module _ (p : List ℕ) (a : Option Request) where
  pub claims_nobody : a ≡ None → 0 ≡ claimed p (says_asked a)
  unfolding claimed choose both
  claims_nobody e = sym (ap (λ (x : Option Request). claimed p (says_asked x)) e ∙ go (is_reply (packet_class p)))
    where
      go : (b : Bool) → ◌≡◌ {A = ℕ} (choose (both b false) (get_or p 1 0) 0) 0
      go true = refl
      go false = refl

  pub claims_none : (r : Request) → a ≡ Some r → r.descriptors ≡ false → 0 ≡ claimed p (says_asked a)
  unfolding claimed choose both
  claims_none r e f =
      sym (ap (λ (x : Option Request). claimed p (says_asked x)) e ∙ ap (λ (b : Bool). choose (both (is_reply (packet_class p)) b) (get_or p 1 0) 0) f ∙ go (is_reply (packet_class p)))
    where
      go : (b : Bool) → ◌≡◌ {A = ℕ} (choose (both b false) (get_or p 1 0) 0) 0
      go true = refl
      go false = refl

  pub claims_some : (r : Request) → a ≡ Some r → is_reply (packet_class p) ≡ true → r.descriptors ≡ true → get_or p 1 0 ≡ claimed p (says_asked a)
  unfolding claimed choose both
  claims_some r e g f =
      sym (ap (λ (x : Option Request). claimed p (says_asked x)) e
      ∙ (λ i. choose (both (g i) (f i)) (get_or p 1 0) 0))

-- ---- a packet that has its number

-- one that answers what was not asked
pub plan_ahead : (c : Connection) (p : List ℕ) (n : ℕ) (a : Model.Asked) → ahead (code_of p) n c.written ≡ true → refuses 20 ≡ plan_by c p n a
unfolding plan_by refuse
plan_ahead c p n a h = simp h

module _ (c : Connection) (p : List ℕ) (n : ℕ) (h : ahead (code_of p) n c.written ≡ false) (a a' : Model.Asked) (e : a ≡ a') (class : PacketClass) (j : class ≡ packet_class p) (place : Place) (k : ℕ) (f : place ≡ place_of class a) (g : k ≡ claimed p a) where
  plan_as : refuse (ltb c.counts.waiting k) 4 (refuse (over_room c place (length p)) 5 (gives (task place n k class))) ≡ plan_by c p n a'
  unfolding plan_by refuse
  plan_as =
      let x : place ≡ place_of (packet_class p) a' = f ∙ (λ i. place_of (j i) (e i)) in
      let y : k ≡ claimed p a' = g ∙ ap (claimed p) e in
      λ i. refuse (sym h i) 20 (refuse (ltb c.counts.waiting (y i)) 4 (refuse (over_room c (x i) (length p)) 5 (gives (task (x i) n (y i) (j i)))))

  pub plan_few : c.counts.waiting < k → refuses 4 ≡ plan_by c p n a'
  unfolding refuse
  plan_few h = sym (simp (lt-ltb c.counts.waiting k h)) ∙ plan_as

  pub plan_over : k ≤ c.counts.waiting → over_room c place (length p) ≡ true → refuses 5 ≡ plan_by c p n a'
  unfolding refuse
  plan_over h o = sym (simp (le-ltb c.counts.waiting k h, o)) ∙ plan_as

  pub plan_file : k ≤ c.counts.waiting → over_room c place (length p) ≡ false → gives (task place n k class) ≡ plan_by c p n a'
  unfolding refuse
  plan_file h o = sym (simp (le-ltb c.counts.waiting k h, o)) ∙ plan_as

-- ---- any packet

module _ (c : Connection) (q p : List ℕ) where
  pub plan_short : length p < least_packet → refuses 1 ≡ plan_of c q p
  unfolding plan_of refuse
  plan_short h = simp (lt-ltb (length p) least_packet h)

  pub plan_long : least_packet ≤ length p → most_packet < length p → refuses 2 ≡ plan_of c q p
  unfolding plan_of refuse
  plan_long h f = simp (le-ltb (length p) least_packet h, lt-ltb most_packet (length p) f)

  module _ (h : least_packet ≤ length p) (f : length p ≤ most_packet) (x : Result SequenceNumber Refusal) (e : says_full x ≡ packet_number_in c p) where
    plan_past : pass (says_full x) (λ n. plan_by c p n (asked_in c q n)) ≡ plan_of c q p
    unfolding plan_of refuse
    plan_past = ap (λ (z : Answer ℕ). pass z (λ n. plan_by c p n (asked_in c q n))) e ∙ simp (le-ltb (length p) least_packet h, le-ltb most_packet (length p) f)

    pub plan_numbered : (n : SequenceNumber) (y : Answer Task) → x ≡ Ok n → y ≡ plan_by c p n.0 (asked_in c q n.0) → y ≡ plan_of c q p
    unfolding pass
    plan_numbered n y g z = z ∙ ap (λ (t : Result SequenceNumber Refusal). pass (says_full t) (λ m. plan_by c p m (asked_in c q m))) (sym g) ∙ plan_past

    pub plan_end : (r : Refusal) → x ≡ Err r → refuses (number_of r) ≡ plan_of c q p
    unfolding pass
    plan_end r g = ap (λ (t : Result SequenceNumber Refusal). pass (says_full t) (λ m. plan_by c p m (asked_in c q m))) (sym g) ∙ plan_past

-- ---- what a plan to file says

pub record Planned (c : Connection) (q p : List ℕ) (t : Task) : Type 0 where
  pub least : least_packet ≤ length p
  pub most : length p ≤ most_packet
  pub number : gives t.number ≡ packet_number_in c p
  pub place_is : t.place ≡ place_of (packet_class p) (asked_in c q t.number)
  pub claimed_is : t.claimed ≡ claimed p (asked_in c q t.number)
  pub class_is : t.class ≡ packet_class p
  pub some : t.claimed ≤ c.counts.waiting
  pub room : is_held t.place ≡ true → used c.window + (header_size + length p) ≤ c.room

by_past : (c : Connection) (p : List ℕ) (n : ℕ) (a : Model.Asked) (t : Task) → gives t ≡ plan_by c p n a
    → (t ≡ task (place_of (packet_class p) a) n (claimed p a) (packet_class p)) × (claimed p a ≤ c.counts.waiting) × (over_room c (place_of (packet_class p) a) (length p) ≡ false)
unfolding plan_by
by_past c p n a t e =
    let r₁ = gives_rest _ _ _ e in
    let r₂ = gives_rest _ _ _ r₁ in
    let z : gives t ≡ gives (task (place_of (packet_class p) a) n (claimed p a) (packet_class p)) = gives_rest _ _ _ r₂ in
    (cc, ltb-false c.counts.waiting (claimed p a) (gives_past _ _ _ r₁), gives_past _ _ _ r₂)

pub over_not : (c : Connection) (place : Place) (n : ℕ) → over_room c place n ≡ false → is_held place ≡ true → used c.window + (header_size + n) ≤ c.room
unfolding over_room both
over_not c place n o h = ltb-false c.room (used c.window + (header_size + n)) (sym (simp h) ∙ o)

pub planned : (c : Connection) (q p : List ℕ) (t : Task) → gives t ≡ plan_of c q p → Planned c q p t
unfolding plan_of
planned c q p t e =
    let r₁ = gives_rest _ _ _ e in
    let r₂ = gives_rest _ _ _ r₁ in
    let b = pass_given _ _ r₂ in
    let n : ℕ = b.0 in
    let k = by_past c p n (asked_in c q n) t b.2 in
    let N : t.number ≡ n = ap (λ (x : Task). x.number) k.0 in
    let A : asked_in c q n ≡ asked_in c q t.number = ap (asked_in c q) (sym N) in
    let P : t.place ≡ place_of (packet_class p) (asked_in c q n) = ap (λ (x : Task). x.place) k.0 in
    let K : t.claimed ≡ claimed p (asked_in c q n) = ap (λ (x : Task). x.claimed) k.0 in
    record {
      least = ltb-false (length p) least_packet (gives_past _ _ _ e);
      most = ltb-false most_packet (length p) (gives_past _ _ _ r₁);
      number = ap gives N ∙ b.1;
      place_is = P ∙ ap (place_of (packet_class p)) A;
      claimed_is = K ∙ ap (claimed p) A;
      class_is = ap (λ (x : Task). x.class) k.0;
      some = omega (arith, K, k.1);
      room = over_not c t.place (length p) (ap (λ (x : Place). over_room c x (length p)) P ∙ k.2);
    }
