-- What the floors above may count on: what a packet claims, and that what is decided about it is the model's. Assumes nothing.
use Rattle.std.proofs.Math.Path.{◌≡◌, refl, sym, ap}
use Rattle.std.proofs.Common.{◌∙◌, arith, ltb-false}
use Rattle.std.specs.Prelude.{Bool, List, ℕ, ◌+◌, ◌≤◌, get_or}
use Rattle.std.proofs.Math.Bool.{true, false}
use Rattle.std.proofs.Math.Dec.{ltb}
use Rattle.std.proofs.Math.ListN.{length}
use Rattle.octets.specs.Logic.{choose, both}
use Rattle.refusal.specs.Answer.{gives, refuse, pass_agree}
use Rattle.held.specs.Head.{header_size}
use Rattle.packet.specs.Packet as Packet
use Rattle.packet.specs.Packet.{least_packet, most_packet, code_of, PacketClass, packet_class, is_reply, is_event, unnumbered}
use Rattle.packet.specs.Class.{unnumbered_class}
use Rattle.model.specs.Model.{nobody, somebody, reply_under, reply_place, place_of, wants_descriptors, claimed, is_held, task_by, ahead, asked_of, decide_by, decide}
use Rattle.model.specs.Model as Model
use Rattle.model.specs.Reading.{Rooms, reads}
use Rattle.model.specs.ReadingLaws.{used_read, length_wait}
use Rattle.model.specs.Sound.{Sound}
use Rattle.model.specs.declared.Connection.{Connection}
use Rattle.model.specs.declared.Place.TheVariants as Place
use Rattle.requests.specs.declared.Mode.{Mode}
use Rattle.filing.specs.Plan.{task, packet_number_in, asked_in, over_room, plan_by, plan_of}
use Rattle.filing.specs.Planned.{plan_ahead}
use Rattle.filing.specs.Numbered.{asked_read}

-- ---- what a packet claims

-- A packet claims at most what its byte 1 says;
pub claimed_most : (p : List ℕ) (a : Model.Asked) → claimed p a ≤ get_or p 1 0
unfolding claimed choose
claimed_most p a = go (both (is_reply (packet_class p)) (wants_descriptors a))
  where
    go : (b : Bool) → choose b (get_or p 1 0) 0 ≤ get_or p 1 0
    go true = omega arith
    go false = omega arith

never_event : (m : Mode) → reply_under m ≡ Place.Events → ⊥
never_event Mode.Keep e = let z : ◌≡◌ {A = ℕ} 0 1 = cc in omega arith
never_event Mode.DiscardReply e = let z : ◌≡◌ {A = ℕ} 0 1 = cc in omega arith
never_event Mode.DiscardReplyAndError e = let z : ◌≡◌ {A = ℕ} 0 1 = cc in omega arith

reply_never : (a : Model.Asked) → reply_place a ≡ Place.Events → ⊥
reply_never nobody e = let z : ◌≡◌ {A = ℕ} 0 1 = cc in omega arith
reply_never (somebody r) e = never_event r.mode e

-- an event claims nothing.
pub event_claims : (p : List ℕ) (a : Model.Asked) → place_of (packet_class p) a ≡ Place.Events → claimed p a ≡ 0
unfolding claimed place_of choose both
event_claims p a = go (packet_class p)
  where
    go : (k : PacketClass) → place_of k a ≡ Place.Events → choose (both (is_reply k) (wants_descriptors a)) (get_or p 1 0) 0 ≡ 0
    go Packet.error h = refl
    go Packet.reply h = absurd (reply_never a h)
    go (Packet.event sent) h = refl
    go (Packet.generic sent) h = refl

-- ---- the plan

-- An event goes among the events and claims nothing, whatever the request of its number:
module _ (p : List ℕ) (h : is_event (packet_class p) ≡ true) where
  pub event_place : (a : Model.Asked) → place_of (packet_class p) a ≡ Place.Events
  unfolding place_of
  event_place a = go (packet_class p) h
    where
      go : (k : PacketClass) → is_event k ≡ true → place_of k a ≡ Place.Events
      go Packet.error e = absurd (let z : ◌≡◌ {A = ℕ} 0 1 = cc in omega arith)
      go Packet.reply e = absurd (let z : ◌≡◌ {A = ℕ} 0 1 = cc in omega arith)
      go (Packet.event sent) e = refl
      go (Packet.generic sent) e = refl

  event_task : (n : ℕ) (a : Model.Asked) → task_by p n a ≡ task Place.Events n 0 (packet_class p)
  event_task n a = let e = event_place a in λ i. record { place = e i; number = n; claimed = event_claims p a e i; class = packet_class p }

-- so what is decided about one that carries no number needs no request.
alike : (c : Connection) (p : List ℕ) (n : ℕ) (a b : Model.Asked) → unnumbered (code_of p) ≡ true → plan_by c p n a ≡ plan_by c p n b
unfolding plan_by
alike c p n a b h =
    let k : is_event (packet_class p) ≡ true = ap is_event (unnumbered_class (code_of p) h) in
    let e : task_by p n a ≡ task_by p n b = event_task p k n a ∙ sym (event_task p k n b) in
    λ i. refuse (ahead (code_of p) n c.written) 20 (refuse (ltb c.counts.waiting (e i).claimed) 4 (refuse (over_room c (e i).place (length p)) 5 (gives (e i))))

module _ (c : Connection) (r : Rooms) (S : Sound c r) (p : List ℕ) where
  -- it is the model's: of a number that is not above the last written, of a packet that is refused by 20, and of one that carries no number
  asked_alike : (n : ℕ) → plan_by c p n (asked_in c r.requests n) ≡ plan_by c p n (asked_of (reads c r) n)
  unfolding ahead both
  asked_alike n = go (ltb c.written n) refl (unnumbered (code_of p)) refl
    where
      go : (x : Bool) → ltb c.written n ≡ x → (y : Bool) → unnumbered (code_of p) ≡ y → plan_by c p n (asked_in c r.requests n) ≡ plan_by c p n (asked_of (reads c r) n)
      go false e y f = ap (plan_by c p n) (asked_read c r S n (ltb-false c.written n e))
      go true e true f = alike c p n _ _ f
      go true e false f =
          let h : ahead (code_of p) n c.written ≡ true = simp (e, f) in
          sym (plan_ahead c p n (asked_in c r.requests n) h) ∙ plan_ahead c p n (asked_of (reads c r) n) h

  by_read : (n : ℕ) (a : Model.Asked) → plan_by c p n a ≡ decide_by (reads c r) p n a
  unfolding plan_by decide_by over_room reads
  by_read n a = λ i.
      refuse (ahead (code_of p) n c.written) 20
      (refuse (ltb (sym (length_wait c r S) i) (claimed p a)) 4
      (refuse (both (is_held (place_of (packet_class p) a)) (ltb c.room (sym (used_read c r S) i + (header_size + length p)))) 5 (gives (task_by p n a))))

  -- WHAT IS DECIDED is what the model decides, of the state as it is read.
  pub plan_read : plan_of c r.requests p ≡ decide (reads c r) p
  unfolding plan_of decide reads
  plan_read =
      ap (λ x. refuse (ltb (length p) least_packet) 1 (refuse (ltb most_packet (length p)) 2 x))
      (pass_agree (packet_number_in c p) _ _ (λ n e. asked_alike n ∙ by_read n (asked_of (reads c r) n)))
