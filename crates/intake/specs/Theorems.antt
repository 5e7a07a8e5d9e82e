-- What the floors above may count on: the step is the model's, and the state that it leaves is sound. Assumes nothing.
use Rattle.std.specs.Prelude.{◌≡◌, refl, List, ℕ, ◌<◌, length, drop, get_or}
use Rattle.std.proofs.Math.Path.{sym, ap, subst}
use Rattle.std.proofs.Common.{◌∙◌, arith}
use Rattle.refusal.specs.Answer.{Answer, gives, pass, gives_same, pass_given, pass_agree}
use Rattle.requests.specs.Theorems.{sized_is}
use Rattle.packet.specs.Packet.{code_of}
use Rattle.held.specs.Theorems as Held
use Rattle.descriptors.specs.Theorems as Fds
use Rattle.packet.specs.Laws.{number_bounds}
use Rattle.model.specs.Client.{Client, arriving, set_waiting}
use Rattle.model.specs.Model.{filed, Filing, numbered, Task, take_in, enqueue_packet}
use Rattle.model.specs.Model as Model
use Rattle.model.specs.Reading.{Rooms, slots_of, reads}
use Rattle.model.specs.Promise.{Done, model_of, model_pass}
use Rattle.model.specs.Sound.{Sound}
use Rattle.model.specs.declared.Connection.{Connection}
use Rattle.model.specs.declared.Place.{Place}
use Rattle.filing.specs.Plan.{packet_number_in, asked_in, plan_of, numbered_state}
use Rattle.filing.specs.Planned.{Planned, planned}
use Rattle.filing.specs.Numbered.{numbered_sound, numbered_read}
use Rattle.filing.specs.Theorems.{claimed_most, event_claims, plan_read}
use Rattle.intake.specs.Exact.{Takeable, filing, filed_as, carried_out, enqueue_exact}
use Rattle.intake.specs.Filed.{Fine, filed_sound, filed_read}

-- A sound state is one that the step can be made from.
pub takeable : (c : Connection) (r : Rooms) → Sound c r → Takeable c r.requests r.store r.slots
takeable c r S =
    let z = (sized_is c.capacity r.requests).0 S.requests in
    let h = (Held.sound_exactly c.read c.window r.store).0 S.held in
    record {
      some = omega (arith, z.least, z.holds);
      numbers = S.numbers;
      order = h.readable.order;
      within = h.readable.within;
      store = S.store;
      slots = (Fds.sound_is (slots_of c r)).0 S.slots;
    }

filed_value : (place : Place) (c : Connection) (r : Rooms) (k : ℕ) (p : List ℕ) → (filed_as place c r k p).value ≡ filing place c.read p
filed_value Place.Replies c r k p = refl
filed_value Place.Events c r k p = refl
filed_value Place.Dropped c r k p = refl

-- ---- the step

module _ (c : Connection) (r : Rooms) (S : Sound c r) (p : List ℕ) (byte : get_or p 1 0 < 256) where
  -- a packet that has its number and is to be filed
  module _ (n : ℕ) (N : gives n ≡ packet_number_in c p) where
    abbrev next : Connection
    next = numbered_state c (code_of p) n

    next_sound : Sound next r
    next_sound = let b = number_bounds c.order c.read p n S.numbers.read_most N in numbered_sound c r S n (code_of p) b.0 b.1

  fine : (t : Task) (P : Planned c r.requests p t) → Fine (next t.number P.number) t.place t.claimed (length p)
  fine t P = record {
    least = P.least;
    most = P.most;
    some = P.some;
    byte = omega (arith, P.claimed_is, claimed_most p (asked_in c r.requests t.number));
    room = P.room;
  }

  -- what a plan leaves, in the model's terms
  carried_read : (t : Task) → Planned c r.requests p t → model_of (gives (carried_out c r p t)) ≡ gives (take_in (reads c r) p t)
  unfolding carried_out take_in numbered model_of
  carried_read t P =
      let a : Model.Asked = asked_in c r.requests t.number in
      let none : t.place ≡ Place.Events → t.claimed ≡ 0 = λ e. P.claimed_is ∙ event_claims p a (sym P.place_is ∙ e) in
      λ i. gives (
        (filed_value t.place (next t.number P.number) r t.claimed p ∙ (λ j. record { place = t.place; number = t.number; class = sym P.class_is j })) i,
        (filed_read (next t.number P.number) r (next_sound t.number P.number) p t.claimed t.place none (fine t P)
            ∙ ap
            (λ (x : Client). filed t.place (arriving x p t.number t.claimed) (set_waiting x (drop t.claimed x.waiting)))
            (numbered_read c r S t.number p)) i,
      )

  -- TAKING A PACKET IN is the model's, where its byte 1 is a byte.
  pub enqueue_model : model_of (enqueue_exact c r p) ≡ enqueue_packet (reads c r) p
  unfolding enqueue_exact enqueue_packet
  enqueue_model =
      model_pass (plan_of c r.requests p) _
      ∙ pass_agree (plan_of c r.requests p) _ _ (λ t e. carried_read t (planned c r.requests p t e))
      ∙ ap (λ (x : Answer Task). pass x (λ t. gives (take_in (reads c r) p t))) (plan_read c r S p)

  -- The state that it leaves is sound.
  pub enqueue_sound : (d : Done Filing) → gives d ≡ enqueue_exact c r p → Sound d.state d.left
  unfolding enqueue_exact carried_out
  enqueue_sound d e =
      let x = pass_given (plan_of c r.requests p) _ e in
      let t : Task = x.0 in
      let P : Planned c r.requests p t = planned c r.requests p t x.1 in
      subst (λ (y : Done Filing). Sound y.state y.left) (sym (gives_same x.2))
      (filed_sound (next t.number P.number) r (next_sound t.number P.number) p t.claimed t.place (fine t P))
