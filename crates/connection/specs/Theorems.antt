-- What follows from the promises of the public calls. Assumes nothing.
use Rattle.std.proofs.Math.Path.{◌≡◌, refl, subst}
use Rattle.std.proofs.Common.{sym, ap, ◌∙◌, arith}
use Rattle.std.specs.Prelude.{true, List, ◌↔◌, ℕ, ◌+◌, ◌<◌, length}
use Rattle.std.proofs.lemmas.Bool.{not-false}
use Rattle.octets.specs.Bytes.{legal}
use Rattle.refusal.specs.Answer.{Answer, gives, refuses, gives_past, gives_rest}
use Rattle.requests.specs.Room as Room
use Rattle.requests.specs.Theorems.{sized_is, legals_each}
use Rattle.held.specs.Reading as Store
use Rattle.held.specs.Theorems as Held
use Rattle.descriptors.specs.Room as Slots
use Rattle.descriptors.specs.Theorems as Fds
use Rattle.model.specs.Client.{Client}
use Rattle.model.specs.Reading.{Rooms, count, slots_of}
use Rattle.model.specs.Promise.{Done, Promise, answer_of, rooms_of, guarded}
use Rattle.model.specs.Sound.{Ranges, Sound, soundb, sound_is, is_sound}
use Rattle.model.specs.declared.Connection.{Connection}
use Rattle.connection.specs.Calls.{Hands}

-- 01, Rooms, the whole sentence: lent lengths are those given at the start and in range, the byte order is `l` or `B`, full numbers are in range, outstanding requests are a run from 1 or more up to the last written and at most K, each request byte is legal, the store reads as held records whose costs add up to what is used (`Readable`), reply numbers never fall, no held number is above the last read, as many descriptors are held as the replies have, and they number at most 256.
pub record Sentence (c : Connection) (r : Rooms) : Type 0 where
  pub order : legal c.order ≡ true
  pub requests : Room.Sized c.capacity r.requests
  pub store : length r.store ≡ c.room
  pub numbers : Ranges c
  pub legal_bytes : (i : ℕ) → i < count c → Room.legal (Room.byte_at r.requests (c.first + i)) ≡ true
  pub held : Store.Sound c.read c.window r.store
  pub descriptors : Store.fds_in (Store.replies c.window r.store) ≡ c.counts.held
  pub slots : Slots.Sound (slots_of c r)

-- The test of soundness holds exactly where the sentence does.
pub sound_exactly : (c : Connection) (r : Rooms) → (soundb c r ≡ true) ↔ Sentence c r
sound_exactly c r = (there, back)
  where
    there : soundb c r ≡ true → Sentence c r
    there h =
        let S = sound_is c r h in
        record {
          order = S.order;
          requests = (sized_is c.capacity r.requests).0 S.requests;
          store = S.store;
          numbers = S.numbers;
          legal_bytes = (legals_each r.requests c.first (count c)).0 S.legal_bytes;
          held = (Held.sound_exactly c.read c.window r.store).0 S.held;
          descriptors = S.descriptors;
          slots = (Fds.sound_is (slots_of c r)).0 S.slots;
        }

    back : Sentence c r → soundb c r ≡ true
    back T =
        is_sound c r
        (record {
          order = T.order;
          requests = (sized_is c.capacity r.requests).1 T.requests;
          store = T.store;
          numbers = T.numbers;
          legal_bytes = (legals_each r.requests c.first (count c)).1 T.legal_bytes;
          slots = (Fds.sound_is (slots_of c r)).1 T.slots;
          held = (Held.sound_exactly c.read c.window r.store).1 T.held;
          descriptors = T.descriptors;
        })

module _ {A B : Type 0} (f : A → B) (e : Answer (Done A)) (m : Client → Answer (A × Client)) (c : Connection) (r : Rooms) where
  -- Any two outcomes that a promise allows are equal, answer and rooms.
  pub one_outcome : (a b : Answer (B × Connection)) (s t : Rooms) → Promise f e m c r a s → Promise f e m c r b t → (a ≡ b) × (s ≡ t)
  one_outcome a b s t p q = (p.exact.answers ∙ sym q.exact.answers, p.exact.leaves ∙ sym q.exact.leaves)

  -- A refusal leaves the rooms as found (and hands back no state).
  pub refusal_leaves : (n : ℕ) (s : Rooms) → Promise f e m c r (refuses n) s → s ≡ r
  unfolding answer_of rooms_of
  refusal_leaves n s p = p.exact.leaves ∙ by (guarded c r e) p.exact.answers
    where
      by : (x : Answer (Done A)) → refuses n ≡ answer_of f x → rooms_of x r ≡ r
      by (gives d) q = absurd (let z : ◌≡◌ {A = ℕ} 0 1 = cc in omega arith)
      by (refuses k) q = refl

  -- A state that is not sound is refused by 9, and a state that is handed back was made from a sound one and is sound, where the step keeps soundness.
  pub state_sound : (Sound c r → (d : Done A) → gives d ≡ e → Sound d.state d.left) → (y : B) (c' : Connection) (s : Rooms) → Promise f e m c r (gives (y, c')) s → Sound c' s
  unfolding answer_of rooms_of guarded
  state_sound law y c' s p = by (guarded c r e) refl p.exact.answers p.exact.leaves
    where
      by : (x : Answer (Done A)) → x ≡ guarded c r e → gives (y, c') ≡ answer_of f x → s ≡ rooms_of x r → Sound c' s
      by (gives d) i q l =
          let w : ◌≡◌ {A = B × Connection} (y, c') (f d.value, d.state) = cc in
          let S : Sound c r = sound_is c r (not-false _ (gives_past _ _ _ i)) in
          let k : Sound d.state d.left = law S d (gives_rest _ _ _ i) in
          subst (λ (t : Rooms). Sound c' t) (sym l) (subst (λ (z : Connection). Sound z d.left) (sym (ap (λ (v : B × Connection). v.1) w)) k)
      by (refuses n) i q l = absurd (let z : ◌≡◌ {A = ℕ} 0 1 = cc in omega arith)

module _ {A B : Type 0} (f : A → B) (g : A → List ℕ) (e : Answer (Done A)) (m : Client → Answer (A × Client)) (c : Connection) (r : Rooms) (out : List ℕ) where
  -- Any two outcomes of a call that hands something out are equal, and what it hands out is.
  pub hands_outcome : (a b : Answer (B × Connection)) (s t : Rooms) (x y : List ℕ) → Hands f g e m c r out a s x → Hands f g e m c r out b t y → (a ≡ b) × (s ≡ t) × (x ≡ y)
  hands_outcome a b s t x y p q =
      let z = one_outcome f e m c r a b s t p.promise q.promise in
      (z.0, z.1, p.output ∙ sym q.output)
