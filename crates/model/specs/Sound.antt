-- 01, Rooms: when a state is sound with its rooms. Assumes nothing.
use Rattle.std.specs.Prelude.{◌≡◌, refl, Bool, true, false, not, List, ℕ, ◌+◌, ◌-◌, ◌≤◌, ◌<◌, leb, eqb, length, Some, None}
use Rattle.std.proofs.Common.{sym, ap, ◌∙◌, leb-true, eqb-true, le-leb, eq-eqb, arith}
use Rattle.std.proofs.lemmas.Bool.{not-true, not-false}
use Rattle.octets.specs.Logic.{choose, both, both_left, both_right, both_yes, both_on}
use Rattle.octets.specs.Bytes.{legal}
use Rattle.sequence.specs.Numbering.{last_number}
use Rattle.requests.specs.Room.{sized, capacity, legals}
use Rattle.requests.specs.Theorems.{sized_is}
use Rattle.descriptors.specs.Theorems as Fds
use Rattle.held.specs.Head.{most_store}
use Rattle.held.specs.Reading as Store
use Rattle.held.specs.Theorems as Held
use Rattle.held.specs.Walk.{walked}
use Rattle.held.specs.declared.Window.{Window}
use Rattle.descriptors.specs.Room as Slots
use Rattle.model.specs.Model.{least_store}
use Rattle.model.specs.Reading.{Rooms, count, slots_of}
use Rattle.model.specs.declared.Connection.{Connection}

-- "its full numbers are in range"; and so is S
unfoldable pub limitsb : Connection → Bool
limitsb c =
    both (leb least_store c.room)
    (both (leb c.room most_store) (both (leb c.written last_number) (both (leb c.expected last_number) (leb c.read last_number))))

-- "outstanding requests are a run without gaps from 1 or more up to the last written and at most K"
unfoldable pub runb : ℕ → ℕ → ℕ → Bool
runb first written most = both (leb 1 first) (both (leb first (written + 1)) (leb (written + 1 - first) most))

unfoldable pub numbersb : Connection → Bool
numbersb c = both (limitsb c) (runb c.first c.written c.capacity)

-- the same, number by number
pub record Ranges (c : Connection) : Type 0 where
  pub store_least : least_store ≤ c.room
  pub store_most : c.room ≤ most_store
  pub written_most : c.written ≤ last_number
  pub expected_most : c.expected ≤ last_number
  pub read_most : c.read ≤ last_number
  pub first_least : 1 ≤ c.first
  pub first_most : c.first ≤ c.written + 1
  pub count_most : count c ≤ c.capacity

-- "the store reads as held records .., reply numbers never fall, no held number is above the last read"; as many descriptors are held as the replies have
unfoldable pub holdsb : ℕ → Window → ℕ → List ℕ → Bool
holdsb read w held s = both (Store.soundb read w s) (eqb (Store.fds_in (Store.replies w s)) held)

unfoldable pub heldb : Connection → List ℕ → Bool
heldb c s = holdsb c.read c.window c.counts.held s

-- "its lent lengths are those given at the start, its byte order is `l` or `B`, .. each request byte is legal, .. and descriptors number at most 256"
unfoldable pub soundb : Connection → Rooms → Bool
soundb c r =
    both (legal c.order)
    (both (sized c.capacity r.requests)
    (both (eqb (length r.store) c.room)
    (both (numbersb c)
    (both (legals r.requests c.first (count c))
    (both (Slots.sound (slots_of c r)) (heldb c r.store))))))

-- the same, part by part
pub record Sound (c : Connection) (r : Rooms) : Type 0 where
  pub order : legal c.order ≡ true
  pub requests : sized c.capacity r.requests ≡ true
  pub store : length r.store ≡ c.room
  pub numbers : Ranges c
  pub legal_bytes : legals r.requests c.first (count c) ≡ true
  pub slots : Slots.sound (slots_of c r) ≡ true
  pub held : Store.soundb c.read c.window r.store ≡ true
  pub descriptors : Store.fds_in (Store.replies c.window r.store) ≡ c.counts.held

-- The tests of the numbers, and of the whole, hold exactly where the sentence does.
pub limits_written : (c : Connection) → limitsb c ≡ true → c.written ≤ last_number
unfolding limitsb
limits_written c h = leb-true _ _ (both_left _ _ (both_right _ _ (both_right _ _ h)))

pub limits_run : (c : Connection) → limitsb c ≡ true → runb c.first c.written c.capacity ≡ true → Ranges c
unfolding limitsb runb
limits_run c h k =
    let h₁ = both_right _ _ h in let h₂ = both_right _ _ (both_right _ _ h₁) in let k₁ = both_right _ _ k in
    record {
      store_least = leb-true _ _ (both_left _ _ h);
      store_most = leb-true _ _ (both_left _ _ h₁);
      written_most = limits_written c h;
      expected_most = leb-true _ _ (both_left _ _ h₂);
      read_most = leb-true _ _ (both_right _ _ h₂);
      first_least = leb-true _ _ (both_left _ _ k);
      first_most = leb-true _ _ (both_left _ _ k₁);
      count_most = leb-true _ _ (both_right _ _ k₁);
    }

pub numbers_limits : (c : Connection) → Ranges c → limitsb c ≡ true
unfolding limitsb
numbers_limits c n =
    both_yes _ _ (le-leb least_store c.room n.store_least)
    (both_yes _ _ (le-leb c.room most_store n.store_most)
    (both_yes _ _ (le-leb c.written last_number n.written_most)
    (both_yes _ _ (le-leb c.expected last_number n.expected_most) (le-leb c.read last_number n.read_most))))

pub numbers_run : (c : Connection) → Ranges c → runb c.first c.written c.capacity ≡ true
unfolding runb
numbers_run c n =
    both_yes _ _ (le-leb 1 c.first n.first_least)
    (both_yes _ _ (le-leb c.first (c.written + 1) n.first_most) (le-leb (count c) c.capacity n.count_most))

numbers_is : (c : Connection) → numbersb c ≡ true → Ranges c
unfolding numbersb
numbers_is c h = limits_run c (both_left _ _ h) (both_right _ _ h)

is_numbers : (c : Connection) → Ranges c → numbersb c ≡ true
unfolding numbersb
is_numbers c n = both_yes _ _ (numbers_limits c n) (numbers_run c n)

pub sound_is : (c : Connection) (r : Rooms) → soundb c r ≡ true → Sound c r
unfolding soundb heldb holdsb
sound_is c r h =
    let h₁ = both_right _ _ h in let h₂ = both_right _ _ h₁ in let h₃ = both_right _ _ h₂ in let h₄ = both_right _ _ h₃ in let h₅ = both_right _ _ h₄ in
    let g = both_right _ _ h₅ in
    record {
      order = both_left _ _ h;
      requests = both_left _ _ h₁;
      store = eqb-true _ _ (both_left _ _ h₂);
      numbers = numbers_is c (both_left _ _ h₃);
      legal_bytes = both_left _ _ h₄;
      slots = both_left _ _ h₅;
      held = both_left _ _ g;
      descriptors = eqb-true _ _ (both_right _ _ g);
    }

pub is_sound : (c : Connection) (r : Rooms) → Sound c r → soundb c r ≡ true
unfolding soundb heldb holdsb
is_sound c r h =
    both_yes _ _ h.order
    (both_yes _ _ h.requests
    (both_yes _ _ (eq-eqb (length r.store) c.room h.store)
    (both_yes _ _ (is_numbers c h.numbers)
    (both_yes _ _ h.legal_bytes
    (both_yes _ _ h.slots (both_yes _ _ h.held (eq-eqb _ _ h.descriptors)))))))

-- a state that is not sound
pub not_sound : (c : Connection) (r : Rooms) → (Sound c r → ⊥) → false ≡ soundb c r
not_sound c r h = go (soundb c r) refl
  where
    go : (b : Bool) → soundb c r ≡ b → false ≡ soundb c r
    go true e = absurd (h (sound_is c r e))
    go false e = sym e

-- ---- what the tests of the code tell, in its order: the store's length and the full numbers, then the run of outstanding requests, then the rooms

abbrev pub window_of : ℕ → ℕ → Window
window_of start end = record { start = start; end = end }

pub limits_last : (c : Connection) → least_store ≤ c.room → c.room ≤ most_store → c.written ≤ last_number → c.expected ≤ last_number → leb c.read last_number ≡ limitsb c
unfolding limitsb
limits_last c l m w e =
    both_on (le-leb c.expected last_number e) ∙ both_on (le-leb c.written last_number w) ∙ both_on (le-leb c.room most_store m) ∙ both_on (le-leb least_store c.room l)

-- what is left to test once all but the rooms was found
pub rooms_left : (c : Connection) (r : Rooms) → legal c.order ≡ true → sized c.capacity r.requests ≡ true → length r.store ≡ c.room → Ranges c → Slots.sound (slots_of c r) ≡ true
    → both (legals r.requests c.first (count c)) (heldb c r.store) ≡ soundb c r
unfolding soundb both
rooms_left c r o q l n s = simp (o, q, eq-eqb (length r.store) c.room l, is_numbers c n, s)

-- what a walk over the store tells
pub walked_sound : (read : ℕ) (w : Window) (held : ℕ) (s : List ℕ) (n : ℕ) → Some n ≡ walked read w s → eqb n held ≡ holdsb read w held s
unfolding walked holdsb choose both
walked_sound read w held s n e = go (Store.soundb read w s) e
  where
    go : (t : Bool) → Some n ≡ choose t (Some (Store.fds_in (Store.replies w s))) None
        → eqb n held ≡ both t (eqb (Store.fds_in (Store.replies w s)) held)
    go true q = let z : n ≡ Store.fds_in (Store.replies w s) = cc in ap (λ (m : ℕ). eqb m held) z
    go false q = absurd (let z : ◌≡◌ {A = ℕ} 0 1 = cc in omega arith)

pub walked_unsound : (read : ℕ) (w : Window) (held : ℕ) (s : List ℕ) → None ≡ walked read w s → false ≡ holdsb read w held s
unfolding walked holdsb choose both
walked_unsound read w held s e = go (Store.soundb read w s) e
  where
    go : (t : Bool) → None ≡ choose t (Some (Store.fds_in (Store.replies w s))) None
        → false ≡ both t (eqb (Store.fds_in (Store.replies w s)) held)
    go true q = absurd (let z : ◌≡◌ {A = ℕ} 0 1 = cc in omega arith)
    go false q = refl

-- what a call's test tells
pub sound_seen : (c : Connection) (r : Rooms) (b : Bool) → b ≡ soundb c r → not b ≡ false → soundb c r ≡ true
sound_seen c r b e h = sym e ∙ not-false b h

pub unsound_seen : (c : Connection) (r : Rooms) (b : Bool) → b ≡ soundb c r → not b ≡ true → soundb c r ≡ false
unsound_seen c r b e h = sym e ∙ not-true b h

-- what the steps ask of a sound state
pub room_there : (c : Connection) (r : Rooms) → Sound c r → 0 < capacity r.requests
room_there c r S = let z = (sized_is c.capacity r.requests).0 S.requests in omega (arith, z.least, z.holds)

pub slots_there : (c : Connection) (r : Rooms) → Sound c r → Slots.Sound (slots_of c r)
slots_there c r S = (Fds.sound_is (slots_of c r)).0 S.slots

-- what the steps over held packets ask: the store reads as held packets, the slots are sound, and as many descriptors are held as the replies have
pub record Ready (c : Connection) (s f : List ℕ) : Type 0 where
  pub held : Store.Sound c.read c.window s
  pub slots : Slots.Sound (Slots.room f c.counts)
  pub descriptors : Store.fds_in (Store.replies c.window s) ≡ c.counts.held

pub ready : (c : Connection) (r : Rooms) → Sound c r → Ready c r.store r.slots
ready c r S = record {
  held = (Held.sound_exactly c.read c.window r.store).0 S.held;
  slots = slots_there c r S;
  descriptors = S.descriptors;
}
