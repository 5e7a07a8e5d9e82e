-- How many events come out, turn by turn. Assumes nothing.
use Rattle.std.specs.Prelude.{◌≡◌, refl, Bool, true, false, List, [], ◌++◌, ◌∷◌, ℕ, ◌+◌, ◌-◌, ◌≤◌, ◌<◌, leb, ltb, length, take, drop, set, Option, Some, None, Result, Ok}
use Rattle.std.proofs.Common.{sym, ◌∙◌, subst, append_assoc, arith, length-drop, take-append-drop, drop-drop, length-take-le, le-leb, ltb-false}
use Rattle.std.proofs.Math.Path.{ap}
use Rattle.std.proofs.Math.Decide.{dec_le}
use Rattle.std.proofs.lemmas.List.{drop-append-le}
use Rattle.std.proofs.lemmas.Bool.{lt-leb}
use Rattle.octets.specs.Logic.{choose}
use Rattle.octets.specs.Put.{put, set_two, set_behind}
use Rattle.refusal.specs.Answer.{Answer, gives, refuses, refuse, gives_past, gives_rest, gives_same}
use Rattle.held.specs.Head as Head
use Rattle.held.specs.Reading as Store
use Rattle.held.specs.Rows.{all_here}
use Rattle.held.specs.Find.{found_event}
use Rattle.held.specs.Lies.{FindsEvent, FirstEvent}
use Rattle.held.specs.Theorems as Lists
use Rattle.held.specs.declared.Spot.{Spot}
use Rattle.model.specs.Client.{Held}
use Rattle.model.specs.Model.{Taken, none, packet}
use Rattle.model.specs.Reading.{Rooms, rooms, slots_of}
use Rattle.model.specs.Promise.{Done, Exact, output_of}
use Rattle.model.specs.BatchLaws.{exact_gave}
use Rattle.model.specs.Says.{shown_taken, bytes_of_taken, says_polled}
use Rattle.model.specs.Says as Says
use Rattle.model.specs.PollForEvents.{room_for, marks_each, marks_for}
use Rattle.model.specs.declared.Connection.{Connection}
use Rattle.model.specs.declared.Handed.{Handed}
use Rattle.model.specs.Moved.{moved_state}
use Rattle.polling.specs.Exact.{event_at, without, stays, moved, event_from, event_exact, EventStep}
use Rattle.polling.specs.Left.{event_is}
use Rattle.packet.specs.Packet.{least_packet, PacketClass, packet_class, class_number}
use Rattle.packet.specs.Class.{says_class, says_back}
use Rattle.model.specs.Sound.{ready}
use Rattle.batch.specs.Events.{placed, marked, room_left, TurnStep, Stored, marks_shown}
use Rattle.refusal.specs.declared.Refusal.{Refusal}
use Rattle.model.specs.declared.Polled.{Polled}

-- ---- what is found decides a poll

module _ (c : Connection) (s : List ℕ) (bytes : ℕ) where
  from_found : (x : Option Spot) → x ≡ found_event c.window s → (q f : List ℕ) → event_from c (rooms q s f) bytes x ≡ event_exact c (rooms q s f) bytes
  unfolding event_exact
  from_found x e q f = ap (event_from c (rooms q s f) bytes) e

  -- an event that has room
  pub from_place : (p : Spot) → Some p ≡ found_event c.window s → ltb bytes p.len ≡ false → (q f : List ℕ)
      → gives (moved (packet (event_at (rooms q s f) p)) c (rooms q s f) (without c (rooms q s f) p) (slots_of c (rooms q s f))) ≡ event_exact c (rooms q s f) bytes
  unfolding refuse
  from_place p e t q f =
      let z : gives (moved (packet (event_at (rooms q s f) p)) c (rooms q s f) (without c (rooms q s f) p) (slots_of c (rooms q s f))) ≡ event_from c (rooms q s f) bytes (Some p) = simp t in
      z ∙ from_found (Some p) e q f

module _ (c : Connection) (s : List ℕ) (R : Stored c s) (p : Spot) (F : FirstEvent c.window s p) where
  -- its packet is as long as is said there, and has 32 bytes
  place_packet : (event_at (rooms [] s []) p).packet ≡ F.it.packet
  place_packet = ap (λ (h : Held). h.packet) (event_is c (rooms R.requests s R.slots) R.sound p F)

  place_long : length (event_at (rooms [] s []) p).packet ≡ p.len
  place_long = ap length place_packet ∙ sym F.len

  pub place_least : least_packet ≤ p.len
  place_least =
      let fit = (ready c (rooms R.requests s R.slots) R.sound).held.readable.fit in
      let z = all_here Head.Fits F.lies.front F.it F.lies.back (subst (Store.All Head.Fits) F.lies.split fit) in
      omega (arith, z.least, F.len)

-- ---- a turn that hands out

pub record Out (c : Connection) (s : List ℕ) (bytes : ℕ) (x : Handed) (next : Connection) (s' : List ℕ) : Type 0 where
  pub it : Held
  pub marks : marks_shown x ≡ marks_for it
  pub long : x.length ≡ length it.packet
  pub least : least_packet ≤ x.length
  pub most : x.length ≤ bytes
  pub given : (q f : List ℕ) → gives (record { value = packet it; state = next; left = rooms q s' f }) ≡ event_exact c (rooms q s f) bytes

event_shown : (x y : Handed) → Says.packet x ≡ Says.packet y → x ≡ y
event_shown x y e = cc

no_shown : (x : Handed) → Says.packet x ≡ Says.none → ⊥
no_shown x e = let z : ◌≡◌ {A = ℕ} 0 1 = cc in omega arith

module _ (c : Connection) (s : List ℕ) (R : Stored c s) (bytes : ℕ) where
  pub out_is : (x : Handed) (next : Connection) (s' : List ℕ)
      → ((q f : List ℕ) → Exact shown_taken (event_exact c (rooms q s f) bytes) (rooms q s f) (gives (Says.packet x, next)) (rooms q s' f)) → Out c s bytes x next s'
  out_is x next s' X = go (found_event c.window s) refl (Lists.find_event_law c.window s)
    where
      go : (y : Option Spot) → y ≡ found_event c.window s → FindsEvent c.window s y → Out c s bytes x next s'
      go None e F =
          let z = exact_gave shown_taken _ _ _ _ _ (X [] []) in
          let d : z.0 ≡ stays none c (rooms [] s []) = gives_same (z.1 ∙ sym (from_found c s bytes None e [] [])) in
          absurd (no_shown x (z.2 ∙ ap (λ (y : Done Taken). shown_taken y.value) d))
      go (Some p) e F =
          let z = exact_gave shown_taken _ _ _ _ _ (X [] []) in
          let w : gives z.0 ≡ event_from c (rooms [] s []) bytes (Some p) = z.1 ∙ sym (from_found c s bytes (Some p) e [] []) in
          let t : ltb bytes p.len ≡ false = gives_past _ _ _ w in
          let d = gives_same (gives_rest _ _ _ w) in
          let v = event_shown _ _ (z.2 ∙ ap (λ (y : Done Taken). shown_taken y.value) d) in
          let ns : next ≡ moved_state c (without c (rooms [] s []) p).window c.counts = z.3 ∙ ap (λ (y : Done Taken). y.state) d in
          let ss : s' ≡ (without c (rooms [] s []) p).store = ap (λ (y : Rooms). y.store) (z.4 ∙ ap (λ (y : Done Taken). y.left) d) in
          let w : x.length ≡ length (event_at (rooms [] s []) p).packet = ap (λ (y : Handed). y.length) v in
          let l : x.length ≡ p.len = w ∙ place_long c s R p F in
          let m : p.len ≤ bytes = ltb-false bytes p.len t in
          record {
            it = event_at (rooms [] s []) p;
            marks = ap marks_shown v ∙ ap (λ (k : PacketClass). p.number ∷ length (event_at (rooms [] s []) p).packet ∷ class_number k ∷ []) (says_back (packet_class (event_at (rooms [] s []) p).packet));
            long = w;
            least = omega (arith, place_least c s R p F);
            most = omega arith;
            given = λ q f. (λ k. gives (record { value = packet (event_at (rooms [] s []) p); state = ns k; left = rooms q (ss k) f })) ∙ from_place c s bytes p e t q f;
          }

  -- one that finds none
  pub none_is : (c' : Connection) (s' : List ℕ) → ((q f : List ℕ) → Exact shown_taken (event_exact c (rooms q s f) bytes) (rooms q s f) (gives (Says.none, c')) (rooms q s' f))
      → ((q f : List ℕ) → gives (stays none c (rooms q s f)) ≡ event_exact c (rooms q s f) bytes) × (s' ≡ s)
  none_is c' s' X = go (found_event c.window s) refl
    where
      go : (x : Option Spot) → x ≡ found_event c.window s → ((q f : List ℕ) → gives (stays none c (rooms q s f)) ≡ event_exact c (rooms q s f) bytes) × (s' ≡ s)
      go None e =
          let z = exact_gave shown_taken _ _ _ _ _ (X [] []) in
          let d : z.0 ≡ stays none c (rooms [] s []) = gives_same (z.1 ∙ sym (from_found c s bytes None e [] [])) in
          (λ q f. from_found c s bytes None e q f, ap (λ (y : Rooms). y.store) (z.4 ∙ ap (λ (y : Done Taken). y.left) d))
      go (Some p) e =
          let z = exact_gave shown_taken _ _ _ _ _ (X [] []) in
          let d = gives_same (gives_rest _ _ _ (z.1 ∙ sym (from_found c s bytes (Some p) e [] []))) in
          absurd (no_shown _ (sym (z.2 ∙ ap (λ (y : Done Taken). shown_taken y.value) d)))

  -- a packet that is given has room
  pub given_room : (q f : List ℕ) (d : Done Taken) → gives d ≡ event_exact c (rooms q s f) bytes → length (bytes_of_taken d.value) ≤ bytes
  given_room q f d g = go (found_event c.window s) refl (Lists.find_event_law c.window s)
    where
      go : (x : Option Spot) → x ≡ found_event c.window s → FindsEvent c.window s x → length (bytes_of_taken d.value) ≤ bytes
      go None e F =
          let z : length (bytes_of_taken d.value) ≡ 0 = ap (λ (y : Done Taken). length (bytes_of_taken y.value)) (gives_same (g ∙ sym (from_found c s bytes None e q f))) in
          omega arith
      go (Some p) e F =
          let w : gives d ≡ event_from c (rooms q s f) bytes (Some p) = g ∙ sym (from_found c s bytes (Some p) e q f) in
          let z : length (bytes_of_taken d.value) ≡ length (event_at (rooms [] s []) p).packet = ap (λ (y : Done Taken). length (bytes_of_taken y.value)) (gives_same (gives_rest _ _ _ w)) in
          omega (arith, ltb-false bytes p.len (gives_past _ _ _ w), place_long c s R p F)

-- ---- the part of an output that is lent to a turn

part_put : (out v : List ℕ) (used n : ℕ) → used + n ≤ length out → length v ≤ n → take used out ++ (put (take n (drop used out)) 0 v ++ drop n (drop used out)) ≡ put out used v
unfolding put
part_put out v used n h k =
    let D = drop used out in
    let l : length (take n D) ≡ n = length-take-le n D (omega (arith, length-drop used out)) in
    let e : drop (0 + length v) (take n D) ++ drop n D ≡ drop (used + length v) out =
    sym (drop-append-le (0 + length v) (take n D) (drop n D) (omega arith))
    ∙ ap (drop (0 + length v)) (take-append-drop n D)
    ∙ drop-drop (0 + length v) used out
    ∙ (let z : used + (0 + length v) ≡ used + length v = omega arith in ap (λ (m : ℕ). drop m out) z) in
    ap (λ (y : List ℕ). take used out ++ y) (append_assoc v (drop (0 + length v) (take n D)) (drop n D) ∙ ap (λ (y : List ℕ). v ++ y) e)

part_none : (out : List ℕ) (used n : ℕ) → take used out ++ (take n (drop used out) ++ drop n (drop used out)) ≡ out
part_none out used n = ap (λ (y : List ℕ). take used out ++ y) (take-append-drop n (drop used out)) ∙ take-append-drop used out

part_placed : (g : Taken → List ℕ) (e : Answer (Done Taken)) (out : List ℕ) (used n : ℕ) → used + n ≤ length out → ((d : Done Taken) → gives d ≡ e → length (g d.value) ≤ n)
    → take used out ++ (output_of g e (take n (drop used out)) ++ drop n (drop used out)) ≡ placed g used e out
unfolding output_of placed
part_placed g (gives d) out used n h k = part_put out (g d.value) used n h (k d refl)
part_placed g (refuses m) out used n h k = part_none out used n

-- ---- the room of a turn

pub room_few : (marks room : ℕ) → marks < marks_each → 0 ≡ room_for (leb marks_each marks) room
unfolding room_for choose
room_few marks room h = simp (lt-leb marks_each marks h)

pub room_many : (marks room : ℕ) → marks_each ≤ marks → room ≡ room_for (leb marks_each marks) room
unfolding room_for choose
room_many marks room h = simp (le-leb marks_each marks h)

pub room_most : (marks room : ℕ) → room_for (leb marks_each marks) room ≤ room
room_most marks room = go (leb marks_each marks)
  where
    go : (b : Bool) → room_for b room ≤ room
    go true = omega (arith, room_many marks_each room (omega arith))
    go false = omega (arith, room_few 0 room (omega arith))

-- where a packet is given there are its marks
pub marks_there : (marks room len : ℕ) → least_packet ≤ len → len ≤ room_for (leb marks_each marks) room → marks_each ≤ marks
marks_there marks room len h k =
    elim (dec_le marks_each marks) [ yes p ↦ p | no q ↦ absurd (let z : ⊥ = omega (arith, room_few marks room (omega arith)) in z) ]

-- A turn needs marks where it hands a packet out,
pub turn_markable : (c : Connection) (s part out marks : List ℕ) (used at : ℕ) (z : Handed) (next : Connection) (s' part' : List ℕ) → Stored c s → length part ≡ room_left out marks used at
    → EventStep c s part (Ok (record { packet = Some z; connection = next })) s' part' → at + marks_each ≤ length marks
turn_markable c s part out marks used at z next s' part' R l x =
    let o = out_is c s R (length part) z next s' x.exact in
    omega (arith, marks_there (length marks - at) (length out - used) z.length o.least (omega (arith, o.most)))

-- and is what the poll is, with the packet at its place.
pub turn_is : (c : Connection) (s out marks : List ℕ) (used at n : ℕ) (a : Result Polled Refusal) (s' part' marks' : List ℕ) → Stored c s → n ≡ room_left out marks used at → used + n ≤ length out
    → EventStep c s (take n (drop used out)) a s' part' → marks' ≡ marked a at marks
    → TurnStep c s out marks used at a s' (take used out ++ (part' ++ drop n (drop used out))) marks'
turn_is c s out marks used at n a s' part' marks' R e h x m =
    let l : length (take n (drop used out)) ≡ n = length-take-le n (drop used out) (omega (arith, length-drop used out)) in
    let b : length (take n (drop used out)) ≡ room_left out marks used at = l ∙ e in
    record {
      exact = λ q f. subst (λ (y : ℕ). Exact shown_taken (event_exact c (rooms q s f) y) (rooms q s f) (says_polled a) (rooms q s' f)) b (x.exact q f);
      output = λ q f.
          ap (λ (y : List ℕ). take used out ++ (y ++ drop n (drop used out))) (x.output q f)
          ∙ ap (λ (y : ℕ). take used out ++ (output_of bytes_of_taken (event_exact c (rooms q s f) y) (take n (drop used out)) ++ drop n (drop used out))) l
          ∙ part_placed bytes_of_taken (event_exact c (rooms q s f) n) out used n h (given_room c s R n q f)
          ∙ ap (λ (y : ℕ). placed bytes_of_taken used (event_exact c (rooms q s f) y) out) e;
      marks_are = m;
    }

-- ---- marks

set_three : (s : List ℕ) (at x y z : ℕ) → at + 3 ≤ length s → set (set (set s at x) (at + 1) y) (at + 2) z ≡ put s at (x ∷ y ∷ z ∷ [])
set_three s at x y z h = ap (λ (l : List ℕ). set l (at + 2) z) (set_two s at x y (omega arith)) ∙ set_behind s at 2 (x ∷ y ∷ []) z refl (omega arith)

pub marked_as : (marks : List ℕ) (at : ℕ) (x : Handed) (k : ℕ) → k ≡ class_number (says_class x.class) → at + marks_each ≤ length marks
    → set (set (set marks at x.number.0) (at + 1) x.length) (at + 2) k ≡ put marks at (marks_shown x)
marked_as marks at x k e h = set_three marks at x.number.0 x.length k h ∙ ap (λ (n : ℕ). put marks at (x.number.0 ∷ x.length ∷ n ∷ [])) e
