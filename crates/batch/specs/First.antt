-- The short way out: a turn whose event is the oldest record. Assumes nothing.
use Rattle.std.specs.Prelude.{◌≡◌, refl, Bool, true, false, take, drop, get_or, Ok, Some}
use Rattle.std.proofs.Math.Path.{sym, ap, subst}
use Rattle.std.proofs.Common.{◌∙◌, le-ltb}
use mathlib.Core.List.{List, []}
use Prim.Native.Nat.{ℕ, ◌+◌, ◌-◌, ◌≤◌, ◌<◌}
use native.Mathlib.Omega.{arith}
use Rattle.std.proofs.Math.ListN.{length}
use Rattle.octets.specs.Put.{put, cut, length_cut}
use Rattle.refusal.specs.Answer.{Answer, gives}
use Rattle.sequence.specs.declared.SequenceNumber.{SequenceNumber}
use Rattle.packet.specs.Packet.{least_packet, class_of, packet_class}
use Rattle.packet.specs.Class.{says_class, classed, class_is}
use Rattle.packet.specs.declared.Class.{Class}
use Rattle.held.specs.Head.{header_size, event, num_of, len_of, kind_of}
use Rattle.held.specs.Reading.{Readable}
use Rattle.held.specs.Moves.{window, Left}
use Rattle.held.specs.First.{first_place, first_room, first_found, removed_first}
use Rattle.held.specs.declared.Spot.{Spot}
use Rattle.held.specs.Lies.{FindsEvent, FirstEvent}
use Rattle.held.specs.Theorems.{find_event_law}
use Rattle.model.specs.Model.{packet}
use Rattle.model.specs.Reading.{rooms, slots_of}
use Rattle.model.specs.Promise.{Exact, exact_given}
use Rattle.model.specs.PollForEvents.{marks_each}
use Rattle.model.specs.Says.{Shown, shown_taken, bytes_of_taken}
use Rattle.model.specs.Says as Says
use Rattle.model.specs.declared.Connection.{Connection}
use Rattle.model.specs.declared.Handed.{Handed}
use Rattle.model.specs.Moved.{moved_state}
use Rattle.polling.specs.Exact.{event_at, moved, event_exact}
use Rattle.polling.specs.Steps.{class_here}
use Rattle.model.specs.Sound.{ready}
use Rattle.batch.specs.Events.{placed, room_left, TurnStep, Stored, marks_shown}
use Rattle.batch.specs.EventsLaws.{from_place, room_many, place_least}

-- the oldest record is an event that has room
pub record EventFirst (c : Connection) (s : List ℕ) (room marks : ℕ) : Type 0 where
  pub some : c.window.start < c.window.end
  pub marked : marks_each ≤ marks
  pub kind : kind_of (drop c.window.start s) ≡ event
  pub fits : len_of (drop c.window.start s) ≤ room

abbrev pub IsFirst : Connection → List ℕ → ℕ → ℕ → Bool → Type 0
IsFirst c s room marks true = EventFirst c s room marks
IsFirst c s room marks false = Unit {0}

-- its header, with the least of packets and with its own, lies in the store
pub record FirstWithin (c : Connection) (s : List ℕ) : Type 0 where
  pub least : c.window.start + (header_size + least_packet) ≤ length s
  pub whole : c.window.start + (header_size + len_of (drop c.window.start s)) ≤ length s

-- the state without it
abbrev pub passed_state : Connection → ℕ → Connection
passed_state c len = moved_state c (window (c.window.start + (header_size + len)) c.window.end) c.counts

-- what is handed out
abbrev pub handed_first : SequenceNumber → ℕ → Class → Handed
handed_first number len class = record { number = number; length = len; descriptors = 0; class = class }

-- To hand it out is the turn.
pub record FirstTurn (c : Connection) (s out marks : List ℕ) (used at len : ℕ) (out' marks' : List ℕ) : Type 0 where
  pub number : SequenceNumber
  pub class : Class
  pub turn : TurnStep c s out marks used at (Ok (record { packet = Some (handed_first number len class); connection = (passed_state c len) })) s out' marks'
  pub room : c.window.start + (header_size + len) ≤ c.window.end

-- ---- laws

pub first_told : (c : Connection) (s : List ℕ) (room marks : ℕ) (b : Bool) → IsFirst c s room marks b → b ≡ true → EventFirst c s room marks
first_told c s room marks b F e = subst (IsFirst c s room marks) e F

pub first_turns : (c : Connection) (s out marks : List ℕ) (used at len : ℕ) (out' marks' : List ℕ) (F : FirstTurn c s out marks used at len out' marks') (next : Connection) → next ≡ passed_state c len
    → TurnStep c s out marks used at (Ok (record { packet = Some (handed_first F.number len F.class); connection = next })) s out' marks'
first_turns c s out marks used at len out' marks' F next e = subst (λ (y : Connection). TurnStep c s out marks used at (Ok (record { packet = Some (handed_first F.number len F.class); connection = y })) s out' marks') (sym e) F.turn

module _ (c : Connection) (s : List ℕ) (R : Stored c s) where
  readable : Readable c.window s
  readable = (ready c (rooms R.requests s R.slots) R.sound).held.readable

  pub first_within : c.window.start < c.window.end → FirstWithin c s
  first_within h = let z = first_room c.window s readable h in record { least = omega (arith, z.0, readable.within); whole = omega (arith, z.1, readable.within) }

  module _ (room marks : ℕ) (E : EventFirst c s room marks) where
    abbrev p : Spot
    p = first_place c.window s

    first_exact : (q f : List ℕ) → gives (record { value = packet (event_at (rooms q s f) p); state = passed_state c p.len; left = rooms q s f }) ≡ event_exact c (rooms q s f) room
    first_exact q f =
        ap (λ (l : Left). gives (moved (packet (event_at (rooms q s f) p)) c (rooms q s f) l (slots_of c (rooms q s f)))) (sym (removed_first c.window s p refl))
        ∙ from_place c s room p (first_found c.window s readable E.some E.kind) (le-ltb room p.len E.fits) q f

    first_long : length (event_at (rooms [] s []) p).packet ≡ p.len
    first_long = length_cut (p.at + header_size) p.len s (omega (arith, (first_within E.some).whole))

    class_first : class_of (get_or s (c.window.start + header_size) 0) ≡ packet_class (event_at (rooms [] s []) p).packet
    class_first =
        let F : FirstEvent c.window s p = subst (FindsEvent c.window s) (sym (first_found c.window s readable E.some E.kind)) (find_event_law c.window s) in
        class_here s p (omega (arith, place_least c s R p F))

  pub first_turn : (out marks : List ℕ) (used at : ℕ) → at ≤ length marks → EventFirst c s (length out - used) (length marks - at)
      → (len n : ℕ) → len ≡ len_of (drop c.window.start s) → n ≡ num_of (drop c.window.start s)
      → (end : ℕ) → end ≡ c.window.start + header_size + len
      → (out' : List ℕ) → out' ≡ put out used (take (end - (c.window.start + header_size)) (drop (c.window.start + header_size) s))
      → (j : Class) → says_class j ≡ class_of (get_or s (c.window.start + header_size) 0)
      → (marks' : List ℕ) → marks' ≡ put marks at (marks_shown (handed_first (record { 0 = n }) len j))
      → FirstTurn c s out marks used at len out' marks'
  unfolding placed cut
  first_turn out marks used at h E len n L N end D out' O j J marks' M =
      let room : ℕ = length out - used in
      let q₀ : Spot = first_place c.window s in
      let m : room ≡ room_left out marks used at = room_many (length marks - at) room E.marked in
      let x : (q f : List ℕ) → gives (record { value = packet (event_at (rooms q s f) q₀); state = passed_state c q₀.len; left = rooms q s f }) ≡ event_exact c (rooms q s f) (room_left out marks used at) =
      λ q f. first_exact room (length marks - at) E q f ∙ ap (event_exact c (rooms q s f)) m in
      let l : length (event_at (rooms [] s []) q₀).packet ≡ q₀.len = first_long room (length marks - at) E in
      let g : j ≡ classed (packet_class (event_at (rooms [] s []) q₀).packet) = class_is j _ (J ∙ class_first room (length marks - at) E) in
      let k : end - (c.window.start + header_size) ≡ q₀.len = omega arith in
      record {
        number = record { 0 = n };
        class = j;
        turn = record {
          exact = λ q f.
              subst (λ (y : Answer (Shown × Connection)). Exact shown_taken (event_exact c (rooms q s f) (room_left out marks used at)) (rooms q s f) y (rooms q s f))
              (λ i. gives (Says.packet (handed_first (record { 0 = sym N i }) ((l ∙ sym L) i) (sym g i)), passed_state c (sym L i)))
              (exact_given shown_taken (event_exact c (rooms q s f) (room_left out marks used at)) (rooms q s f) (record { value = packet (event_at (rooms q s f) q₀); state = passed_state c q₀.len; left = rooms q s f }) (x q f));
          output = λ q f.
              O ∙ ap (λ (y : ℕ). put out used (take y (drop (c.window.start + header_size) s))) k
              ∙ ap (λ y. placed bytes_of_taken used y out) (x q f);
          marks_are = M;
        };
        room = omega (arith, (first_room c.window s readable E.some).1);
      }
