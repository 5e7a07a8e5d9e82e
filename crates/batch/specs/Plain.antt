-- A turn over an event of 32 bytes that goes the short way in. Assumes nothing.
use Rattle.std.specs.Prelude.{◌≡◌, false, List, ℕ, ◌≤◌, length, take, Option, Some, None}
use Rattle.std.proofs.Common.{ap, subst, length-take-le}
use Rattle.sequence.specs.declared.SequenceNumber.{SequenceNumber}
use Rattle.packet.specs.Packet.{least_packet, packet_class, has_length}
use Rattle.packet_reader.specs.Front.{Front, whole, front_fixed}
use Rattle.intake.specs.Exact.{enqueue_exact}
use Rattle.intake.specs.Event.{Writable, PlainEvent, IsPlain, PlainStep, ready_writable}
use Rattle.intake.specs.Theorems.{takeable}
use Rattle.model.specs.Reading.{rooms}
use Rattle.model.specs.Promise.{answer_of, rooms_of, same}
use Rattle.model.specs.Sound.{Sound}
use Rattle.model.specs.Batch.{site}
use Rattle.model.specs.declared.Connection.{Connection}
use Rattle.std.specs.Prelude.{Ok}
use Rattle.batch.specs.Feed.{turn_by, TurnIs, FrontTurn}
use Rattle.batch.specs.FeedLoop.{took_on}

-- the bytes begin with such an event, and its number is n
pub record EventAhead (c : Connection) (s b : List ℕ) (n : ℕ) : Type 0 where
  pub there : least_packet ≤ length b
  pub short : has_length (packet_class b) ≡ false
  pub plain : PlainEvent c s (take least_packet b) n

abbrev pub IsAhead : Connection → List ℕ → List ℕ → Option SequenceNumber → Type 0
IsAhead c s b (Some n) = EventAhead c s b n.0
IsAhead c s b None = Unit {0}

-- To take it in is the turn over the bytes ahead, whatever the byte order and the rooms that are not lent.
pub record PlainTurn (c : Connection) (s b : List ℕ) (a : Connection) (s' : List ℕ) : Type 0 where
  pub turn : (o : ℕ) (q f : List ℕ) → FrontTurn o c q s f b (Ok (record { bytes = least_packet; connection = a })) s' f

-- ---- laws

pub ahead_is : (c : Connection) (s b : List ℕ) (x : Option SequenceNumber) → least_packet ≤ length b → has_length (packet_class b) ≡ false → IsPlain c s (take least_packet b) x → IsAhead c s b x
ahead_is c s b (Some n) h e P = record { there = h; short = e; plain = P }
ahead_is c s b None h e P = tt

pub plain_turn : (c : Connection) (s b : List ℕ) (n : ℕ) (a : Connection) (s' : List ℕ) → EventAhead c s b n → PlainStep c s (take least_packet b) n a s' → PlainTurn c s b a s'
unfolding turn_by answer_of rooms_of
plain_turn c s b n a s' A S =
    let l : length (take least_packet b) ≡ least_packet = length-take-le least_packet b A.there in
    record {
      turn = λ o q f.
          subst (λ (y : Front). TurnIs (turn_by (site c (rooms q s f)) b y) (rooms q s f) (Ok (record { bytes = least_packet; connection = a })) (rooms q s' f)) (front_fixed o b A.there A.short)
          (subst (λ (k : ℕ). TurnIs (turn_by (site c (rooms q s f)) b (whole least_packet (packet_class b))) (rooms q s f) (Ok (record { bytes = k; connection = a })) (rooms q s' f)) l
          (took_on (length (take least_packet b)) (enqueue_exact c (rooms q s f) (take least_packet b)) (rooms q s f) (rooms q s' f) _ a (ap (answer_of same) (S.exact q f)) (ap (λ y. rooms_of y (rooms q s f)) (S.exact q f))));
    }

pub ahead_event : (c : Connection) (s b : List ℕ) (x : Option SequenceNumber) (n : SequenceNumber) → IsAhead c s b x → x ≡ Some n → EventAhead c s b n.0
ahead_event c s b x n A e = subst (IsAhead c s b) e A

pub sound_writable : (c : Connection) (q s f : List ℕ) → Sound c (rooms q s f) → Writable c s
sound_writable c q s f S = ready_writable c q s f (takeable c (rooms q s f) S)
