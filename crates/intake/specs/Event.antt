-- The short way in: an event whose record goes behind the window as it stands, and that this is the step. Assumes nothing.
use Rattle.std.specs.Prelude.{◌≡◌, true, false, List, ℕ, ◌+◌, ◌≤◌, Option, Some, None, Result, Ok}
use Rattle.std.proofs.Math.Path.{refl, ap}
use Rattle.std.proofs.Common.{sym, ◌∙◌, arith}
use Rattle.std.proofs.Math.ListN.{length}
use borrow.Author.Tests.{le-ltb}
use Rattle.octets.specs.Logic.{both}
use Rattle.refusal.specs.Answer.{Answer, gives, refuse, pass}
use Rattle.sequence.specs.Numbering.{last_number, says_full}
use Rattle.sequence.specs.declared.SequenceNumber.{SequenceNumber}
use Rattle.packet.specs.Packet.{least_packet, most_packet, code_of, packet_class, is_event}
use Rattle.held.specs.Head.{header_size, held, event}
use Rattle.held.specs.Reading.{used}
use Rattle.held.specs.Moves.{left, Leaves, stays, behind, stays_room, append_behind}
use Rattle.held.specs.declared.Window.{Window}
use Rattle.model.specs.Model.{ahead}
use Rattle.model.specs.Model as Model
use Rattle.model.specs.Reading.{rooms}
use Rattle.model.specs.declared.Connection.{Connection}
use Rattle.model.specs.declared.Place.TheVariants as Place
use Rattle.filing.specs.Plan.{task, packet_number_in, asked_in, over_room, plan_by, plan_of, numbered_state}
use Rattle.filing.specs.Planned.{plan_file}
use Rattle.filing.specs.Theorems.{event_place, event_claims}
use Rattle.model.specs.Moved.{moved_state}
use Rattle.intake.specs.Exact.{Takeable, filing, carried_out, enqueue_exact}
use Rattle.intake.specs.Steps.{file_event}
use Rattle.refusal.specs.declared.Refusal.{Refusal}

-- what is asked of the state: the window lies in its store, and the last written is a full number
pub record Writable (c : Connection) (s : List ℕ) : Type 0 where
  pub within : c.window.end ≤ length s
  pub store : length s ≡ c.room
  pub written : c.written ≤ last_number

pub ready_writable : (c : Connection) (q s f : List ℕ) → Takeable c q s f → Writable c s
ready_writable c q s f R = record { within = R.within; store = R.store; written = R.numbers.written_most }

-- an event with the number n, which is not ahead, for which the window stays where it is
pub record PlainEvent (c : Connection) (s p : List ℕ) (n : ℕ) : Type 0 where
  pub event : is_event (packet_class p) ≡ true
  pub least : least_packet ≤ length p
  pub most : length p ≤ most_packet
  pub number : gives n ≡ packet_number_in c p
  pub asked : ahead (code_of p) n c.written ≡ false
  pub stays_there : stays c.window s (header_size + length p) ≡ true

abbrev pub IsPlain : Connection → List ℕ → List ℕ → Option SequenceNumber → Type 0
IsPlain c s p (Some n) = PlainEvent c s p n.0
IsPlain c s p None = Unit {0}

-- THE SHORT WAY leaves what the step gives, whatever the rooms that it is not lent.
pub record PlainStep (c : Connection) (s p : List ℕ) (n : ℕ) (a : Connection) (s' : List ℕ) : Type 0 where
  pub exact : (q f : List ℕ) → gives (record { value = filing Place.Events n p; state = a; left = rooms q s' f }) ≡ enqueue_exact c (rooms q s f) p

-- ---- laws

pub plain_numbered : (c : Connection) (s p : List ℕ) (x : Result SequenceNumber Refusal) → says_full x ≡ packet_number_in c p → (n : SequenceNumber) → x ≡ Ok n
    → ahead (code_of p) n.0 c.written ≡ false → is_event (packet_class p) ≡ true → least_packet ≤ length p → length p ≤ most_packet → stays c.window s (header_size + length p) ≡ true → PlainEvent c s p n.0
plain_numbered c s p x e n g a h least most t = record { event = h; least = least; most = most; number = ap says_full (sym g) ∙ e; asked = a; stays_there = t }

module _ (c : Connection) (s p : List ℕ) (n : ℕ) (W : Writable c s) (P : PlainEvent c s p n) where
  -- the record has its place behind the window
  pub plain_room : c.window.end + (header_size + length p) ≤ length s
  plain_room = stays_room c.window s (header_size + length p) P.stays_there

  -- it finds room
  over_no : over_room c Place.Events (length p) ≡ false
  unfolding over_room both
  over_no = le-ltb c.room (used c.window + (header_size + length p)) (omega (arith, plain_room, W.store))

  plan_plain : (a : Model.Asked) → plan_by c p n a ≡ gives (task Place.Events n 0 (packet_class p))
  plan_plain a =
      sym (plan_file c p n P.asked a a refl (packet_class p) refl Place.Events 0 (sym (event_place p P.event a)) (sym (event_claims p a (event_place p P.event a))) (omega arith) over_no)

  plan_is : (q : List ℕ) → plan_of c q p ≡ gives (task Place.Events n 0 (packet_class p))
  unfolding plan_of refuse pass
  plan_is q =
      let x : plan_of c q p ≡ pass (packet_number_in c p) (λ m. plan_by c p m (asked_in c q m)) = simp (le-ltb (length p) least_packet P.least, le-ltb most_packet (length p) P.most) in
      x
      ∙ ap (λ (z : Answer ℕ). pass z (λ m. plan_by c p m (asked_in c q m))) (sym P.number)
      ∙ plan_plain (asked_in c q n)

  -- THE SHORT WAY IS THE STEP.
  pub plain_step : (next : Connection) → next ≡ numbered_state c (code_of p) n → (w : Window) (s' : List ℕ) → Leaves (behind (left c.window s) (held n 0 event p)) w s'
      → (a : Connection) → a ≡ moved_state next w c.counts → PlainStep c s p n a s'
  unfolding enqueue_exact carried_out pass
  plain_step next N w s' L a A =
      let d : Connection = numbered_state c (code_of p) n in
      let B : a ≡ moved_state d w c.counts = A ∙ ap (λ (x : Connection). moved_state x w c.counts) N in
      let K = append_behind c.window s (held n 0 event p) w s' P.stays_there L in
      record {
        exact = λ q f.
            ap gives ((file_event d s f Place.Events 0 p w c.counts a B refl s' K refl).done q)
            ∙ ap (λ y. pass y (λ t. gives (carried_out c (rooms q s f) p t))) (sym (plan_is q));
      }
