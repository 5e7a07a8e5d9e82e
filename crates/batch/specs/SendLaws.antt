-- How many sends come out, turn by turn. Assumes nothing.
use Rattle.std.specs.Prelude.{◌≡◌, refl, List, [], ◌∷◌, ◌++◌, ℕ, ◌+◌, ◌≤◌, ◌<◌, length, drop, get_or, Result, Ok, Err}
use Rattle.std.proofs.Math.Path.{sym, ap}
use Rattle.std.proofs.Common.{◌∙◌, subst, append-nil, arith, add-one, drop_of_length-le, length-append, drop-cons, lt-ltb, le-ltb}
use Rattle.octets.specs.Logic.{choose}
use Rattle.refusal.specs.Answer.{gives}
use Rattle.requests.specs.Room.{capacity}
use Rattle.model.specs.Reading.{Rooms, rooms, reads}
use Rattle.model.specs.Promise.{answer_of, rooms_of, same}
use Rattle.model.specs.Sound.{Ranges, room_there}
use Rattle.model.specs.Batch.{goes, stops, onward, many, ended, refused, meaningless, Site, site, exact_turn, exact_many}
use Rattle.model.specs.BatchLaws.{exact_gave, exact_stayed, row_goes, row_stops, row_ends}
use Rattle.model.specs.SendRequests.{kinds, kind_of, sendings, shown_sendings}
use Rattle.model.specs.SaysBatch.{says_stop}
use Rattle.model.specs.declared.Connection.{Connection}
use Rattle.model.specs.declared.ReplyFdKind.{ReplyFdKind}
use Rattle.model.specs.declared.Sent.{Sent}
use Rattle.refusal.specs.Numbers.{number_of}
use Rattle.refusal.specs.declared.Refusal.{Refusal}
use Rattle.model.specs.declared.SentMany.{SentMany}
use Rattle.model.specs.declared.Stop.TheVariants as Stop
use Rattle.sequence.specs.declared.SequenceNumber.{SequenceNumber}
use Rattle.model.specs.declared.Stop as Declared
use Rattle.sending.specs.Send.{send_exact, SendStep}
use Rattle.sending.specs.Theorems.{send_sound}
use Rattle.batch.specs.Send.{send_step, sends_exact, answered, SoundWithSome, SendsStep}

-- ---- what a step of `sending` is as a turn

module _ (c : Connection) (q : List ℕ) (byte : ℕ) (h : byte < kinds) (s f : List ℕ) where
  step_is : send_step (site c (rooms q s f)) byte ≡ exact_turn (send_exact c (rooms q s f) (kind_of byte))
  unfolding send_step choose
  step_is = simp (lt-ltb byte kinds h)

  -- what a request that was sent leaves
  sent_done_lem : (kind : ReplyFdKind) → kind ≡ kind_of byte → (n : SequenceNumber) (next : Connection) (q' : List ℕ) → SendStep c kind q (Ok (record { number = n; connection = next })) q'
      → gives (record { value = n.0; state = next; left = rooms q' s f }) ≡ send_exact c (rooms q s f) (kind_of byte)
  sent_done_lem kind k n next q' x =
      let z = exact_gave same _ _ _ _ _ (x.exact s f) in
      (λ i. gives (record { value = z.2 i; state = z.3 i; left = z.4 i })) ∙ z.1 ∙ ap (send_exact c (rooms q s f)) k

  -- a request that was sent,
  step_goes : (kind : ReplyFdKind) → kind ≡ kind_of byte → (n : SequenceNumber) (next : Connection) (q' : List ℕ) → SendStep c kind q (Ok (record { number = n; connection = next })) q'
      → goes n.0 (site next (rooms q' s f)) ≡ send_step (site c (rooms q s f)) byte
  unfolding exact_turn
  step_goes kind k n next q' x = ap exact_turn (sent_done_lem kind k n next q' x) ∙ sym step_is

  -- and one that was refused
  step_stops : (kind : ReplyFdKind) → kind ≡ kind_of byte → (r : Refusal) (q' : List ℕ) → SendStep c kind q (Err r) q' → stops (refused (number_of r)) ≡ send_step (site c (rooms q s f)) byte
  unfolding exact_turn
  step_stops kind k r q' x = ap exact_turn ((exact_stayed same _ _ _ _ (x.exact s f)).0 ∙ ap (send_exact c (rooms q s f)) k) ∙ sym step_is

none_stops : (t : Site) (byte : ℕ) → kinds ≤ byte → stops meaningless ≡ send_step t byte
unfolding send_step choose
none_stops t byte h = simp (le-ltb byte kinds h)

-- ---- the loop: i requests were sent, and the rest leaves what the whole leaves

pub record Inv (c₀ : Connection) (q₀ bytes : List ℕ) (c : Connection) (q : List ℕ) (i : ℕ) : Type 0 where
  pub most : i ≤ length bytes
  pub ready : SoundWithSome c q
  pub long : length q ≡ length q₀
  pub numbers : List ℕ
  pub counted : length numbers ≡ i
  pub rest : (s f : List ℕ) → many send_step ended (site c₀ (rooms q₀ s f)) bytes ≡ onward numbers (many send_step ended (site c (rooms q s f)) (drop i bytes))

pub inv_start : (c : Connection) (q bytes : List ℕ) → SoundWithSome c q → Inv c q bytes c q 0
inv_start c q bytes R = record { most = omega arith; ready = R; long = refl; numbers = []; counted = refl; rest = λ s f. refl }

-- what a step asks of the state
pub inv_asks : (c₀ : Connection) (q₀ bytes : List ℕ) (c : Connection) (q : List ℕ) (i : ℕ) → Inv c₀ q₀ bytes c q i → Ranges c × (0 < capacity q)
inv_asks c₀ q₀ bytes c q i I = (I.ready.sound.numbers, room_there _ _ I.ready.sound)

-- a row that came to its end, as an answer
row_answer : (c₀ : Connection) (q₀ bytes numbers : List ℕ) (c : Connection) (q : List ℕ) (i : ℕ) (stop : Declared.Stop) → length numbers ≡ i
    → ((s f : List ℕ) → many send_step ended (site c₀ (rooms q₀ s f)) bytes ≡ onward numbers (record { values = []; stopped = says_stop stop; end = site c (rooms q s f) }))
    → SendsStep c₀ bytes q₀ (answered i stop c) q
unfolding sends_exact answer_of rooms_of reads
row_answer c₀ q₀ bytes numbers c q i stop n e =
    record {
      exact = λ s f.
          let E = e s f ∙ (λ k. record { values = append-nil numbers k; stopped = says_stop stop; end = site c (rooms q s f) }) in
          record {
            answers = (λ k. gives (record { count = sym n k; last = c.written; stopped = says_stop stop }, c)) ∙ ap (λ y. answer_of shown_sendings (gives (exact_many sendings y))) (sym E);
            leaves = ap (λ y. rooms_of (gives (exact_many sendings y)) (rooms q₀ s f)) (sym E);
          };
    }

module _ (c₀ : Connection) (q₀ bytes : List ℕ) (c : Connection) (q : List ℕ) (i : ℕ) (I : Inv c₀ q₀ bytes c q i) where
  -- The end of the bytes,
  pub inv_end : length bytes ≤ i → SendsStep c₀ bytes q₀ (answered (length bytes) Stop.End c) q
  inv_end h =
      row_answer c₀ q₀ bytes I.numbers c q (length bytes) Stop.End (omega (arith, I.counted, I.most))
      (λ s f. I.rest s f ∙ ap (λ y. onward I.numbers (many send_step ended (site c (rooms q s f)) y)) (drop_of_length-le bytes h) ∙ row_ends send_step ended I.numbers (site c (rooms q s f)))

  module _ (h : i < length bytes) (byte : ℕ) (b : byte ≡ get_or bytes i 0) where
    ahead : (s f : List ℕ) → many send_step ended (site c₀ (rooms q₀ s f)) bytes ≡ onward I.numbers (many send_step ended (site c (rooms q s f)) (byte ∷ drop (i + 1) bytes))
    ahead s f =
        I.rest s f
        ∙ ap (λ y. onward I.numbers (many send_step ended (site c (rooms q s f)) y)) (drop-cons bytes i 0 h ∙ (λ k. sym b k ∷ drop (sym (add-one i) k) bytes))

    -- a byte that is no kind,
    pub inv_none : kinds ≤ byte → SendsStep c₀ bytes q₀ (answered i Stop.NoKind c) q
    inv_none n =
        row_answer c₀ q₀ bytes I.numbers c q i Stop.NoKind I.counted
        (λ s f. ahead s f ∙ row_stops send_step ended I.numbers (site c (rooms q s f)) byte _ meaningless (none_stops (site c (rooms q s f)) byte n))

    module _ (below : byte < kinds) (kind : ReplyFdKind) (k : kind ≡ kind_of byte) where
      -- a refusal,
      pub inv_stop : (a : Result Sent Refusal) (r : Refusal) (q' : List ℕ) → a ≡ Err r → SendStep c kind q a q' → SendsStep c₀ bytes q₀ (answered i (Stop.Refused r) c) q'
      inv_stop a r q' w y =
          let x : SendStep c kind q (Err r) q' = subst (λ z. SendStep c kind q z q') w y in
          let l : q' ≡ q = ap (λ (y : Rooms). y.requests) (exact_stayed same _ _ _ _ (x.exact [] [])).1 in
          subst (λ y. SendsStep c₀ bytes q₀ (answered i (Stop.Refused r) c) y) (sym l)
          (row_answer c₀ q₀ bytes I.numbers c q i (Stop.Refused r) I.counted
          (λ s f. ahead s f ∙ row_stops send_step ended I.numbers (site c (rooms q s f)) byte _ (refused (number_of r)) (step_stops c q byte below s f kind k r q' x)))

      -- and a request that was sent.
      pub inv_next : (a : Result Sent Refusal) (n : SequenceNumber) (next : Connection) (q' : List ℕ) → a ≡ Ok (record { number = n; connection = next }) → length q' ≡ length q → SendStep c kind q a q' → Inv c₀ q₀ bytes next q' (i + 1)
      inv_next a n next q' w l y =
          let x : SendStep c kind q (Ok (record { number = n; connection = next })) q' = subst (λ z. SendStep c kind q z q') w y in
          record {
            most = omega arith;
            ready = record {
              store = I.ready.store;
              slots = I.ready.slots;
              sound = send_sound c (rooms q I.ready.store I.ready.slots) I.ready.sound (kind_of byte) _ (sent_done_lem c q byte below I.ready.store I.ready.slots kind k n next q' x);
            };
            long = l ∙ I.long;
            numbers = I.numbers ++ (n.0 ∷ []);
            counted = omega (arith, length-append I.numbers (n.0 ∷ []), I.counted);
            rest = λ s f. ahead s f ∙ row_goes send_step ended I.numbers (site c (rooms q s f)) byte _ n.0 (site next (rooms q' s f)) (step_goes c q byte below s f kind k n next q' x);
          }

-- an answer that is known
pub told : (c : Connection) (bytes q : List ℕ) (q' : List ℕ) (a b : Result SentMany Refusal) → a ≡ b → SendsStep c bytes q b q' → SendsStep c bytes q a q'
told c bytes q q' a b e x = subst (λ y. SendsStep c bytes q y q') (sym e) x
