-- The loop over events: what was handed out stands in the outputs, and the rest leaves what the whole leaves. Assumes nothing.
use Rattle.std.specs.Prelude.{◌≡◌, Bool, true, ℕ, zero, suc, ◌+◌, ◌-◌, ◌*◌, ◌≤◌, leb, eqb, Result, Ok, Err, Some, None}
use Rattle.std.proofs.Math.Path.{refl, sym, ap, subst}
use Rattle.std.proofs.Common.{◌∙◌, le-leb, eq-eqb, ne_eqb}
use mathlib.Core.List.{List, [], ◌∷◌, ◌++◌, append-nil, append_assoc}
use native.Mathlib.Omega.{arith}
use Rattle.std.proofs.Math.ListN.{length, length-append}
use Rattle.octets.specs.Logic.{choose}
use Rattle.octets.specs.Put.{put, length_put, put_none, put_more}
use Rattle.refusal.specs.Answer.{Answer, gives, refuses}
use Rattle.refusal.specs.Numbers.{number_of}
use Rattle.refusal.specs.declared.Refusal.{Refusal}
use Rattle.model.specs.Client.{Held}
use Rattle.model.specs.Model.{none}
use Rattle.model.specs.Reading.{Rooms, rooms}
use Rattle.model.specs.Sound.{Sound}
use Rattle.model.specs.Promise.{answer_of, rooms_of, output_of}
use Rattle.model.specs.Batch.{goes, stops, onward, many, Stop, ended, refused, site, exact_turn}
use Rattle.model.specs.BatchLaws.{exact_stayed, row_goes, row_stops}
use Rattle.model.specs.Says.{shown_taken, bytes_of_taken}
use Rattle.model.specs.SaysBatch.{says_stop}
use Rattle.model.specs.PollForEvents.{turns, lent, room_for, handing, or_refused, packets_of, marks_of, shown_handings, packets_of_handings, marks_of_handings, marks_each, marks_for}
use Rattle.model.specs.declared.Connection.{Connection}
use Rattle.model.specs.declared.Handed.{Handed}
use Rattle.model.specs.declared.Events.{Events}
use Rattle.model.specs.declared.Stop.TheVariants as Stops
use Rattle.model.specs.declared.Stop as Declared
use Rattle.polling.specs.Exact.{stays, event_exact}
use Rattle.polling.specs.Theorems.{event_leaves}
use Rattle.batch.specs.Events.{event_step, handed_exact, events_exact, placed, room_left, TurnStep, stopped_by, Stored, EventsStep}
use Rattle.batch.specs.EventsLaws.{Out, out_is, none_is, room_most, marks_there}
use Rattle.model.specs.declared.Polled.{Polled}

-- ---- the turns, by the marks that are left

-- the first turn, and those after it
after : ℕ → List Bool
after zero = []
after (suc zero) = []
after (suc (suc zero)) = []
after (suc (suc (suc n))) = turns n

turns_first : (n : ℕ) → turns n ≡ leb marks_each n ∷ after n
unfolding turns after
turns_first zero = refl
turns_first (suc zero) = refl
turns_first (suc (suc zero)) = refl
turns_first (suc (suc (suc n))) = let z : true ≡ leb marks_each (suc (suc (suc n))) = sym (le-leb marks_each (suc (suc (suc n))) (omega arith)) in ap (λ (b : Bool). b ∷ turns n) z

after_many : (n : ℕ) → marks_each ≤ n → after n ≡ turns (n - marks_each)
unfolding after
after_many zero h = absurd (let z : ⊥ = omega arith in z)
after_many (suc zero) h = absurd (let z : ⊥ = omega arith in z)
after_many (suc (suc zero)) h = absurd (let z : ⊥ = omega arith in z)
after_many (suc (suc (suc n))) h = let z : suc (suc (suc n)) - marks_each ≡ n = omega arith in ap turns (sym z)

-- ---- rows of events

packets_append : (a b : List Held) → packets_of (a ++ b) ≡ packets_of a ++ packets_of b
unfolding packets_of
packets_append [] b = refl
packets_append (h ∷ a) b = ap (λ (l : List ℕ). h.packet ++ l) (packets_append a b) ∙ sym (append_assoc h.packet (packets_of a) (packets_of b))

packets_one : (h : Held) → packets_of (h ∷ []) ≡ h.packet
unfolding packets_of
packets_one h = append-nil h.packet

marks_append : (a b : List Held) → marks_of (a ++ b) ≡ marks_of a ++ marks_of b
unfolding marks_of
marks_append [] b = refl
marks_append (h ∷ a) b = ap (λ (l : List ℕ). marks_for h ++ l) (marks_append a b)

length_marks : (a : List Held) → length (marks_of a) ≡ marks_each * length a
unfolding marks_of
length_marks [] = refl
length_marks (h ∷ a) = let z = length_marks a in omega arith

-- ---- the invariant: c, s, out and marks are as `count` events left them, which took `used` bytes of the output

pub record Inv (c₀ : Connection) (s₀ out₀ marks₀ : List ℕ) (c : Connection) (s out marks : List ℕ) (used count : ℕ) : Type 0 where
  pub stored : Stored c s
  pub long : length s ≡ length s₀
  pub events : List Held
  pub counted : length events ≡ count
  pub filled : length (packets_of events) ≡ used
  pub used_most : used ≤ length out₀
  pub marks_most : marks_each * count ≤ length marks₀
  pub out_is : out ≡ put out₀ 0 (packets_of events)
  pub marks_are : marks ≡ put marks₀ 0 (marks_of events)
  pub out_long : length out ≡ length out₀
  pub marks_long : length marks ≡ length marks₀
  pub untouched : count ≡ 0 → s ≡ s₀
  pub rest : (q f : List ℕ) → many event_step ended (lent (site c₀ (rooms q s₀ f)) (length out₀)) (turns (length marks₀))
      ≡ onward events (many event_step ended (lent (site c (rooms q s f)) (length out₀ - used)) (turns (length marks₀ - marks_each * count)))

pub inv_start : (c : Connection) (s out marks : List ℕ) → Stored c s → Inv c s out marks c s out marks 0 0
unfolding packets_of marks_of
inv_start c s out marks R =
    record {
      stored = R;
      long = refl;
      events = [];
      counted = refl;
      filled = refl;
      used_most = omega arith;
      marks_most = omega arith;
      out_is = sym (put_none out 0);
      marks_are = sym (put_none marks 0);
      out_long = refl;
      marks_long = refl;
      untouched = λ e. refl;
      rest = λ q f. let a : length out - 0 ≡ length out = omega arith in let b : length marks - marks_each * 0 ≡ length marks = omega arith in
          (λ k. many event_step ended (lent (site c (rooms q s f)) (sym a k)) (turns (sym b k)));
    }

module _ (c₀ : Connection) (s₀ out₀ marks₀ : List ℕ) (c : Connection) (s out marks : List ℕ) (used count : ℕ) (I : Inv c₀ s₀ out₀ marks₀ c s out marks used count) where
  -- what a turn asks
  pub inv_asks : Stored c s × (used ≤ length out) × (marks_each * count ≤ length marks)
  inv_asks = (I.stored, omega (arith, I.used_most, I.out_long), omega (arith, I.marks_most, I.marks_long))

  -- the row that is left begins with a turn that has the room of this one
  room_is : room_left out marks used (marks_each * count) ≡ room_for (leb marks_each (length marks₀ - marks_each * count)) (length out₀ - used)
  room_is = λ k. room_for (leb marks_each (I.marks_long k - marks_each * count)) (I.out_long k - used)

  left_now : ℕ
  left_now = length marks₀ - marks_each * count

  ahead : (q f : List ℕ) → many event_step ended (lent (site c₀ (rooms q s₀ f)) (length out₀)) (turns (length marks₀))
      ≡ onward I.events (many event_step ended (lent (site c (rooms q s f)) (length out₀ - used)) (leb marks_each left_now ∷ after left_now))
  unfolding left_now
  ahead q f = I.rest q f ∙ ap (λ (y : List Bool). onward I.events (many event_step ended (lent (site c (rooms q s f)) (length out₀ - used)) y)) (turns_first (length marks₀ - marks_each * count))

  -- a turn that stops the row leaves it as it is
  stop_row : (w : Stop) (q f : List ℕ) → stops w ≡ event_step (lent (site c (rooms q s f)) (length out₀ - used)) (leb marks_each left_now)
      → many event_step ended (lent (site c₀ (rooms q s₀ f)) (length out₀)) (turns (length marks₀))
      ≡ record { values = I.events; stopped = w; end = lent (site c (rooms q s f)) (length out₀ - used) }
  stop_row w q f e =
      ahead q f
      ∙ row_stops event_step ended I.events (lent (site c (rooms q s f)) (length out₀ - used)) (leb marks_each left_now) (after left_now) w e
      ∙ (λ k. record { values = append-nil I.events k; stopped = w; end = lent (site c (rooms q s f)) (length out₀ - used) })

  -- a row that gives what it handed out
  row_gives : (stop : Declared.Stop)
      → ((q f : List ℕ) → events_exact c₀ (rooms q s₀ f) (length out₀) (length marks₀) ≡ gives (record { value = record { events = I.events; stopped = says_stop stop }; state = c; left = rooms q s f }))
      → EventsStep c₀ s₀ out₀ marks₀ (Ok (record { count = count; bytes = used; stop = stop; connection = c })) s out marks
  unfolding answer_of rooms_of output_of
  row_gives stop E =
      record {
        exact = λ q f. record {
          answers = (λ k. gives (record { count = sym I.counted k; bytes = sym I.filled k; stopped = says_stop stop }, c)) ∙ ap (answer_of shown_handings) (sym (E q f));
          leaves = ap (λ y. rooms_of y (rooms q s₀ f)) (sym (E q f));
        };
        output = λ q f. I.out_is ∙ ap (λ y. output_of packets_of_handings y out₀) (sym (E q f));
        marked = λ q f. I.marks_are ∙ ap (λ y. output_of marks_of_handings y marks₀) (sym (E q f));
      }

  -- or is refused, where that was nothing
  row_refused : (r : Refusal) → I.events ≡ [] → ((q f : List ℕ) → events_exact c₀ (rooms q s₀ f) (length out₀) (length marks₀) ≡ refuses (number_of r)) → EventsStep c₀ s₀ out₀ marks₀ (Err r) s out marks
  unfolding answer_of rooms_of output_of packets_of marks_of
  row_refused r n E =
      let z : count ≡ 0 = sym I.counted ∙ ap length n in
      record {
        exact = λ q f. record { answers = ap (answer_of shown_handings) (sym (E q f)); leaves = (λ k. rooms q (I.untouched z k) f) ∙ ap (λ y. rooms_of y (rooms q s₀ f)) (sym (E q f)) };
        output = λ q f. I.out_is ∙ ap (λ (l : List Held). put out₀ 0 (packets_of l)) n ∙ put_none out₀ 0 ∙ ap (λ y. output_of packets_of_handings y out₀) (sym (E q f));
        marked = λ q f. I.marks_are ∙ ap (λ (l : List Held). put marks₀ 0 (marks_of l)) n ∙ put_none marks₀ 0 ∙ ap (λ y. output_of marks_of_handings y marks₀) (sym (E q f));
      }

  -- ---- the end of the events

  or_ended : {B : Type 0} (vs : List Held) (a : Answer B) → or_refused vs ended a ≡ a
  unfolding or_refused
  or_ended [] a = refl
  or_ended (h ∷ vs) a = refl

  none_row : (q f : List ℕ) → gives (stays none c (rooms q s f)) ≡ event_exact c (rooms q s f) (room_left out marks used (marks_each * count)) → stops ended ≡ event_step (lent (site c (rooms q s f)) (length out₀ - used)) (leb marks_each left_now)
  unfolding event_step handing exact_turn left_now
  none_row q f e = ap (λ y. handing (length out₀ - used) (exact_turn y)) (e ∙ ap (event_exact c (rooms q s f)) room_is)

  pub inv_end : (a : Result Polled Refusal) (c' : Connection) (s' out' marks' : List ℕ) → a ≡ Ok (record { packet = None; connection = c' }) → TurnStep c s out marks used (marks_each * count) a s' out' marks'
      → EventsStep c₀ s₀ out₀ marks₀ (Ok (record { count = count; bytes = used; stop = Stops.End; connection = c })) s' out' marks'
  unfolding placed events_exact handed_exact
  inv_end a c' s' out' marks' e x =
      let y = subst (λ z. TurnStep c s out marks used (marks_each * count) z s' out' marks') e x in
      let n = none_is c s I.stored _ c' s' y.exact in
      let o : out' ≡ out = y.output [] [] ∙ ap (λ z. placed bytes_of_taken used z out) (sym (n.0 [] [])) ∙ put_none out used in
      subst (λ z. EventsStep c₀ s₀ out₀ marks₀ (Ok (record { count = count; bytes = used; stop = Stops.End; connection = c })) z out' marks') (sym n.1)
      (subst (λ z. EventsStep c₀ s₀ out₀ marks₀ (Ok (record { count = count; bytes = used; stop = Stops.End; connection = c })) s z marks') (sym o)
      (subst (λ z. EventsStep c₀ s₀ out₀ marks₀ (Ok (record { count = count; bytes = used; stop = Stops.End; connection = c })) s out z) (sym y.marks_are)
      (row_gives Stops.End (λ q f. ap handed_exact (stop_row ended q f (none_row q f (n.0 q f))) ∙ or_ended I.events _))))

  -- ---- a refusal

  stayed_row : (n : ℕ) (q f : List ℕ) → refuses n ≡ event_exact c (rooms q s f) (room_left out marks used (marks_each * count)) → stops (refused n) ≡ event_step (lent (site c (rooms q s f)) (length out₀ - used)) (leb marks_each left_now)
  unfolding event_step handing exact_turn left_now
  stayed_row n q f e = ap (λ y. handing (length out₀ - used) (exact_turn y)) (e ∙ ap (event_exact c (rooms q s f)) room_is)

  stop_answer : (r : Refusal) → ((q f : List ℕ) → refuses (number_of r) ≡ event_exact c (rooms q s f) (room_left out marks used (marks_each * count)))
      → EventsStep c₀ s₀ out₀ marks₀ (stopped_by count used r c) s out marks
  unfolding stopped_by choose events_exact handed_exact or_refused
  stop_answer r E = go I.events refl
    where
      row : (q f : List ℕ) → handed_exact (many event_step ended (lent (site c₀ (rooms q s₀ f)) (length out₀)) (turns (length marks₀)))
          ≡ or_refused I.events (refused (number_of r)) (gives (record { value = record { events = I.events; stopped = refused (number_of r) }; state = c; left = rooms q s f }))
      row q f = ap handed_exact (stop_row (refused (number_of r)) q f (stayed_row (number_of r) q f (E q f)))

      go : (l : List Held) → I.events ≡ l → EventsStep c₀ s₀ out₀ marks₀ (choose (eqb count 0) (Err r) (Ok (record { count = count; bytes = used; stop = (Stops.Refused r); connection = c }))) s out marks
      go [] e =
          let z : count ≡ 0 = sym I.counted ∙ ap length e in
          subst (λ b. EventsStep c₀ s₀ out₀ marks₀ (choose b (Err r) (Ok (record { count = count; bytes = used; stop = (Stops.Refused r); connection = c }))) s out marks) (sym (eq-eqb count 0 z))
          (row_refused r e (λ q f. row q f ∙ ap (λ (l : List Held). or_refused l (refused (number_of r)) (gives (record { value = record { events = I.events; stopped = refused (number_of r) }; state = c; left = rooms q s f }))) e))
      go (h ∷ l) e =
          let z : count ≡ 0 → ⊥ = λ y. (let w : length (h ∷ l) ≡ 0 = ap length (sym e) ∙ I.counted ∙ y in omega arith) in
          subst (λ b. EventsStep c₀ s₀ out₀ marks₀ (choose b (Err r) (Ok (record { count = count; bytes = used; stop = (Stops.Refused r); connection = c }))) s out marks) (sym (ne_eqb count 0 z))
          (row_gives (Stops.Refused r) (λ q f. row q f ∙ ap (λ (l : List Held). or_refused l (refused (number_of r)) (gives (record { value = record { events = I.events; stopped = refused (number_of r) }; state = c; left = rooms q s f }))) e))

  pub inv_stop : (a : Result Polled Refusal) (r : Refusal) (z : Result Events Refusal) (s' out' marks' : List ℕ) → a ≡ Err r → TurnStep c s out marks used (marks_each * count) a s' out' marks' → z ≡ stopped_by count used r c
      → EventsStep c₀ s₀ out₀ marks₀ z s' out' marks'
  unfolding placed
  inv_stop a r z s' out' marks' e x i =
      let y = subst (λ k. TurnStep c s out marks used (marks_each * count) k s' out' marks') e x in
      let n : (q f : List ℕ) → (refuses (number_of r) ≡ event_exact c (rooms q s f) (room_left out marks used (marks_each * count))) × (rooms q s' f ≡ rooms q s f) = λ q f. exact_stayed shown_taken _ _ _ _ (y.exact q f) in
      let o : out' ≡ out = y.output [] [] ∙ ap (λ k. placed bytes_of_taken used k out) (sym (n [] []).0) in
      subst (λ k. EventsStep c₀ s₀ out₀ marks₀ k s' out' marks') (sym i)
      (subst (λ k. EventsStep c₀ s₀ out₀ marks₀ (stopped_by count used r c) k out' marks') (sym (ap (λ (k : Rooms). k.store) (n [] []).1))
      (subst (λ k. EventsStep c₀ s₀ out₀ marks₀ (stopped_by count used r c) s k marks') (sym o)
      (subst (λ k. EventsStep c₀ s₀ out₀ marks₀ (stopped_by count used r c) s out k) (sym y.marks_are) (stop_answer r (λ q f. (n q f).0)))))

  -- ---- an event

  module _ (x : Handed) (next : Connection) (s' out' marks' : List ℕ) (y : TurnStep c s out marks used (marks_each * count) (Ok (record { packet = Some x; connection = next })) s' out' marks') (sl : length s' ≡ length s) where
    abbrev len : ℕ
    len = x.length

    given : Out c s (room_left out marks used (marks_each * count)) x next s'
    given = out_is c s I.stored (room_left out marks used (marks_each * count)) x next s' y.exact

    enough : marks_each ≤ left_now
    unfolding left_now
    enough = let g = given in marks_there (length marks₀ - marks_each * count) (length out₀ - used) len g.least (subst (λ (k : ℕ). len ≤ k) room_is g.most)

    fits : used + len ≤ length out₀
    fits =
        let g = given in
        let z = room_most (length marks₀ - marks_each * count) (length out₀ - used) in
        let m : len ≤ room_for (leb marks_each (length marks₀ - marks_each * count)) (length out₀ - used) = subst (λ (k : ℕ). len ≤ k) room_is g.most in
        omega (arith, I.used_most)

    goes_row : (q f : List ℕ) → goes given.it (lent (site next (rooms q s' f)) (length out₀ - (used + len))) ≡ event_step (lent (site c (rooms q s f)) (length out₀ - used)) (leb marks_each left_now)
    unfolding event_step handing exact_turn left_now
    goes_row q f =
        let g = given in
        let z : length out₀ - (used + len) ≡ length out₀ - used - length g.it.packet = omega (arith, g.long, I.used_most) in
        (λ k. goes g.it (lent (site next (rooms q s' f)) (z k))) ∙ ap (λ y. handing (length out₀ - used) (exact_turn y)) (g.given q f ∙ ap (event_exact c (rooms q s f)) room_is)

    next_inv : Inv c₀ s₀ out₀ marks₀ next s' out' marks' (used + len) (count + 1)
    unfolding placed left_now marks_of
    next_inv =
        let g = given in
        let h : Held = g.it in
        let o : out' ≡ put out used h.packet = y.output [] [] ∙ ap (λ k. placed bytes_of_taken used k out) (sym (g.given [] [])) in
        let ps : packets_of (I.events ++ (h ∷ [])) ≡ packets_of I.events ++ h.packet = packets_append I.events (h ∷ []) ∙ ap (λ (l : List ℕ). packets_of I.events ++ l) (packets_one h) in
        let ms : marks_of (I.events ++ (h ∷ [])) ≡ marks_of I.events ++ marks_for h = marks_append I.events (h ∷ []) in
        let tw : marks_each ≤ length marks₀ - marks_each * count = enough in
        let ft : used + len ≤ length out₀ = fits in
        let lm : length (marks_of I.events) ≡ marks_each * count = length_marks I.events ∙ ap (λ (k : ℕ). marks_each * k) I.counted in
        let mk : marks' ≡ put marks (marks_each * count) (marks_for h) = y.marks_are ∙ ap (put marks (marks_each * count)) g.marks in
        let ob : out' ≡ put out₀ 0 (packets_of (I.events ++ (h ∷ []))) = put_more out₀ out out' used (packets_of I.events) h.packet I.filled (omega (arith, g.long)) I.out_is o ∙ ap (put out₀ 0) (sym ps) in
        let mb : marks' ≡ put marks₀ 0 (marks_of (I.events ++ (h ∷ []))) = put_more marks₀ marks marks' (marks_each * count) (marks_of I.events) (marks_for h) lm (omega arith) I.marks_are mk ∙ ap (put marks₀ 0) (sym ms) in
        let lp : length (packets_of (I.events ++ (h ∷ []))) ≡ used + len = ap length ps ∙ length-append (packets_of I.events) h.packet ∙ (λ k. I.filled k + sym g.long k) in
        let lc : length (I.events ++ (h ∷ [])) ≡ count + 1 = length-append I.events (h ∷ []) ∙ ap (λ (k : ℕ). k + 1) I.counted in
        let lk : length (marks_of (I.events ++ (h ∷ []))) ≡ marks_each * (count + 1) = length_marks (I.events ++ (h ∷ [])) ∙ ap (λ (k : ℕ). marks_each * k) lc in
        let sd : Sound next (rooms I.stored.requests s' I.stored.slots) = event_leaves c (rooms I.stored.requests s I.stored.slots) I.stored.sound (room_left out marks used (marks_each * count)) _ (g.given I.stored.requests I.stored.slots) in
        record {
          stored = record { requests = I.stored.requests; slots = I.stored.slots; sound = sd };
          long = sl ∙ I.long;
          events = I.events ++ (h ∷ []);
          counted = lc;
          filled = lp;
          used_most = ft;
          marks_most = omega arith;
          out_is = ob;
          marks_are = mb;
          out_long = ap length ob ∙ length_put out₀ 0 (packets_of (I.events ++ (h ∷ []))) (omega arith);
          marks_long = ap length mb ∙ length_put marks₀ 0 (marks_of (I.events ++ (h ∷ []))) (omega arith);
          untouched = λ e. absurd (let z : ⊥ = omega arith in z);
          rest = λ q f.
              ahead q f
              ∙ row_goes event_step ended I.events (lent (site c (rooms q s f)) (length out₀ - used)) (leb marks_each (length marks₀ - marks_each * count)) (after (length marks₀ - marks_each * count)) h (lent (site next (rooms q s' f)) (length out₀ - (used + len))) (goes_row q f)
              ∙ ap (λ (l : List Bool). onward (I.events ++ (h ∷ [])) (many event_step ended (lent (site next (rooms q s' f)) (length out₀ - (used + len))) l)) (after_many (length marks₀ - marks_each * count) tw ∙ (let z : length marks₀ - marks_each * count - marks_each ≡ length marks₀ - marks_each * (count + 1) = omega arith in ap turns z));
        }

  module _ (a : Result Polled Refusal) (x : Handed) (next : Connection) (s' out' marks' : List ℕ) (e : a ≡ Ok (record { packet = Some x; connection = next })) (sl : length s' ≡ length s)
      (y : TurnStep c s out marks used (marks_each * count) a s' out' marks') where
    packet_turn_lem : TurnStep c s out marks used (marks_each * count) (Ok (record { packet = Some x; connection = next })) s' out' marks'
    packet_turn_lem = subst (λ z. TurnStep c s out marks used (marks_each * count) z s' out' marks') e y

    -- the invariant goes on
    pub inv_next : Inv c₀ s₀ out₀ marks₀ next s' out' marks' (used + x.length) (count + 1)
    inv_next = next_inv x next s' out' marks' packet_turn_lem sl
