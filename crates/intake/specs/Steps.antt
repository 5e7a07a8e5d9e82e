-- How filing and the step come out, each way. Assumes nothing.
use Rattle.std.specs.Prelude.{◌≡◌, List, ℕ, ◌<◌, length, Result, Ok, Err}
use Rattle.std.proofs.Common.{sym, ◌∙◌, subst, arith}
use Rattle.std.proofs.Math.Path.{ap}
use Rattle.refusal.specs.Answer.{gives, pass}
use Rattle.refusal.specs.Numbers.{number_of}
use Rattle.refusal.specs.declared.Refusal.{Refusal}
use Rattle.held.specs.Head.{held, reply, event}
use Rattle.held.specs.Moves.{Leaves, appended}
use Rattle.held.specs.declared.Window.{Window}
use Rattle.descriptors.specs.Room as Slots
use Rattle.descriptors.specs.declared.Counts.{Counts}
use Rattle.packet.specs.Packet.{code_of}
use Rattle.packet.specs.Class.{says_class}
use Rattle.model.specs.Model.{Filing}
use Rattle.model.specs.Reading.{rooms}
use Rattle.model.specs.Promise.{exact_refused, exact_given, same}
use Rattle.model.specs.declared.Connection.{Connection}
use Rattle.model.specs.declared.Place.{Place}
use Rattle.filing.specs.declared.Plan.{Plan}
use Rattle.filing.specs.Plan.{says_plan, plan_of, numbered_state}
use Rattle.filing.specs.Planned.{Planned, planned}
use Rattle.model.specs.Moved.{moved_state}
use Rattle.intake.specs.Exact.{Takeable, filing, filed_as, MayFile, FileDone, carried_out, enqueue_exact, EnqueueStep}

-- ---- filing

module _ (c : Connection) (s f : List ℕ) (place : Place) (k : ℕ) (p : List ℕ) (w : Window) (n : Counts) (a : Connection) (A : a ≡ moved_state c w n) where
  pub file_reply : place ≡ Place.Replies → (s' : List ℕ) → Leaves (appended c.window s (held c.read k reply p)) w s' → n ≡ Slots.hold_counts k c.counts → FileDone c s f place k p a s' f
  unfolding Slots.hold
  file_reply e s' l h = record {
    done = λ q.
        (λ i. record { value = filing place c.read p; state = (A ∙ (λ j. moved_state c (l.window j) (h j))) i; left = rooms q (l.store i) f })
        ∙ (λ i. record {
          value = filing (e i) c.read p;
          state = moved_state c (appended c.window s (held c.read k reply p)).window (Slots.hold_counts k c.counts);
          left = rooms q (appended c.window s (held c.read k reply p)).store f;
        })
        ∙ ap (λ (x : Place). filed_as x c (rooms q s f) k p) (sym e);
  }

  pub file_event : place ≡ Place.Events → (s' : List ℕ) → Leaves (appended c.window s (held c.read 0 event p)) w s' → n ≡ c.counts → FileDone c s f place k p a s' f
  file_event e s' l h = record {
    done = λ q.
        (λ i. record { value = filing place c.read p; state = (A ∙ (λ j. moved_state c (l.window j) (h j))) i; left = rooms q (l.store i) f })
        ∙ (λ i. record {
          value = filing (e i) c.read p;
          state = moved_state c (appended c.window s (held c.read 0 event p)).window c.counts;
          left = rooms q (appended c.window s (held c.read 0 event p)).store f;
        })
        ∙ ap (λ (x : Place). filed_as x c (rooms q s f) k p) (sym e);
  }

  pub file_dropped : place ≡ Place.Dropped → (f' : List ℕ) → w ≡ c.window → Slots.room f' n ≡ Slots.close_waiting k (Slots.room f c.counts) → FileDone c s f place k p a s f'
  file_dropped e f' v h = record {
    done = λ q.
        (λ i. record { value = filing place c.read p; state = (A ∙ (λ j. moved_state c (v j) (h j).counts)) i; left = rooms q s (h i).slots })
        ∙ (λ i. record {
          value = filing (e i) c.read p;
          state = moved_state c c.window (Slots.close_waiting k (Slots.room f c.counts)).counts;
          left = rooms q s (Slots.close_waiting k (Slots.room f c.counts)).slots;
        })
        ∙ ap (λ (x : Place). filed_as x c (rooms q s f) k p) (sym e);
  }

-- ---- the step

module _ (c : Connection) (q s f p : List ℕ) (x : Result Plan Refusal) (e : says_plan x ≡ plan_of c q p) where
  pub step_stop : (r : Refusal) → x ≡ Err r → EnqueueStep c q s f p (Err r) s f
  unfolding enqueue_exact pass
  step_stop r g = record {
    exact = exact_refused same (enqueue_exact c (rooms q s f) p) (rooms q s f) (number_of r) (ap (λ z. pass z (λ t. gives (carried_out c (rooms q s f) p t))) (ap says_plan (sym g) ∙ e));
  }

  module _ (t : Plan) (g : x ≡ Ok t) where
    pub step_planned : Planned c q p (record { place = t.place; number = t.number.0; claimed = t.fds; class = says_class t.class })
    step_planned = planned c q p _ (ap says_plan (sym g) ∙ e)

    pub step_some : 0 < length p
    step_some = omega (arith, step_planned.least)

    module _ (next : Connection) (N : next ≡ numbered_state c (code_of p) t.number.0) where
      pub step_may : Takeable c q s f → MayFile next s f t.place t.fds (length p)
      step_may R =
          let P = step_planned in
          subst (λ (y : Connection). MayFile y s f t.place t.fds (length p)) (sym N)
          (record {
            slots = R.slots;
            some = P.some;
            room = λ h. record { order = R.order; within = R.within; most = P.most; room = omega (arith, P.room h, R.store) };
          })

      pub step_file : (a : Connection) (s' f' : List ℕ) → FileDone next s f t.place t.fds p a s' f' → EnqueueStep c q s f p (Ok (record { place = t.place; number = t.number; class = t.class; connection = a })) s' f'
      unfolding enqueue_exact carried_out pass
      step_file a s' f' d =
          let v : Filing = record { place = t.place; number = t.number.0; class = says_class t.class } in
          let z : record { value = v; state = a; left = rooms q s' f' } ≡ filed_as t.place (numbered_state c (code_of p) t.number.0) (rooms q s f) t.fds p =
          (λ i. record { value = record { place = t.place; number = (sym N i).read; class = step_planned.class_is i }; state = a; left = rooms q s' f' }) ∙ d.done q ∙ ap (λ (y : Connection). filed_as t.place y (rooms q s f) t.fds p) N in
          record {
            exact = exact_given same (enqueue_exact c (rooms q s f) p) (rooms q s f) (record { value = v; state = a; left = rooms q s' f' })
                (ap gives z ∙ ap (λ y. pass y (λ u. gives (carried_out c (rooms q s f) p u))) (ap says_plan (sym g) ∙ e));
          }
