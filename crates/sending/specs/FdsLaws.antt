-- How the moves of descriptors come out. Assumes nothing.
use Rattle.std.specs.Prelude.{◌≡◌, List, ℕ, ◌+◌, ◌≤◌, ◌<◌, Ok, Err}
use Rattle.std.proofs.Common.{sym, ◌∙◌, lt-ltb, le-ltb}
use Rattle.std.proofs.Math.Path.{ap}
use Rattle.std.proofs.Math.ListN.{length}
use Rattle.refusal.specs.Answer.{gives, refuse}
use Rattle.descriptors.specs.Room as Slots
use Rattle.descriptors.specs.Theorems as Fds
use Rattle.descriptors.specs.declared.Counts.{Counts}
use Rattle.descriptors.specs.Room.{most_descriptors}
use Rattle.model.specs.Reading.{rooms, slots_of}
use Rattle.model.specs.Promise.{answer_of, rooms_of, output_of, exact_refused, same}
use Rattle.model.specs.declared.Connection.{Connection}
use Rattle.refusal.specs.declared.Refusal.TheVariants as Refusal
use Rattle.model.specs.Moved.{moved_state}
use Rattle.sending.specs.Fds.{moved_to, enqueue_fds_exact, close_exact, EnqueueFdsStep, CloseStep}
use Rattle.refusal.specs.declared.Refusal.{Refusal}

module _ (c : Connection) (list f : List ℕ) where
  -- Over 256 are refused,
  pub enqueue_full : most_descriptors < Slots.total c.counts + length list → EnqueueFdsStep c list f (Err Refusal.NoRoom) f
  unfolding enqueue_fds_exact refuse
  enqueue_full h = record { exact = λ q s. exact_refused same _ _ 5 (simp (lt-ltb _ _ h)) }

  -- otherwise they wait.
  pub enqueue_done : (next : Connection) (n : Counts) (f' : List ℕ) → Slots.total c.counts + length list ≤ most_descriptors → next ≡ moved_state c c.window n
      → Slots.room f' n ≡ Slots.enqueue list (Slots.room f c.counts) → EnqueueFdsStep c list f (Ok next) f'
  unfolding enqueue_fds_exact refuse answer_of rooms_of
  enqueue_done next n f' h i e =
      record {
        exact = λ q s.
            let E : gives (moved_to tt c (rooms q s f) (Slots.enqueue list (slots_of c (rooms q s f)))) ≡ enqueue_fds_exact c (rooms q s f) list = simp (le-ltb _ _ h) in
            record {
              answers = (λ k. gives (tt, i k)) ∙ (λ k. gives (tt, moved_state c c.window (e k).counts)) ∙ ap (answer_of same) E;
              leaves = (λ k. rooms q s (e k).slots) ∙ ap (λ y. rooms_of y (rooms q s f)) E;
            };
      }

module _ (c : Connection) (f out : List ℕ) where
  -- An output with too few places is refused,
  pub close_short : length out < c.counts.closed → CloseStep c f out (Err Refusal.OutShort) f out
  unfolding close_exact refuse output_of
  close_short h =
      record {
        exact = λ q s. exact_refused length _ _ 8 (simp (lt-ltb _ _ h));
        output = λ q s. simp (lt-ltb _ _ h);
      }

  -- otherwise the close list is there.
  pub close_done : (next : Connection) (n : Counts) (f' out' : List ℕ) → Slots.Sound (Slots.room f c.counts) → c.counts.closed ≤ length out → next ≡ moved_state c c.window n
      → Slots.Gives (Slots.take_closed (Slots.room f c.counts)) (Slots.closing (Slots.room f c.counts)) out (Slots.room f' n) out'
      → CloseStep c f out (Ok (record { count = c.counts.closed; connection = next })) f' out'
  unfolding close_exact refuse answer_of rooms_of output_of
  close_done next n f' out' S h i g =
      record {
        exact = λ q s.
            let E : gives (moved_to (Slots.closing (slots_of c (rooms q s f))) c (rooms q s f) (Slots.take_closed (slots_of c (rooms q s f)))) ≡ close_exact c (rooms q s f) (length out) = simp (le-ltb _ _ h) in
            record {
              answers = (λ k. gives (sym (Fds.length_closing (Slots.room f c.counts) S) k, i k)) ∙ (λ k. gives (length (Slots.closing (Slots.room f c.counts)), moved_state c c.window (g.left k).counts))
                  ∙ ap (answer_of length) E;
              leaves = (λ k. rooms q s (g.left k).slots) ∙ ap (λ y. rooms_of y (rooms q s f)) E;
            };
        output = λ q s. g.given ∙ simp (le-ltb _ _ h);
      }
