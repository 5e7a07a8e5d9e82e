-- How the moves of slots come to what each step leaves. Assumes nothing.
use Rattle.std.specs.Prelude.{◌≡◌, ℕ, ◌+◌, ◌-◌, ◌≤◌, List, ◌++◌}
use Rattle.std.proofs.Common.{sym, ◌∙◌}
use Rattle.std.proofs.Math.Path.{ap}
use native.Mathlib.Omega.{arith}
use Rattle.std.proofs.Math.ListN.{length}
use Rattle.octets.specs.Put.{put, cut, cut_all, cut_cut}
use Rattle.descriptors.specs.Room.{total, counted, room, closing, holding, held_run, enqueue, close_run, close_waiting, close_held, remove_run, hand_out, take_closed, Gives}
use Rattle.descriptors.specs.declared.Counts.{Counts}

module _ (s s' : List ℕ) (c : Counts) where
  pub enqueue_step : (l : List ℕ) → s' ≡ put s (total c) (cut 0 (length l) l)
      → room s' (counted c.closed c.held (c.waiting + length l)) ≡ enqueue l (room s c)
  unfolding enqueue
  enqueue_step l e = λ j. room ((e ∙ ap (put s (total c)) (cut_all l)) j) (counted c.closed c.held (c.waiting + length l))

  -- two neighbours that change places behind the close list
  close_run_lem : (at n : ℕ) → s' ≡ put s c.closed (cut (c.closed + at) (c.closed + at + n - (c.closed + at)) s ++ cut c.closed (c.closed + at - c.closed) s) → s' ≡ close_run c.closed at n s
  unfolding close_run
  close_run_lem at n e =
      let p : c.closed + at + n - (c.closed + at) ≡ n = omega arith in
      let q : c.closed + at - c.closed ≡ at = omega arith in
      e ∙ (λ j. put s c.closed (cut (c.closed + at) (p j) s ++ cut c.closed (q j) s))

  pub close_waiting_step : (n : ℕ)
      → s' ≡ put s c.closed (cut (c.closed + c.held) (c.closed + c.held + n - (c.closed + c.held)) s ++ cut c.closed (c.closed + c.held - c.closed) s)
      → room s' (counted (c.closed + n) c.held (c.waiting - n)) ≡ close_waiting n (room s c)
  unfolding close_waiting
  close_waiting_step n e = λ j. room (close_run_lem c.held n e j) (counted (c.closed + n) c.held (c.waiting - n))

  pub close_held_step : (at n : ℕ)
      → s' ≡ put s c.closed (cut (c.closed + at) (c.closed + at + n - (c.closed + at)) s ++ cut c.closed (c.closed + at - c.closed) s)
      → room s' (counted (c.closed + n) (c.held - n) c.waiting) ≡ close_held at n (room s c)
  unfolding close_held
  close_held_step at n e = λ j. room (close_run_lem at n e j) (counted (c.closed + n) (c.held - n) c.waiting)

  -- a run copied out, and those behind it moved down
  pub hand_out_step : (at n : ℕ) (out out' : List ℕ) → at + n ≤ c.held → out' ≡ put out 0 (cut (c.closed + at) n s)
      → s' ≡ put s (c.closed + at) (cut (c.closed + at + n) (total c - (c.closed + at + n)) s)
      → Gives (hand_out at n (room s c)) (held_run at n (room s c)) out (room s' (counted c.closed (c.held - n) c.waiting)) out'
  unfolding hand_out remove_run held_run holding
  hand_out_step at n out out' h p e = record {
    left = λ j. room (e j) (counted c.closed (c.held - n) c.waiting);
    given = p ∙ ap (put out 0) (sym (cut_cut s c.closed c.held at n h));
  }

  pub take_closed_step : (out out' : List ℕ) → out' ≡ put out 0 (cut 0 c.closed s) → s' ≡ put s 0 (cut c.closed (c.held + c.waiting) s)
      → Gives (take_closed (room s c)) (closing (room s c)) out (room s' (counted 0 c.held c.waiting)) out'
  unfolding take_closed remove_run closing
  take_closed_step out out' p e =
      let q : c.closed ≡ 0 + c.closed = omega arith in
      let w : c.held + c.waiting ≡ total c - (0 + c.closed) = omega arith in
      record { left = λ j. room ((e ∙ (λ i. put s 0 (cut (q i) (w i) s))) j) (counted 0 c.held c.waiting); given = p }
