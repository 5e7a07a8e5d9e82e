-- That discarding, put together, is exact. Assumes nothing.
use Rattle.std.specs.Prelude.{◌≡◌, length, take, drop, Some, None}
use Rattle.std.proofs.Math.Path.{refl, sym, ap, subst}
use Rattle.std.proofs.Common.{◌∙◌, arith, take-append-drop, length-drop, take_all}
use mathlib.Core.List.{List, [], ◌∷◌, ◌++◌}
use Prim.Native.Nat.{ℕ, zero, suc, ◌+◌, ◌-◌, ◌≤◌, ◌<◌}
use Rattle.octets.specs.Put.{put, cut, put_same, cut_none}
use Rattle.held.specs.Head as Head
use Rattle.held.specs.Reading as Store
use Rattle.held.specs.Reading.{fds_in, All, Rising}
use Rattle.held.specs.Rows.{fds_in_append}
use Rattle.held.specs.Find.{found_reply}
use Rattle.held.specs.Moves.{Left, left}
use Rattle.held.specs.Lies.{Other, FirstReply, FindsReply}
use Rattle.held.specs.Theorems as Held
use Rattle.held.specs.declared.Window.{Window}
use Rattle.held.specs.declared.Spot.{Spot}
use Rattle.held.specs.Tally.{own, lower, higher}
use Rattle.descriptors.specs.Room as Slots
use Rattle.descriptors.specs.Theorems as Fds
use Rattle.descriptors.specs.declared.Counts.{Counts}
use Rattle.model.specs.Reading.{rooms}
use Rattle.model.specs.Sound.{Ready}
use Rattle.model.specs.declared.Connection.{Connection}
use Rattle.model.specs.declared.DiscardMode.{DiscardMode}
use Rattle.model.specs.Moved.{moved_state}
use Rattle.discarding.specs.Runs.{no_lower, lower_is, lower_not, rising_split}
use Rattle.discarding.specs.Exact.{mode_set, turn_of, turn_at, fds_below, fds_before, fds_from, closed_round, discard_slots, cleared, discard_left, discard_exact, Counted, Sweepable, Sweeps, DiscardStep}
use Rattle.discarding.specs.Rows.{own_none, own_found}
use Rattle.discarding.specs.Steps.{Keeps, cleared_keeps, cleared_add}

-- before the first of a number stand those of lower numbers
rising_on : (from : ℕ) (a : List Head.Record) (it : Head.Record) (b : List Head.Record) → Rising from (a ++ (it ∷ b)) → (from ≤ it.number) × Rising it.number b
unfolding Rising
rising_on from [] it b R = (R.0, R.1)
rising_on from (x ∷ a) it b R = let h = rising_on x.number a it b R.1 in (omega (arith, R.0, h.0), h.1)

lower_before : (n from : ℕ) (a : List Head.Record) (it : Head.Record) (b : List Head.Record) → it.number ≡ n → All (Other n) a → Rising from (a ++ (it ∷ b)) → lower n (a ++ (it ∷ b)) ≡ a
unfolding Rising All
lower_before n from [] it b e p R = lower_not n it b (omega arith) ∙ no_lower n it.number b (omega arith) R.1
lower_before n from (x ∷ a) it b e p R =
    let h = rising_on x.number a it b R.1 in
    let l : x.number < n = below x.number n (omega (arith, h.0)) p.0 in
    lower_is n x (a ++ (it ∷ b)) l ∙ ap (λ (k : List Head.Record). x ∷ k) (lower_before n x.number a it b e p.1 R.1)
  where
    below : (i j : ℕ) → i ≤ j → (i ≡ j → ⊥) → i < j
    below i j h d = omega arith

-- closing none changes nothing
close_none : (at : ℕ) (d : Slots.Room) → Slots.Sound d → at ≤ d.counts.held → Slots.close_held at 0 d ≡ d
unfolding Slots.close_held Slots.close_run
close_none at d S h =
    let c = d.counts in
    let a : c.closed + 0 ≡ c.closed = omega arith in
    let b : c.held - 0 ≡ c.held = omega arith in
    let e : put d.slots c.closed (cut (c.closed + at) 0 d.slots ++ cut c.closed at d.slots) ≡ d.slots =
    ap (λ (x : List ℕ). put d.slots c.closed (x ++ cut c.closed at d.slots)) (cut_none d.slots (c.closed + at))
    ∙ put_same d.slots c.closed at (omega (arith, S.long, S.most)) in
    λ k. record { slots = e k; counts = record { closed = a k; held = b k; waiting = c.waiting } }

-- ---- where a call stands on its way: the mode is set;
pub record ModeSet : Type 0 where
  pub c : Connection
  pub n : ℕ
  pub m : DiscardMode
  pub q : List ℕ
  pub s : List ℕ
  pub f : List ℕ
  pub ready : Ready c s f
  pub q' : List ℕ
  pub set : q' ≡ mode_set c q n m

-- a reply of the number is found, and how many there are is known;
pub record Met (x : ModeSet) : Type 0 where
  pub p : Spot
  pub found : Some p ≡ found_reply x.n x.c.window x.s
  pub r : ℕ
  pub k : ℕ
  pub counted : Counted x.c x.s x.n r k

-- the first of them are gone;
pub record Half (x : ModeSet) (y : Met x) : Type 0 where
  pub t : ℕ
  pub turn : (t ≡ turn_of x.m y.r y.k) × (t ≤ y.r)
  pub w₁ : Window
  pub u : ℕ
  pub s₁ : List ℕ
  pub first : Sweeps x.n x.m t x.c.window x.s w₁ u s₁

-- all are gone.
pub record Whole (x : ModeSet) (y : Met x) (z : Half x y) : Type 0 where
  pub w₂ : Window
  pub v : ℕ
  pub s₂ : List ℕ
  pub rest : Sweeps x.n x.m (y.r - z.t) z.w₁ z.s₁ w₂ v s₂

module _ (x : ModeSet) where
  open x use {c, n, m, q, s, f, ready as R, q', set as Q}

  abbrev rs : List Head.Record
  rs = Store.replies c.window s

  abbrev d : Slots.Room
  d = Slots.room f c.counts

  all_fds : fds_below n rs + (fds_in (own n rs) + fds_in (higher n rs)) ≡ c.counts.held
  all_fds = sym (ap fds_in (rising_split n 0 rs R.held.rising) ∙ fds_in_append (lower n rs) (own n rs ++ higher n rs) ∙ ap (λ (x : ℕ). fds_below n rs + x) (fds_in_append (own n rs) (higher n rs))) ∙ R.descriptors

  -- Where there is none of the number, only the mode is set.
  pub discard_none : None ≡ found_reply n c.window s → DiscardStep c n m q s f c q' s f
  unfolding discard_exact closed_round cleared fds_in
  discard_none e =
      let F : All (Other n) rs = subst (FindsReply n c.window s) (sym e) (Held.find_reply_law n c.read c.window s R.held) in
      let z : own n rs ≡ [] = own_none n rs F in
      let t : (k : ℕ) → fds_in (take k (own n rs)) ≡ 0 = λ k. part_none k (own n rs) z in
      let v : (k : ℕ) → fds_in (drop k (own n rs)) ≡ 0 = λ k. rest_none k (own n rs) z in
      let D : d ≡ discard_slots m n rs d =
      sym (ap (Slots.close_held (fds_below n rs) 0) (close_none (fds_below n rs + 0) d R.slots (omega (arith, all_fds))) ∙ close_none (fds_below n rs) d R.slots (omega (arith, all_fds)))
      ∙ (λ k. Slots.close_held (fds_below n rs) (sym (t (turn_at m n rs)) k) (Slots.close_held (fds_below n rs + sym (t (turn_at m n rs)) k) (sym (v (turn_at m n rs)) k) d)) in
      let L : left c.window s ≡ discard_left c (rooms q s f) n m = ap (λ a. cleared (length a) m n (left c.window s)) (sym z) in
      record { state = λ k. moved_state c (L k).window (D k).counts; leaves = λ k. rooms (Q k) (L k).store (D k).slots }
    where
      part_none : (k : ℕ) (a : List Head.Record) → a ≡ [] → fds_in (take k a) ≡ 0
      part_none k a z = ap (λ x. fds_in (take k x)) z ∙ nil k
        where
          nil : (j : ℕ) → fds_in (take j []) ≡ 0
          nil zero = refl
          nil (suc j) = refl

      rest_none : (k : ℕ) (a : List Head.Record) → a ≡ [] → fds_in (drop k a) ≡ 0
      rest_none k a z = ap (λ x. fds_in (drop k x)) z ∙ nil k
        where
          nil : (j : ℕ) → fds_in (drop j []) ≡ 0
          nil zero = refl
          nil (suc j) = refl

  pub sweepable : Sweepable n c.window s
  sweepable = record { last = c.read; sound = R.held; few = omega (arith, all_fds, R.slots.most) }

  -- Where there is one:
  module _ (y : Met x) where
    open y use {p, found as e, r, k, counted as C}

    F : FirstReply n c.window s p
    F = subst (FindsReply n c.window s) (sym e) (Held.find_reply_law n c.read c.window s R.held)

    own_first : own n rs ≡ F.it ∷ own n (F.before ++ F.after)
    own_first = ap (own n) F.split ∙ own_found n F.it F.after F.is F.before F.none

    pub some_own : 0 < r
    some_own = omega (arith, C.count_own, ap length own_first)

    below_is : p.before ≡ fds_below n rs
    below_is =
        F.count
        ∙ ap fds_in (sym (ap (lower n) F.split ∙ lower_before n 0 F.before F.it F.after F.is F.none (subst (Rising 0) F.split R.held.rising)))

    module _ (z : Half x y) where
      open z use {t, turn as T, w₁, u, s₁, first as A}

      kept : Keeps c.read n t (left c.window s) (left w₁ s₁)
      kept = subst (Keeps c.read n t (left c.window s)) (sym A.leaves) (cleared_keeps c.read n m t (left c.window s) R.held)

      turn_is : t ≡ turn_at m n rs
      turn_is = T.0 ∙ (λ j. turn_of m (C.count_own j) (C.count_above j))

      parts : fds_in (take t (own n rs)) + fds_in (drop t (own n rs)) ≡ fds_in (own n rs)
      parts = sym (fds_in_append (take t (own n rs)) (drop t (own n rs))) ∙ ap fds_in (take-append-drop t (own n rs))

      pub sweepable_on : Sweepable n w₁ s₁
      sweepable_on = record { last = c.read; sound = kept.sound; few = omega (arith, ap fds_in kept.rest, parts, all_fds, R.slots.most) }

      module _ (o : Whole x y z) where
        open o use {w₂, v, s₂, rest as B}

        rest_is : v ≡ fds_in (drop t (own n rs))
        rest_is =
            B.counts ∙ ap (λ a. fds_in (take (r - t) a)) kept.rest
            ∙ ap fds_in (take_all (r - t) (drop t (own n rs)) (omega (arith, length-drop t (own n rs), C.count_own)))

        pub run_fits : p.before + u + v ≤ c.counts.held
        run_fits = omega (arith, below_is, A.counts, rest_is, parts, all_fds)

        pub first_close : Slots.Sound d × (p.before + u + v ≤ c.counts.held)
        first_close = (R.slots, run_fits)

        left_is : left w₂ s₂ ≡ discard_left c (rooms q s f) n m
        left_is =
            let g : t + (r - t) ≡ r = omega (arith, T.1) in
            B.leaves ∙ ap (cleared (r - t) m n) A.leaves ∙ cleared_add n m t (r - t) (left c.window s) ∙ ap (λ (j : ℕ). cleared j m n (left c.window s)) (g ∙ C.count_own)

        pub second_long : length s₂ ≡ length s
        second_long = ap (λ (l : Left). length l.store) left_is ∙ (cleared_keeps c.read n m (length (own n rs)) (left c.window s) R.held).long

        module _ (f₁ : List ℕ) (n₁ : Counts) (D₁ : Slots.room f₁ n₁ ≡ Slots.close_held (p.before + u) v d) where
          held₁ : (Slots.close_held (p.before + u) v d).counts.held ≡ c.counts.held - v
          unfolding Slots.close_held
          held₁ = refl

          pub second_close : Slots.Sound (Slots.room f₁ n₁) × (p.before + u ≤ n₁.held)
          second_close = (
            subst Slots.Sound (sym D₁) (Fds.close_held_sound d R.slots (p.before + u) v run_fits),
            omega (arith, ap (λ (x : Slots.Room). x.counts.held) D₁, held₁, run_fits),
          )

          pub discard_some : (f₂ : List ℕ) (n₂ : Counts) (a : Connection) → Slots.room f₂ n₂ ≡ Slots.close_held p.before u (Slots.room f₁ n₁) → a ≡ moved_state c w₂ n₂ → DiscardStep c n m q s f a q' s₂ f₂
          unfolding discard_exact closed_round
          discard_some f₂ n₂ a D₂ g =
              let i : u ≡ fds_before m n rs = A.counts ∙ ap (λ (j : ℕ). fds_in (take j (own n rs))) turn_is in
              let h : v ≡ fds_from m n rs = rest_is ∙ ap (λ (j : ℕ). fds_in (drop j (own n rs))) turn_is in
              let D : Slots.room f₂ n₂ ≡ discard_slots m n rs d =
              D₂ ∙ ap (Slots.close_held p.before u) D₁ ∙ (λ j. Slots.close_held (below_is j) (i j) (Slots.close_held (below_is j + i j) (h j) d)) in
              record { state = g ∙ (λ j. moved_state c (left_is j).window (D j).counts); leaves = λ j. rooms (Q j) (left_is j).store (D j).slots }
