-- Discarding in the model's terms, and the state that it leaves. Assumes nothing.
use Rattle.std.specs.Prelude.{◌≡◌, Bool, ℕ, ◌+◌, ◌-◌, ◌≤◌, ◌%◌, leb, length, get_or, set}
use Rattle.std.proofs.Math.Path.{refl, ap, subst}
use Rattle.std.proofs.Common.{sym, ◌∙◌, take-append-drop, drop-drop}
use Rattle.std.proofs.Math.Bool.{true, false}
use mathlib.Core.List.{List, [], ◌∷◌, ◌++◌, map, append-nil}
use native.Mathlib.Omega.{arith}
use Rattle.std.proofs.Math.ListN.{take, drop}
use borrow.Author.Tests.{leb-true}
use Rattle.octets.specs.Logic.{choose, both, both_left, both_right}
use Rattle.refusal.specs.Answer.{gives}
use Rattle.requests.specs.Room.{outstanding, put_mode, under_mode, sized, legals}
use Rattle.requests.specs.Theorems.{mode_put, outstanding_mode, sized_is, sized_put, legals_put}
use Rattle.held.specs.General.{choose_either}
use Rattle.held.specs.Head as Head
use Rattle.held.specs.Reading as Store
use Rattle.held.specs.Reading.{fds_in}
use Rattle.held.specs.Rows.{fds_in_append}
use Rattle.held.specs.Moves.{left}
use Rattle.held.specs.Tally.{own, lower, higher}
use Rattle.descriptors.specs.Room as Slots
use Rattle.descriptors.specs.Theorems as Fds
use Rattle.model.specs.Client.{Client, set_outstanding, descriptors_of}
use Rattle.model.specs.Client as Client
use Rattle.packet.specs.Packet.{class_of, is_error}
use Rattle.model.specs.Model.{with_mode, mode_of, joining, of_number, not_of, above, errors_of, closing_order, discarding, discard_reply}
use Rattle.model.specs.Model as Model
use Rattle.model.specs.Reading.{Rooms, count, slots_of, held_with, with_descriptors, event_of, reads}
use Rattle.model.specs.ReadingLaws.{with_without, events_append, first_read}
use Rattle.model.specs.Promise.{model_of}
use Rattle.model.specs.Moved.{moved_sound_with}
use Rattle.model.specs.Sound.{Sound, ready}
use Rattle.model.specs.declared.Connection.{Connection}
use Rattle.model.specs.declared.ReplyFdKind.TheVariants as ReplyFdKind
use Rattle.model.specs.declared.DiscardMode.{DiscardMode}
use Rattle.discarding.specs.Runs.{rising_split, of_read, not_read, above_read, length_with}
use Rattle.discarding.specs.Exact.{mode_set, turn_at, fds_below, fds_before, fds_from, discard_slots, replies_of, discard_left, discard_exact}
use Rattle.discarding.specs.Rows.{descriptors_round, round_lists, round_sound, round_held, errors_in, becoming, Cleared, cleared_law}

-- the errors of a row, as the model reads them
errors_read : (a : List Head.Record) (fds : List ℕ) → map event_of (errors_in a) ≡ errors_of (with_descriptors a fds)
unfolding errors_in errors_of with_descriptors choose
errors_read [] fds = refl
errors_read (h ∷ a) fds = go (is_error (class_of (get_or h.packet 0 0))) (errors_read a (drop h.fds fds))
  where
    go : (t : Bool) → map event_of (errors_in a) ≡ errors_of (with_descriptors a (drop h.fds fds))
        → map event_of (choose t (Head.as_event h ∷ errors_in a) (errors_in a)) ≡ choose t (Model.as_event (held_with h (take h.fds fds)) ∷ errors_of (with_descriptors a (drop h.fds fds))) (errors_of (with_descriptors a (drop h.fds fds)))
    go true e = ap (λ (l : List Client.Held). Model.as_event (held_with h (take h.fds fds)) ∷ l) e
    go false e = e

module _ (c : Connection) (r : Rooms) (S : Sound c r) (n : ℕ) (m : DiscardMode) where
  abbrev rs : List Head.Record
  rs = replies_of c r

  abbrev fds : List ℕ
  fds = Slots.holding (slots_of c r)

  abbrev b : ℕ
  b = fds_below n rs

  abbrev u : ℕ
  u = fds_before m n rs

  abbrev v : ℕ
  v = fds_from m n rs

  rising : Store.Rising 0 rs
  rising = (ready c r S).held.rising

  -- all that the replies have
  own_fds : fds_in (own n rs) ≡ u + v
  own_fds = ap fds_in (sym (take-append-drop (turn_at m n rs) (own n rs))) ∙ fds_in_append (take (turn_at m n rs) (own n rs)) (drop (turn_at m n rs) (own n rs))

  all_fds : c.counts.held ≡ b + (u + v + fds_in (higher n rs))
  all_fds =
      sym S.descriptors ∙ ap fds_in (rising_split n 0 rs rising) ∙ fds_in_append (lower n rs) (own n rs ++ higher n rs)
      ∙ ap (λ (x : ℕ). b + x) (fds_in_append (own n rs) (higher n rs) ∙ ap (λ (x : ℕ). x + fds_in (higher n rs)) own_fds)

  some : b + u + v ≤ c.counts.held
  some = omega (arith, all_fds)

  lists : Slots.Lists (discard_slots m n rs (slots_of c r)) (Slots.closing (slots_of c r) ++ (take v (drop (b + u) fds) ++ take u (drop b fds))) (take b fds ++ drop (b + (u + v)) fds) (Slots.waiting (slots_of c r))
  lists = round_lists (slots_of c r) (ready c r S).slots b u v some

  clear : Cleared c.read n m (left c.window r.store) (discard_left c r n m)
  clear = cleared_law c.read n m (length (own n rs)) (left c.window r.store) (ready c r S).held refl

  -- ---- as it is read

  replies_read : with_descriptors (Store.replies (discard_left c r n m).window (discard_left c r n m).store) (Slots.holding (discard_slots m n rs (slots_of c r))) ≡ not_of n (with_descriptors rs fds)
  replies_read =
      let l = Fds.length_holding (slots_of c r) (ready c r S).slots in
      let e : drop (fds_in (own n rs)) (drop b fds) ≡ drop (b + (u + v)) fds = drop-drop (fds_in (own n rs)) b fds ∙ ap (λ (x : ℕ). drop (b + x) fds) own_fds in
      (λ k. with_descriptors (clear.replies k) (lists.holding_is k))
      ∙ with_without (lower n rs) (higher n rs) fds (u + v) (omega (arith, all_fds))
      ∙ ap (λ (x : List ℕ). with_descriptors (lower n rs) fds ++ with_descriptors (higher n rs) x) (sym e)
      ∙ sym (not_read n 0 rs fds rising)

  abbrev w : List Client.Held
  w = with_descriptors (own n rs) (drop b fds)

  round_read : descriptors_of (drop (turn_at m n rs) w ++ take (turn_at m n rs) w) ≡ take v (drop (b + u) fds) ++ take u (drop b fds)
  round_read = descriptors_round (turn_at m n rs) (own n rs) (drop b fds) ∙ ap (λ (x : List ℕ). take v x ++ take u (drop b fds)) (drop-drop u b fds)

  -- the requests, under the mode
  mode_read : with_mode (reads c r) n m ≡ set_outstanding (reads c r) (outstanding (mode_set c r.requests n m) c.first (count c))
  unfolding with_mode mode_set reads choose
  mode_read =
      ap (λ (x : ℕ). choose (both (leb x n) (leb n c.written))
      (set_outstanding (reads c r) (set (reads c r).outstanding (n - x) (under_mode (mode_of m) (get_or (reads c r).outstanding (n - x) (joining ReplyFdKind.NoReply))))) (reads c r)) (first_read c r S)
      ∙ go (both (leb c.first n) (leb n c.written)) refl
    where
      go : (t : Bool) → both (leb c.first n) (leb n c.written) ≡ t
          → choose t (set_outstanding (reads c r) (set (reads c r).outstanding (n - c.first) (under_mode (mode_of m) (get_or (reads c r).outstanding (n - c.first) (joining ReplyFdKind.NoReply))))) (reads c r)
          ≡ set_outstanding (reads c r) (outstanding (choose t (put_mode r.requests n (mode_of m)) r.requests) c.first (count c))
      go true h =
          let lo : c.first ≤ n = leb-true _ _ (both_left _ _ h) in
          let hi : n ≤ c.written = leb-true _ _ (both_right _ _ h) in
          let e : c.first + (n - c.first) ≡ n = omega arith in
          let z = (sized_is c.capacity r.requests).0 S.requests in
          ap (set_outstanding (reads c r))
          (sym (outstanding_mode r.requests c.first (count c) (n - c.first) (mode_of m) (joining ReplyFdKind.NoReply) (omega arith) (omega (arith, z.holds, S.numbers.count_most)))
          ∙ ap (λ (x : ℕ). outstanding (put_mode r.requests x (mode_of m)) c.first (count c)) e)
      go false h = refl

-- what the model closes, and what becomes an event
module _ (c : Connection) (r : Rooms) (S : Sound c r) (n : ℕ) where
  abbrev read_replies : List Client.Held
  read_replies = with_descriptors (replies_of c r) (Slots.holding (slots_of c r))

  list_order : descriptors_of (drop 0 (w c r S n DiscardMode.DiscardReply) ++ take 0 (w c r S n DiscardMode.DiscardReply)) ≡ descriptors_of (of_number n read_replies)
  list_order = ap descriptors_of (append-nil _ ∙ sym (of_read n 0 (replies_of c r) (Slots.holding (slots_of c r)) (rising c r S n DiscardMode.DiscardReply)))

  round_order : descriptors_of (drop (turn_at DiscardMode.DiscardReplyAndError n (replies_of c r)) (w c r S n DiscardMode.DiscardReplyAndError) ++ take (turn_at DiscardMode.DiscardReplyAndError n (replies_of c r)) (w c r S n DiscardMode.DiscardReplyAndError))
      ≡ descriptors_of (closing_order (length (above n read_replies)) (of_number n read_replies))
  unfolding closing_order
  round_order =
      let o = replies_of c r in
      let f = Slots.holding (slots_of c r) in
      let R = rising c r S n DiscardMode.DiscardReplyAndError in
      let x = w c r S n DiscardMode.DiscardReplyAndError in
      ap descriptors_of
      (sym ((λ k. closing_order (above_read n 0 o f R k) (of_read n 0 o f R k))
      ∙ ap (λ (j : ℕ). drop (length (higher n o) % j) x ++ take (length (higher n o) % j) x) (length_with (own n o) (drop (fds_below n o) f))))

  -- the whole, as it is read
  left_read : (m : DiscardMode) (es : List Client.Held) (ds : List ℕ) → map event_of (Store.events c.window r.store ++ becoming m (own n (replies_of c r))) ≡ es
      → descriptors_of (drop (turn_at m n (replies_of c r)) (w c r S n m) ++ take (turn_at m n (replies_of c r)) (w c r S n m)) ≡ ds
      → reads (discard_exact c r n m).state (discard_exact c r n m).left
      ≡ Model.close ds (Client.set_events (Client.set_replies (set_outstanding (reads c r) (outstanding (mode_set c r.requests n m) c.first (count c))) (not_of n read_replies)) es)
  unfolding reads discard_exact
  left_read m es ds e d = λ k. record {
    order = c.order;
    most_requests = c.capacity;
    most_bytes = c.room;
    numbers = record { written = c.written; expected = c.expected; read = c.read };
    outstanding = outstanding (mode_set c r.requests n m) c.first (count c);
    replies = replies_read c r S n m k;
    events = (ap (map event_of) (clear c r S n m).events ∙ e) k;
    waiting = (lists c r S n m).waiting_is k;
    closing = ((lists c r S n m).closing_is ∙ ap (λ (x : List ℕ). Slots.closing (slots_of c r) ++ x) (sym (round_read c r S n m) ∙ d)) k;
  }

  -- DISCARDING is the model's,
  by_mode : (m : DiscardMode) → reads (discard_exact c r n m).state (discard_exact c r n m).left ≡ discarding m n (set_outstanding (reads c r) (outstanding (mode_set c r.requests n m) c.first (count c)))
  unfolding reads
  by_mode DiscardMode.DiscardReply =
      left_read DiscardMode.DiscardReply _ _
      (events_append (Store.events c.window r.store) (errors_in (own n (replies_of c r)))
      ∙ ap (λ (x : List Client.Held). map event_of (Store.events c.window r.store) ++ x)
      (errors_read (own n (replies_of c r)) (drop (fds_below n (replies_of c r)) (Slots.holding (slots_of c r)))
      ∙ ap errors_of (sym (of_read n 0 (replies_of c r) (Slots.holding (slots_of c r)) (rising c r S n DiscardMode.DiscardReply)))))
      list_order
  by_mode DiscardMode.DiscardReplyAndError = left_read DiscardMode.DiscardReplyAndError _ _ (ap (map event_of) (append-nil (Store.events c.window r.store))) round_order

  module _ (m : DiscardMode) where
    pub discard_model : model_of (gives (discard_exact c r n m)) ≡ discard_reply (reads c r) n m
    unfolding model_of discard_reply discard_exact
    discard_model = ap (λ (x : Client). gives (tt, x)) (by_mode m ∙ ap (discarding m n) (sym (mode_read c r S n m)))

    set_sized : sized c.capacity (mode_set c r.requests n m) ≡ true
    unfolding mode_set put_mode
    set_sized = choose_either (λ (q : List ℕ). sized c.capacity q ≡ true) (both (leb c.first n) (leb n c.written)) _ _ (λ t. sized_put r.requests n _ c.capacity ∙ S.requests) (λ t. S.requests)

    set_legal : legals (mode_set c r.requests n m) c.first (count c) ≡ true
    unfolding mode_set
    set_legal =
        let z = (sized_is c.capacity r.requests).0 S.requests in
        choose_either (λ (q : List ℕ). legals q c.first (count c) ≡ true) (both (leb c.first n) (leb n c.written)) _ _
        (λ t. subst (λ (q : List ℕ). legals q c.first (count c) ≡ true) (sym (mode_put r.requests n (mode_of m))) (legals_put r.requests c.first (count c) S.legal_bytes n _ (omega (arith, z.least, z.holds)))) (λ t. S.legal_bytes)

    left_fds : fds_in (Store.replies (discard_left c r n m).window (discard_left c r n m).store) ≡ (discard_slots m n (replies_of c r) (slots_of c r)).counts.held
    left_fds =
        ap fds_in (clear c r S n m).replies ∙ fds_in_append (lower n (replies_of c r)) (higher n (replies_of c r))
        ∙ (let a = all_fds c r S n m in let z : fds_below n (replies_of c r) + fds_in (higher n (replies_of c r)) ≡ c.counts.held - (u c r S n m + v c r S n m) = omega arith in z)
        ∙ sym (round_held (slots_of c r) (ready c r S).slots (b c r S n m) (u c r S n m) (v c r S n m) (some c r S n m))

    -- and leaves a sound state.
    pub discard_leaves : Sound (discard_exact c r n m).state (discard_exact c r n m).left
    unfolding discard_exact
    discard_leaves =
        moved_sound_with c r S (discard_left c r n m) (discard_slots m n (replies_of c r) (slots_of c r)) (clear c r S n m).long (clear c r S n m).sound
        (round_sound (slots_of c r) (ready c r S).slots (b c r S n m) (u c r S n m) (v c r S n m) (some c r S n m)) left_fds (mode_set c r.requests n m) set_sized set_legal
