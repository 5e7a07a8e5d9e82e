-- What a move and a discard do to what is used: neither needs room. Assumes nothing.
use Rattle.std.specs.Prelude.{Bool, true, false, List, [], ◌∷◌, ◌++◌, ◌≡◌, ℕ, ◌+◌, ◌-◌, ◌≤◌, ltb, length}
use Rattle.std.proofs.Math.Path.{refl, sym, ap}
use Rattle.std.proofs.Common.{◌∙◌, subst, arith}
use Rattle.octets.specs.Logic.{choose}
use Rattle.refusal.specs.Answer.{Answer, gives, refuses, refuse, gives_same}
use Rattle.held.specs.Head.{header_size}
use Rattle.model.specs.Client.{Held, Client, set_replies, set_events, costs, used}
use Rattle.model.specs.Model as Model
use Rattle.model.specs.Model.{with_mode, of_number, not_of, is_error, as_event, errors_of, discarding, discard_reply, Found, at, find, no_reply, replied_by, poll_for_reply}
use Rattle.model.specs.Calls.{discard, poll_reply, done, absent, step}
use Rattle.model.specs.Promise.{guarded}
use Rattle.model.specs.Reading.{Rooms, reads}
use Rattle.model.specs.ReadingLaws.{used_read}
use Rattle.model.specs.Says.{ShownPoll}
use Rattle.model.specs.declared.Connection.{Connection}
use Rattle.model.specs.declared.DiscardMode.{DiscardMode}
use Rattle.connection.specs.Calls.{Discards, PollsReply}
use Rattle.session.specs.Ask.{discard_reply_ask, poll_for_reply_ask}
use Rattle.session.specs.AskLaws.{handed_sound}
use Rattle.ledger.specs.Promised.{refused_alone, promise_refuses, promise_gave}
use Rattle.ledger.specs.Sums.{Adds, sum_append, sum_number, sum_find}

-- ---- costs

abbrev pub cost_one : Held → ℕ
cost_one h = header_size + length h.packet

pub costs_append : (a b : List Held) → costs (a ++ b) ≡ costs a + costs b
unfolding costs
costs_append = sum_append cost_one costs refl (λ h l. refl)

pub costs_one : (h : Held) → costs (h ∷ []) ≡ header_size + length h.packet
unfolding costs
costs_one h = omega arith

costs_of_number : (n : ℕ) (l : List Held) → costs (of_number n l) + costs (not_of n l) ≡ costs l
unfolding costs
costs_of_number = sum_number cost_one costs refl (λ h l. refl)

abbrev pub CostsFound : ℕ → Found → Type 0
CostsFound = Adds cost_one costs

pub costs_find : (n : ℕ) (l : List Held) → CostsFound (costs l) (find n l)
unfolding costs
costs_find = sum_find cost_one costs refl (λ h l. refl)

-- an event costs what it did as a reply, and the errors are among the others
costs_errors : (l : List Held) → costs (errors_of l) ≤ costs l
unfolding errors_of costs choose
costs_errors [] = omega arith
costs_errors (h ∷ l) = go (is_error h) (costs_errors l)
  where
    go : (b : Bool) → costs (errors_of l) ≤ costs l → costs (choose b (as_event h ∷ errors_of l) (errors_of l)) ≤ header_size + length h.packet + costs l
    go true k = omega arith
    go false k = omega arith

-- ---- a discard

used_choose : (c x : Client) (b : Bool) → used x ≡ used c → used (choose b x c) ≡ used c
unfolding choose
used_choose c x true e = e
used_choose c x false e = refl

mode_used : (c : Client) (n : ℕ) (m : DiscardMode) → used (with_mode c n m) ≡ used c
unfolding with_mode
mode_used c n m = used_choose c _ _ refl

discarding_used : (m : DiscardMode) (n : ℕ) (c : Client) → used (discarding m n c) ≤ used c
discarding_used DiscardMode.DiscardReply n c =
    omega (arith, costs_append c.events (errors_of (of_number n c.replies)), costs_errors (of_number n c.replies), costs_of_number n c.replies)
discarding_used DiscardMode.DiscardReplyAndError n c = omega (arith, costs_of_number n c.replies)

pub discard_said : (c : Client) (n : ℕ) (m : DiscardMode) → (step c (discard n m)).said ≡ done
unfolding step discard_reply
discard_said c n m = refl

pub discard_used : (c : Client) (n : ℕ) (m : DiscardMode) → used (step c (discard n m)).next ≤ used c
unfolding step discard_reply
discard_used c n m = omega (arith, discarding_used m n (with_mode c n m), mode_used c n m)

-- ---- a move: the oldest reply of a number is an error

-- from the replies to the end of the events, at the same cost
abbrev pub moved_over : Client → Held → List Held → Client
moved_over c h l = Model.close h.descriptors (set_events (set_replies c l) (c.events ++ (as_event h ∷ [])))

module _ (c : Client) (n bytes : ℕ) (h : Held) (l : List Held) (found : find n c.replies ≡ at h l) (error : is_error h ≡ true) where
  pub move_gives : poll_for_reply c n bytes ≡ gives (no_reply, moved_over c h l)
  unfolding poll_for_reply choose
  move_gives = ap (replied_by c bytes) found ∙ (λ i. choose (error i) (gives (no_reply, moved_over c h l)) (refuse (ltb bytes (length h.packet)) 8 (gives (Model.reply h, Model.close h.descriptors (set_replies c l)))))

  pub move_said : (step c (poll_reply n bytes)).said ≡ absent
  unfolding step
  move_said = rw move_gives refl

  pub move_used : used (moved_over c h l) ≡ used c
  move_used =
      let k : header_size + length h.packet + costs l ≡ costs c.replies = subst (CostsFound (costs c.replies)) found (costs_find n c.replies) in
      omega (arith, costs_append c.events (as_event h ∷ []), costs_one (as_event h))

  pub move_step_used : used (step c (poll_reply n bytes)).next ≡ used c
  unfolding step
  move_step_used = rw move_gives move_used

-- ---- the public calls

module _ (c : Connection) (r : Rooms) (n : ℕ) where
  pub discards_by : (mode : DiscardMode) (a : Answer (Unit × Connection)) (r' : Rooms) → Discards c r n mode a r' → (k : ℕ) → a ≡ refuses k → k ≡ 9
  unfolding guarded discard_reply
  discards_by mode a r' h k e = refused_alone _ 9 _ k ((promise_refuses _ _ _ c r a r' h k).0 e)

  -- what the window has after it
  pub discards_used : (mode : DiscardMode) (c' : Connection) (r' : Rooms) → Discards c r n mode (gives (tt, c')) r' → c'.window.end - c'.window.start ≤ c.window.end - c.window.start
  unfolding discard_reply
  discards_used mode c' r' h =
      let g = promise_gave _ _ _ c r tt c' r' h in
      let e : reads c' r' ≡ discarding mode n (with_mode (reads c r) n mode) = sym (ap (λ y. y.1) (gives_same g.model)) in
      omega (arith, used_read c r g.was_sound, used_read c' r' (handed_sound (discard_reply_ask n mode) tt c r tt c' r' tt h), ap used e, discarding_used mode n (with_mode (reads c r) n mode), mode_used (reads c r) n mode)

  pub moves_by : (out : List ℕ) (x : Held) (l : List Held) → find n (reads c r).replies ≡ at x l → is_error x ≡ true
      → (a : Answer (ShownPoll × Connection)) (r' : Rooms) (out' : List ℕ) → PollsReply c r n out a r' out' → (k : ℕ) → a ≡ refuses k → k ≡ 9
  unfolding guarded
  moves_by out x l found error a r' out' h k e =
      refused_alone _ 9 _ k (ap (guarded c r) (sym (move_gives (reads c r) n (length out) x l found error)) ∙ (promise_refuses _ _ _ c r a r' h.promise k).0 e)

  pub moves_used : (out : List ℕ) (x : Held) (l : List Held) → find n (reads c r).replies ≡ at x l → is_error x ≡ true
      → (v : ShownPoll) (c' : Connection) (r' : Rooms) (out' : List ℕ) → PollsReply c r n out (gives (v, c')) r' out' → c'.window.end - c'.window.start ≡ c.window.end - c.window.start
  moves_used out x l found error v c' r' out' h =
      let g = promise_gave _ _ _ c r v c' r' h.promise in
      let e : reads c' r' ≡ moved_over (reads c r) x l = ap (λ y. y.1) (gives_same (sym g.model ∙ move_gives (reads c r) n (length out) x l found error)) in
      omega (arith, used_read c r g.was_sound, used_read c' r' (handed_sound (poll_for_reply_ask n out) tt c r v c' r' out' h), ap used e, move_used (reads c r) n (length out) x l found error)
