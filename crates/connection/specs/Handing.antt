-- What a poll hands out: it has the number that was asked for, and where none are handed out it says 0 descriptors. From the promises alone. Assumes nothing.
use Rattle.std.specs.Prelude.{◌≡◌, refl, List, [], ◌∷◌, map, ℕ, eqb, ltb, length}
use Rattle.std.proofs.Common.{sym, ap, arith, eqb-true}
use Rattle.std.proofs.Math.Path.{subst}
use Rattle.refusal.specs.Answer.{Answer, gives, refuses, gives_rest, gives_same}
use Rattle.held.specs.General.{choose_either}
use Rattle.held.specs.Head as Head
use Rattle.held.specs.Reading as Store
use Rattle.model.specs.Client.{Held, Client}
use Rattle.model.specs.Model as Model
use Rattle.model.specs.Model.{Found, nothing, at, behind, find, Taken, taken_by, poll_for_reply_or_error, PollReply, checked_by, poll_check, replied_by, poll_for_reply, event_by, poll_for_event}
use Rattle.model.specs.Reading.{Rooms, event_of, reads}
use Rattle.model.specs.Promise.{Done, Promise, answer_of, model_of, guarded}
use Rattle.model.specs.Says.{Shown, shown_taken, ShownPoll, shown_poll, IfShown, IfPolled, Under, Bare}
use Rattle.model.specs.declared.Connection.{Connection}
use Rattle.connection.specs.Calls.{Polls, Checks, PollsReply, PollsEvent}

-- what a promise gives is the model's, as it is shown
record Gave {A B : Type 0} (f : A → B) (m : Answer (A × Client)) (y : B) : Type 0 where
  value : A
  state : Client
  shown : y ≡ f value
  model : gives (value, state) ≡ m

gave : {A B : Type 0} (f : A → B) (e : Answer (Done A)) (m : Client → Answer (A × Client)) (c : Connection) (r : Rooms) (y : B) (c' : Connection) (r' : Rooms) → Promise f e m c r (gives (y, c')) r' → Gave f (m (reads c r)) y
unfolding answer_of model_of guarded
gave f e m c r y c' r' p = by (guarded c r e) p.exact.answers p.model
  where
    by : (x : Answer (Done _)) → gives (y, c') ≡ answer_of f x → model_of x ≡ guarded c r (m (reads c r)) → Gave f (m (reads c r)) y
    by (gives d) q k =
        let w : ◌≡◌ {A = _ × Connection} (y, c') (f d.value, d.state) = cc in
        record { value = d.value; state = _; shown = ap (λ v. v.0) w; model = gives_rest _ _ _ k }
    by (refuses n) q k = absurd (let z : ◌≡◌ {A = ℕ} 0 1 = cc in omega arith)

-- the oldest packet of a number has that number
abbrev Of : ℕ → Found → Type 0
Of n nothing = Unit {0}
Of n (at h l) = h.number ≡ n

of_behind : (n : ℕ) (h : Held) (x : Found) → Of n x → Of n (behind h x)
of_behind n h nothing e = tt
of_behind n h (at x l) e = e

found_of : (n : ℕ) (l : List Held) → Of n (find n l)
unfolding find
found_of n [] = tt
found_of n (h ∷ l) = choose_either (Of n) (eqb h.number n) _ _ (λ t. eqb-true h.number n t) (λ t. of_behind n h (find n l) (found_of n l))

-- ---- call by call, in the model

value_is : {A : Type 0} {x y : A} {c d : Client} → ◌≡◌ {A = Answer (A × Client)} (gives (x, c)) (gives (y, d)) → x ≡ y
value_is {A = A} e = ap (λ (p : A × Client). p.0) (gives_same e)

abbrev Asked : ℕ → PollReply → Type 0
Asked n v = IfPolled (λ z. Under n z × Bare z) (shown_poll v)

module _ (c : Client) (n bytes : ℕ) where
  taken_under : (places : ℕ) (x : Found) → Of n x → (v : Taken) (d : Client) → gives (v, d) ≡ taken_by c bytes places x → IfShown (Under n) (shown_taken v)
  taken_under places nothing e v d g = subst (λ (w : Taken). IfShown (Under n) (shown_taken w)) (sym (value_is g)) tt
  taken_under places (at h l) e v d g = subst (λ (w : Taken). IfShown (Under n) (shown_taken w)) (sym (value_is (gives_rest _ _ _ g))) e

  checked_under : (x : Found) → Of n x → (v : PollReply) (d : Client) → gives (v, d) ≡ checked_by c n bytes x → Asked n v
  checked_under nothing e v d g = subst (Asked n) (sym (value_is g)) (choose_either (Asked n) (ltb n c.numbers.read) Model.no_reply Model.try_again (λ t. tt) (λ t. tt))
  checked_under (at h l) e v d g = subst (Asked n) (sym (value_is (gives_rest _ _ _ g))) (e, refl)

  replied_under : (x : Found) → Of n x → (v : PollReply) (d : Client) → gives (v, d) ≡ replied_by c bytes x → Asked n v
  replied_under nothing e v d g = subst (Asked n) (sym (value_is g)) tt
  replied_under (at h l) e v d g =
      choose_either (λ (y : Answer (PollReply × Client)). gives (v, d) ≡ y → Asked n v) (Model.is_error h) _ _
      (λ t i. subst (Asked n) (sym (value_is i)) tt) (λ t i. subst (Asked n) (sym (value_is (gives_rest _ _ _ i))) (e, refl)) g

  event_bare : (l : List Head.Record) (v : Taken) (d : Client) → gives (v, d) ≡ event_by c bytes (map event_of l) → IfShown Bare (shown_taken v)
  event_bare [] v d g = subst (λ (w : Taken). IfShown Bare (shown_taken w)) (sym (value_is g)) tt
  event_bare (h ∷ l) v d g = subst (λ (w : Taken). IfShown Bare (shown_taken w)) (sym (value_is (gives_rest _ _ _ g))) refl

-- ---- THE NUMBER that is said is the one that was asked for, and no descriptors are said where none are handed out.

module _ (c : Connection) (r : Rooms) (out : List ℕ) (c' : Connection) (r' : Rooms) (out' : List ℕ) where
  pub poll_handed : (n : ℕ) (fds fds' : List ℕ) (y : Shown) → Polls c r n out fds (gives (y, c')) r' out' fds' → IfShown (Under n) y
  unfolding poll_for_reply_or_error
  poll_handed n fds fds' y p =
      let g = gave shown_taken _ _ c r y c' r' p.packet.promise in
      subst (IfShown (Under n)) (sym g.shown) (taken_under (reads c r) n (length out) (length fds) (find n (reads c r).replies) (found_of n (reads c r).replies) g.value g.state g.model)

  pub check_handed : (n : ℕ) (y : ShownPoll) → Checks c r n out (gives (y, c')) r' out' → IfPolled (λ z. Under n z × Bare z) y
  unfolding poll_check
  check_handed n y p =
      let g = gave shown_poll _ _ c r y c' r' p.promise in
      subst (IfPolled (λ z. Under n z × Bare z)) (sym g.shown) (checked_under (reads c r) n (length out) (find n (reads c r).replies) (found_of n (reads c r).replies) g.value g.state g.model)

  pub reply_handed : (n : ℕ) (y : ShownPoll) → PollsReply c r n out (gives (y, c')) r' out' → IfPolled (λ z. Under n z × Bare z) y
  unfolding poll_for_reply
  reply_handed n y p =
      let g = gave shown_poll _ _ c r y c' r' p.promise in
      subst (IfPolled (λ z. Under n z × Bare z)) (sym g.shown) (replied_under (reads c r) n (length out) (find n (reads c r).replies) (found_of n (reads c r).replies) g.value g.state g.model)

  pub event_handed : (y : Shown) → PollsEvent c r out (gives (y, c')) r' out' → IfShown Bare y
  unfolding poll_for_event reads
  event_handed y p =
      let g = gave shown_taken _ _ c r y c' r' p.promise in
      subst (IfShown Bare) (sym g.shown) (event_bare (reads c r) 0 (length out) (Store.events c.window r.store) g.value g.state g.model)
