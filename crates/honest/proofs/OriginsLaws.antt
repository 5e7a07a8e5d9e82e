-- Laws of `specs/OriginsLaws.antt`. Assumes nothing.
use Rattle.std.specs.Prelude.{Bool, true, false, List, [], ◌∷◌, ◌++◌, ◌≡◌, refl, ℕ, zero, suc, eqb, length}
use Rattle.std.proofs.Common.{append-nil, inl, inr, sym, ap, ◌∙◌, subst, arith}
use Rattle.octets.specs.Logic.{choose, apart}
use Rattle.refusal.specs.Answer.{Answer, gives, refuses, refuse, pass}
use Rattle.packet.specs.Packet.{code_of, unnumbered}
use Rattle.model.specs.Client.{Held, Client}
use Rattle.model.specs.Model.{has_reply, send_request, enqueue_fds, take_closed, Filing, enqueue_packet, with_mode, of_number, not_of, is_error, as_event, errors_of, discarding, discard_reply, Found, nothing, at, behind, find, taken_by, poll_for_reply_or_error, checked_by, poll_check, replied_by, poll_for_reply, event_by, poll_for_event}
use Rattle.model.specs.Calls.{Call, send, enqueue_fds_ask, enqueue, discard, poll, check, poll_reply, prepare, poll_event, take_closed_ask, Said, step, outcome}
use Rattle.model.specs.declared.ReplyFdKind.{ReplyFdKind}
use Rattle.model.specs.declared.DiscardMode.{DiscardMode}
use Rattle.model.specs.declared.Place.{Place}
use Rattle.model.specs.Batch.{Each}
use Rattle.honest.specs.Run.{Entry, took, note_sent, note_took, noted, Runs, start, call, Right, Lands, held_as, Holds}
use Rattle.honest.proofs.Calls.{taking, lands}
use Rattle.honest.specs.Server.{Packet, Own, packets_in}
use Rattle.honest.specs.Origins as Origins
use Rattle.honest.specs.Origins.{Followed, Lists, lists, each, OfClient, Sorts, none, stays, moves, goes, turned_event, Moved, joined, joined_by, Traced, takes, after, At, Tied, AllTied, Any, OneOf}
use Rattle.honest.specs.OriginsLaws.{Trace}

-- ---- lists

sorts_all : {A : Type 0} (l : List A) → Sorts l l []
sorts_all [] = none
sorts_all (x ∷ l) = stays (sorts_all l)

each_append : {A B : Type 0} (f : A → B) (x y : List A) → each f (x ++ y) ≡ each f x ++ each f y
each_append f [] y = refl
each_append f (a ∷ x) y = ap (λ l. f a ∷ l) (each_append f x y)

-- what is sorted as it is seen through f is sorted itself
record Lifted {A B : Type 0} (f : A → B) (all : List A) (stay move : List B) : Type 0 where
  staying : List A
  moving : List A
  sorted : Sorts all staying moving
  stay_is : each f staying ≡ stay
  move_is : each f moving ≡ move

lifted : {A B : Type 0} (f : A → B) (all : List A) {stay move : List B} → Sorts (each f all) stay move → Lifted f all stay move
lifted f [] none = record { staying = []; moving = []; sorted = none; stay_is = refl; move_is = refl }
lifted f (x ∷ all) (stays s) =
    let k = lifted f all s in
    record { staying = x ∷ k.staying; moving = k.moving; sorted = stays k.sorted; stay_is = ap (λ l. f x ∷ l) k.stay_is; move_is = k.move_is }
lifted f (x ∷ all) (moves s) =
    let k = lifted f all s in
    record { staying = k.staying; moving = x ∷ k.moving; sorted = moves k.sorted; stay_is = k.stay_is; move_is = ap (λ l. f x ∷ l) k.move_is }
lifted f (x ∷ all) (goes s) =
    let k = lifted f all s in
    record { staying = k.staying; moving = k.moving; sorted = goes k.sorted; stay_is = k.stay_is; move_is = k.move_is }

each_sorts : {A : Type 0} (P : A → Type 0) {all stay move : List A} → Sorts all stay move → Each P all → Each P stay × Each P move
each_sorts P none a = (tt, tt)
each_sorts P (stays s) a = let k = each_sorts P s a.1 in ((a.0, k.0), k.1)
each_sorts P (moves s) a = let k = each_sorts P s a.1 in (k.0, (a.0, k.1))
each_sorts P (goes s) a = each_sorts P s a.1

each_both : {A : Type 0} (P : A → Type 0) (x y : List A) → Each P x → Each P y → Each P (x ++ y)
each_both P [] y a b = b
each_both P (h ∷ x) y a b = (a.0, each_both P x y a.1 b)

each_map : {A : Type 0} {P Q : A → Type 0} → ((x : A) → P x → Q x) → (l : List A) → Each P l → Each Q l
each_map f [] a = tt
each_map f (x ∷ l) a = (f x a.0, each_map f l a.1)

-- ---- what each call of the model does with the records

record Shifted (c c' : Client) : Type 0 where
  move : List Held
  stay : List Held
  replies : Sorts c.replies c'.replies move
  events : Sorts c.events stay []
  behind_is : c'.events ≡ stay ++ each as_event move

-- the replies are sorted, and the events stay
stayed : (c c' : Client) (move : List Held) → Sorts c.replies c'.replies move → c'.events ≡ c.events ++ each as_event move → Shifted c c'
stayed c c' move s e = record { move = move; stay = c.events; replies = s; events = sorts_all c.events; behind_is = e }

same : (c c' : Client) → c'.replies ≡ c.replies → c'.events ≡ c.events → Shifted c c'
same c c' p q = stayed c c' [] (rw p (sorts_all c.replies)) (q ∙ sym (append-nil c.events))

abbrev Shifts : {A : Type 0} → Client → Answer (A × Client) → Type 0
Shifts c (gives x) = Shifted c x.1
Shifts c (refuses n) = Unit {0}

shifts_refuse : {A : Type 0} (c : Client) (b : Bool) (n : ℕ) (a : Answer (A × Client)) → Shifts c a → Shifts c (refuse b n a)
unfolding refuse
shifts_refuse c true n a k = tt
shifts_refuse c false n a k = k

shifts_choose : {A : Type 0} (c : Client) (b : Bool) (x y : Answer (A × Client)) → Shifts c x → Shifts c y → Shifts c (choose b x y)
unfolding choose
shifts_choose c true x y k l = k
shifts_choose c false x y k l = l

shifts_pass : {A B : Type 0} (c : Client) (x : Answer A) (f : A → Answer (B × Client)) → ((y : A) → Shifts c (f y)) → Shifts c (pass x f)
unfolding pass
shifts_pass c (gives y) f k = k y
shifts_pass c (refuses n) f k = tt

shifts_send : (c : Client) (kind : ReplyFdKind) → Shifts c (send_request c kind)
unfolding send_request
shifts_send c kind = shifts_pass c _ _ (λ n. shifts_refuse c _ 5 _ (same c _ refl refl))

shifts_fds : (c : Client) (list : List ℕ) → Shifts c (enqueue_fds c list)
unfolding enqueue_fds
shifts_fds c list = shifts_refuse c _ 5 _ (same c _ refl refl)

shifts_closed : (c : Client) (places : ℕ) → Shifts c (take_closed c places)
unfolding take_closed
shifts_closed c places = shifts_refuse c _ 8 _ (same c _ refl refl)

-- discarding: of the records of the number all go, or the errors move
gone : (n : ℕ) (l : List Held) → Sorts l (not_of n l) []
unfolding not_of choose
gone n [] = none
gone n (h ∷ l) = go (gone n l) (eqb h.number n)
  where
    go : Sorts l (not_of n l) [] → (b : Bool) → Sorts (h ∷ l) (choose b (not_of n l) (h ∷ not_of n l)) []
    go k true = goes k
    go k false = stays k

abbrev Errors : ℕ → List Held → Type 0
Errors n l = (errors : List Held) × Sorts l (not_of n l) errors × (errors_of (of_number n l) ≡ each as_event errors)

errors_of_lem : (n : ℕ) (l : List Held) → Errors n l
unfolding not_of of_number errors_of choose
errors_of_lem n [] = ([], none, refl)
errors_of_lem n (h ∷ l) = outer (errors_of_lem n l) (eqb h.number n)
  where
    -- one of the number, by whether it is an error
    inner : Errors n l → (e : Bool) → (errors : List Held) × Sorts (h ∷ l) (not_of n l) errors × (choose e (as_event h ∷ errors_of (of_number n l)) (errors_of (of_number n l)) ≡ each as_event errors)
    inner k true = (h ∷ k.0, moves k.1, ap (λ y. as_event h ∷ y) k.2)
    inner k false = (k.0, goes k.1, k.2)

    outer : Errors n l → (b : Bool) → (errors : List Held) × Sorts (h ∷ l) (choose b (not_of n l) (h ∷ not_of n l)) errors × (errors_of (choose b (h ∷ of_number n l) (of_number n l)) ≡ each as_event errors)
    outer k true = inner k (is_error h)
    outer k false = (k.0, stays k.1, k.2)

-- setting a mode leaves them
choose_kept : {B : Type 0} (f : Client → B) (b : Bool) (x c : Client) → f x ≡ f c → f (choose b x c) ≡ f c
unfolding choose
choose_kept f true x c e = e
choose_kept f false x c e = refl

mode_kept : (c : Client) (n : ℕ) (m : DiscardMode) → ((with_mode c n m).replies ≡ c.replies) × ((with_mode c n m).events ≡ c.events)
unfolding with_mode
mode_kept c n m = (choose_kept (λ y. y.replies) _ _ c refl, choose_kept (λ y. y.events) _ _ c refl)

shifted_from : (c d c' : Client) → (d.replies ≡ c.replies) × (d.events ≡ c.events) → Shifted d c' → Shifted c c'
shifted_from c d c' e k = record { move = k.move; stay = k.stay; replies = rw e.0 at k.replies; events = rw e.1 at k.events; behind_is = k.behind_is }

shifted_discarding : (m : DiscardMode) (n : ℕ) (c : Client) → Shifted c (discarding m n c)
shifted_discarding DiscardMode.DiscardReply n c =
    let k = errors_of_lem n c.replies in
    stayed c _ k.0 k.1 (ap (λ y. c.events ++ y) k.2)
shifted_discarding DiscardMode.DiscardReplyAndError n c = stayed c _ [] (gone n c.replies) (sym (append-nil c.events))

shifts_discard : (c : Client) (n : ℕ) (m : DiscardMode) → Shifts c (discard_reply c n m)
unfolding discard_reply
shifts_discard c n m = shifted_from c (with_mode c n m) _ (mode_kept c n m) (shifted_discarding m n (with_mode c n m))

-- polling: the record that is found goes, or moves
abbrev FoundIn : List Held → Found → Type 0
FoundIn l nothing = Unit {0}
FoundIn l (at h rest) = Sorts l rest [] × Sorts l rest (h ∷ [])

found_in : (n : ℕ) (l : List Held) → FoundIn l (find n l)
unfolding find choose
found_in n [] = tt
found_in n (h ∷ l) = go (eqb h.number n) (find n l) (found_in n l)
  where
    go : (b : Bool) (f : Found) → FoundIn l f → FoundIn (h ∷ l) (choose b (at h l) (behind h f))
    go true f k = (goes (sorts_all l), moves (sorts_all l))
    go false nothing k = tt
    go false (at x rest) k = (stays k.0, stays k.1)

-- the found record goes
found_gone : (c c' : Client) (rest : List Held) → Sorts c.replies rest [] → c'.replies ≡ rest → c'.events ≡ c.events → Shifted c c'
found_gone c c' rest s p q = stayed c c' [] (rw p s) (q ∙ sym (append-nil c.events))

shifts_taken : (c : Client) (bytes places : ℕ) (f : Found) → FoundIn c.replies f → Shifts c (taken_by c bytes places f)
shifts_taken c bytes places nothing k = same c c refl refl
shifts_taken c bytes places (at h rest) k = shifts_refuse c _ 8 _ (found_gone c _ rest k.0 refl refl)

shifts_checked : (c : Client) (n bytes : ℕ) (f : Found) → FoundIn c.replies f → Shifts c (checked_by c n bytes f)
shifts_checked c n bytes nothing k = same c c refl refl
shifts_checked c n bytes (at h rest) k = shifts_refuse c _ 8 _ (found_gone c _ rest k.0 refl refl)

shifts_replied : (c : Client) (bytes : ℕ) (f : Found) → FoundIn c.replies f → Shifts c (replied_by c bytes f)
shifts_replied c bytes nothing k = same c c refl refl
shifts_replied c bytes (at h rest) k = shifts_choose c _ _ _ (stayed c _ (h ∷ []) k.1 refl) (shifts_refuse c _ 8 _ (found_gone c _ rest k.0 refl refl))

shifts_event : (c : Client) (bytes : ℕ) (l : List Held) → l ≡ c.events → Shifts c (event_by c bytes l)
shifts_event c bytes [] e = same c c refl refl
shifts_event c bytes (h ∷ l) e =
    shifts_refuse c _ 8 _ (record { move = []; stay = l; replies = sorts_all c.replies; events = rw (sym e) (goes (sorts_all l)); behind_is = sym (append-nil l) })

shifted_outcome : {A : Type 0} (f : A → Said) (c : Client) (a : Answer (A × Client)) → Shifts c a → Shifted c (outcome f c a).next
shifted_outcome f c (gives x) k = k
shifted_outcome f c (refuses n) k = same c c refl refl

shifted_step : (c : Client) (z : Call) → Own z → Shifted c (step c z).next
unfolding step poll_for_reply_or_error poll_check poll_for_reply poll_for_event
shifted_step c (send kind) o = shifted_outcome _ c (send_request c kind) (shifts_send c kind)
shifted_step c (enqueue_fds_ask list) o = shifted_outcome _ c (enqueue_fds c list) (shifts_fds c list)
shifted_step c (enqueue p) o = absurd o
shifted_step c (discard n m) o = shifted_outcome _ c (discard_reply c n m) (shifts_discard c n m)
shifted_step c (poll n bytes places) o = shifted_outcome _ c (poll_for_reply_or_error c n bytes places) (shifts_taken c bytes places (find n c.replies) (found_in n c.replies))
shifted_step c (check n bytes) o = shifted_outcome _ c (poll_check c n bytes) (shifts_checked c n bytes (find n c.replies) (found_in n c.replies))
shifted_step c (poll_reply n bytes) o = shifted_outcome _ c (poll_for_reply c n bytes) (shifts_replied c bytes (find n c.replies) (found_in n c.replies))
shifted_step c (prepare n) o = same c c refl refl
shifted_step c (poll_event bytes) o = shifted_outcome _ c (poll_for_event c bytes) (shifts_event c bytes c.events refl)
shifted_step c (take_closed_ask places) o = shifted_outcome _ c (take_closed c places) (shifts_closed c places)

-- ---- EVERY RUN's records can be followed.

abbrev held_of : Followed → Held
held_of f = f.held

each_turned : (l : List Followed) → each held_of (each turned_event l) ≡ each as_event (each held_of l)
each_turned [] = refl
each_turned (f ∷ l) = ap (λ y. as_event f.held ∷ y) (each_turned l)

-- what a call does with the records it does with those that are followed
followed : (x : Lists) (c c' : Client) → OfClient x c → Shifted c c' → (y : Lists) × Moved x y × OfClient y c'
followed x c c' e k =
    let a : Lifted held_of x.replies c'.replies k.move = lifted held_of x.replies (rw e.0 k.replies) in
    let b : Lifted held_of x.events k.stay [] = lifted held_of x.events (rw e.1 k.events) in (
      lists a.staying (b.staying ++ each turned_event a.moving),
      record { move = a.moving; stay = b.staying; replies = a.sorted; events = none_moves b; behind = refl },
      (
        a.stay_is,
        each_append held_of b.staying _ ∙ (λ i. b.stay_is i ++ (each_turned a.moving ∙ ap (λ y. each as_event y) a.move_is) i) ∙ sym k.behind_is,
      ),
    )
  where
    none_moves : {stay : List Held} (b : Lifted held_of x.events stay []) → Sorts x.events b.staying []
    none_moves b = subst (λ (y : List Followed). Sorts x.events b.staying y) (empty b.moving b.move_is) b.sorted
      where
        empty : (l : List Followed) → each held_of l ≡ [] → l ≡ []
        empty [] q = refl
        empty (f ∷ l) q = absurd (omega (arith, ap length q))

-- a packet that is taken in comes last of the client's list too
joined_lands : (place : Place) (f : Followed) (x : Lists) (c c' : Client) → Lands place f.held c c' → OfClient x c → OfClient (joined place f x) c'
joined_lands Place.Replies f x c c' e h = (each_append held_of x.replies (f ∷ []) ∙ ap (λ y. y ++ (f.held ∷ [])) h.0 ∙ sym e.0, h.1 ∙ sym e.1)
joined_lands Place.Events f x c c' e h = (h.0 ∙ sym e.0, each_append held_of x.events (f ∷ []) ∙ ap (λ y. y ++ (f.held ∷ [])) h.1 ∙ sym e.1)
joined_lands Place.Dropped f x c c' e h = (h.0 ∙ sym e.0, h.1 ∙ sym e.1)

joined_client : (f : Filing → Said) (c : Client) (p : List ℕ) (l : List Entry) (x : Lists) (a : Answer (Filing × Client)) → a ≡ enqueue_packet c p → OfClient x c → OfClient (joined_by c p l a x) (outcome f c a).next
joined_client f c p l x (refuses n) e h = h
joined_client f c p l x (gives y) e h =
    let k = taking c p y e in
    let n : k.n ≡ y.0.number = ap (λ z. z.number) (sym k.filing_is) in
    joined_lands y.0.place (record { held = held_as c p y.0.number; origin = length (packets_in l) }) x c y.1 (rw n at (lands c p y k)) h

pub traced_client : {c : Client} {l : List Entry} {r : Runs c l} {x : Lists} → Traced c l r x → OfClient x c
unfolding step
traced_client (Origins.nothing o k s) = (refl, refl)
traced_client (takes {c = c} {l = l} {x = x} p t h) = joined_client _ c p l x (enqueue_packet c p) refl (traced_client h)
traced_client (after z t y o h m e) = e

on : {c : Client} {l : List Entry} {r : Runs c l} (z : Call) (t : ℕ) → Own z → Trace r → Trace (call z t r)
on {c} z t o k =
    let y = followed k.records c (step c z).next (traced_client k.traced) (shifted_step c z o) in
    record { records = y.0; traced = after z t y.0 o k.traced y.1 y.2 }

pub runs_traced : {c : Client} {l : List Entry} (r : Runs c l) → Trace r
runs_traced (start o k s) = record { records = lists [] []; traced = Origins.nothing o k s }
runs_traced (call (send kind) t r) = on (send kind) t tt (runs_traced r)
runs_traced (call (enqueue_fds_ask list) t r) = on (enqueue_fds_ask list) t tt (runs_traced r)
runs_traced (call {c = c} {log = l} (enqueue p) t r) = let k = runs_traced r in record { records = joined_by c p l (enqueue_packet c p) k.records; traced = takes p t k.traced }
runs_traced (call (discard n m) t r) = on (discard n m) t tt (runs_traced r)
runs_traced (call (poll n bytes places) t r) = on (poll n bytes places) t tt (runs_traced r)
runs_traced (call (check n bytes) t r) = on (check n bytes) t tt (runs_traced r)
runs_traced (call (poll_reply n bytes) t r) = on (poll_reply n bytes) t tt (runs_traced r)
runs_traced (call (prepare n) t r) = on (prepare n) t tt (runs_traced r)
runs_traced (call (poll_event bytes) t r) = on (poll_event bytes) t tt (runs_traced r)
runs_traced (call (take_closed_ask places) t r) = on (take_closed_ask places) t tt (runs_traced r)

-- ---- TIED: where the numbers are right, each record bears the true number of the very packet that it came from.

at_grown : (l m : List Packet) (k : ℕ) (p : Packet) → At l k p → At (l ++ m) k p
at_grown [] m k p h = absurd h
at_grown (q ∷ l) m zero p h = h
at_grown (q ∷ l) m (suc k) p h = at_grown l m k p h

at_last : (l : List Packet) (p : Packet) → At (l ++ (p ∷ [])) (length l) p
at_last [] p = refl
at_last (q ∷ l) p = at_last l p

-- what is tied stays so as the log grows
pub tied_grown : (ps qs : List Packet) (x : Lists) → AllTied ps x → AllTied (ps ++ qs) x
tied_grown ps qs x h = (each_map grown x.replies h.0, each_map grown x.events h.1)
  where
    grown : (f : Followed) → Tied ps f → Tied (ps ++ qs) f
    grown f k e = at_grown ps qs f.origin _ (k e)

tied_joined : (place : Place) (f : Followed) (l : List Packet) (x : Lists) → AllTied l x → Tied l f → AllTied l (joined place f x)
tied_joined Place.Replies f l x h k = (each_both (Tied l) x.replies (f ∷ []) h.0 (k, tt), h.1)
tied_joined Place.Events f l x h k = (h.0, each_both (Tied l) x.events (f ∷ []) h.1 (k, tt))
tied_joined Place.Dropped f l x h k = h

-- a packet: it is the last of the log
tied_took : (c : Client) (l : List Entry) (x : Lists) (t : ℕ) (p : List ℕ) (a : Answer (Filing × Client)) → Right (note_took t p a l) → (Right l → AllTied (packets_in l) x) → AllTied (packets_in (note_took t p a l)) (joined_by c p l a x)
unfolding note_took packets_in choose
tied_took c l x t p (refuses n) q h = h q
tied_took c l x t p (gives y) q h = go (unnumbered (code_of p)) refl q
  where
    new : Followed
    new = record { held = held_as c p y.0.number; origin = length (packets_in l) }

    go : (b : Bool) → unnumbered (code_of p) ≡ b → Right (choose b l (took t p y.0 ∷ l)) → AllTied (packets_in (choose b l (took t p y.0 ∷ l))) (joined y.0.place new x)
    go true e q = tied_joined y.0.place new (packets_in l) x (h q) (λ z. apart e z)
    go false e q =
        tied_joined y.0.place new (packets_in l ++ (record { true_number = t; bytes = p } ∷ [])) x (tied_grown (packets_in l) _ x (h q.1))
        (λ z. subst (λ (n : ℕ). At (packets_in l ++ (record { true_number = t; bytes = p } ∷ [])) (length (packets_in l)) (record { true_number = n; bytes = p })) (sym q.0) (at_last (packets_in l) (record { true_number = t; bytes = p })))

-- other calls bring no packet
sent_same : {A : Type 0} (b : Bool) (a : Answer A) (l : List Entry) → (packets_in (note_sent b a l) ≡ packets_in l) × (Right (note_sent b a l) → Right l)
unfolding note_sent packets_in
sent_same b (gives x) l = (refl, λ r. r)
sent_same b (refuses n) l = (refl, λ r. r)

own_same : (c : Client) (z : Call) (t : ℕ) (l : List Entry) → Own z → (packets_in (noted c z t l) ≡ packets_in l) × (Right (noted c z t l) → Right l)
unfolding noted
own_same c (send kind) t l o = sent_same (has_reply kind) (send_request c kind) l
own_same c (enqueue_fds_ask list) t l o = (refl, λ r. r)
own_same c (enqueue p) t l o = absurd o
own_same c (discard n m) t l o = (refl, λ r. r)
own_same c (poll n bytes places) t l o = (refl, λ r. r)
own_same c (check n bytes) t l o = (refl, λ r. r)
own_same c (poll_reply n bytes) t l o = (refl, λ r. r)
own_same c (prepare n) t l o = (refl, λ r. r)
own_same c (poll_event bytes) t l o = (refl, λ r. r)
own_same c (take_closed_ask places) t l o = (refl, λ r. r)

tied_turned : (l : List Packet) (fs : List Followed) → Each (Tied l) fs → Each (Tied l) (each turned_event fs)
tied_turned l [] a = tt
tied_turned l (f ∷ fs) a = (a.0, tied_turned l fs a.1)

tied_moved : (l : List Packet) (x y : Lists) → Moved x y → AllTied l x → AllTied l y
tied_moved l x y m h =
    let a = each_sorts (Tied l) m.replies h.0 in
    let b = each_sorts (Tied l) m.events h.1 in
    (a.0, rw m.behind (each_both (Tied l) m.stay _ b.0 (tied_turned l m.move a.1)))

pub traced_tied : {c : Client} {l : List Entry} {r : Runs c l} {x : Lists} → Traced c l r x → Right l → AllTied (packets_in l) x
unfolding noted
traced_tied (Origins.nothing o k s) q = (tt, tt)
traced_tied (takes {c = c} {l = l} {x = x} p t h) q = tied_took c l x t p (enqueue_packet c p) q (λ w. traced_tied h w)
traced_tied (after {c = c} {l = l} {x = x} z t y o h m e) q =
    let s = own_same c z t l o in
    subst (λ (k : List Packet). AllTied k y) (sym s.0) (tied_moved (packets_in l) x y m (traced_tied h (s.1 q)))

-- ---- a record that is held is one of them

any_first : {A : Type 0} (P : A → Type 0) (x y : List A) → Any P x → Any P (x ++ y)
any_first P [] y h = absurd h
any_first P (a ∷ x) y (inl h) = inl h
any_first P (a ∷ x) y (inr h) = inr (any_first P x y h)

any_second : {A : Type 0} (P : A → Type 0) (x y : List A) → Any P y → Any P (x ++ y)
any_second P [] y h = h
any_second P (a ∷ x) y h = inr (any_second P x y h)

abbrev Is : List Packet → Held → Followed → Type 0
Is l h f = (f.held ≡ h) × Tied l f

-- of the records xs, that are among the ys
among : (l : List Packet) (xs ys : List Followed) → ((h : Held) → Any (Is l h) xs → Any (Is l h) ys) → Each (Tied l) xs → Each (λ h. Any (Is l h) ys) (each held_of xs)
among l [] ys into a = tt
among l (f ∷ xs) ys into a = (into f.held (inl (refl, a.0)), among l xs ys (λ h k. into h (inr k)) a.1)

pub holds_one : (c : Client) (l : List Packet) (x : Lists) → OfClient x c → AllTied l x → Holds (OneOf l x) c
holds_one c l x e a = (
  rw e.0 at (among l x.replies (x.replies ++ x.events) (λ h k. any_first (Is l h) x.replies x.events k) a.0),
  rw e.1 at (among l x.events (x.replies ++ x.events) (λ h k. any_second (Is l h) x.replies x.events k) a.1),
)
