-- What a call hands out is a record that was held. Assumes nothing.
use Rattle.std.specs.Prelude.{Bool, ℕ, ltb}
use Rattle.std.proofs.Math.Bool.{true, false}
use mathlib.Core.List.{List, [], ◌∷◌}
use Rattle.octets.specs.Logic.{choose}
use Rattle.refusal.specs.Answer.{Answer, gives, refuses, refuse}
use Rattle.model.specs.Client.{Held, Client}
use Rattle.model.specs.Model.{send_request, enqueue_fds, take_closed, enqueue_packet, is_error, discard_reply, Found, nothing, at, behind, find, Taken, none, packet, PollReply, try_again, no_reply, reply, taken_by, poll_for_reply_or_error, checked_by, poll_check, replied_by, poll_for_reply, event_by, poll_for_event}
use Rattle.model.specs.Calls.{Call, send, enqueue_fds_ask, enqueue, discard, poll, check, poll_reply, prepare, poll_event, take_closed_ask, Said, step, outcome}
use Rattle.model.specs.Batch.{Each}
use Rattle.honest.specs.Run.{Holds, Hands}

module _ (P : Held → Type 0) where
  -- the record that is found, and those that stay
  All-found : Found → Type 0
  All-found nothing = Unit {0}
  All-found (at h l) = P h × Each P l

  all_behind : (h : Held) (f : Found) → P h → All-found f → All-found (behind h f)
  unfolding All-found
  all_behind h nothing p a = tt
  all_behind h (at x l) p a = (a.0, (p, a.1))

  found_choose : (b : Bool) (x y : Found) → All-found x → All-found y → All-found (choose b x y)
  unfolding choose
  found_choose true x y p q = p
  found_choose false x y p q = q

  all_find : (n : ℕ) (l : List Held) → Each P l → All-found (find n l)
  unfolding find All-found
  all_find n [] a = tt
  all_find n (h ∷ l) a = found_choose _ (at h l) (behind h (find n l)) (a.0, a.1) (all_behind h (find n l) a.0 (all_find n l a.1))

-- ---- what a call hands out was held

module _ (P : Held → Type 0) (c : Client) where
  hands_any : {A : Type 0} (g : A → Said) → ((v : A) → Hands P (g v)) → (a : Answer (A × Client)) → Hands P (outcome g c a).said
  hands_any g k (gives x) = k x.0
  hands_any g k (refuses n) = tt

  hands_refuse : {A : Type 0} (g : A → Said) (b : Bool) (n : ℕ) (a : Answer (A × Client)) → Hands P (outcome g c a).said → Hands P (outcome g c (refuse b n a)).said
  unfolding refuse
  hands_refuse g true n a k = tt
  hands_refuse g false n a k = k

  -- a poll of each kind, whatever it says of nothing
  module _ (g : Taken → Said) (none_so : Hands P (g none)) (packet-so : (h : Held) → P h → Hands P (g (packet h))) where
    hands_taken : (bytes places : ℕ) (f : Found) → All-found P f → Hands P (outcome g c (taken_by c bytes places f)).said
    unfolding All-found
    hands_taken bytes places nothing q = none_so
    hands_taken bytes places (at h l) q = hands_refuse g _ 8 _ (packet-so h q.0)

    hands_event : (bytes : ℕ) (l : List Held) → Each P l → Hands P (outcome g c (event_by c bytes l)).said
    hands_event bytes [] q = none_so
    hands_event bytes (h ∷ l) q = hands_refuse g _ 8 _ (packet-so h q.0)

  module _ (g : PollReply → Said) (again-so : Hands P (g try_again)) (none_so : Hands P (g no_reply)) (reply-so : (h : Held) → P h → Hands P (g (reply h))) where
    hands_checked : (n bytes : ℕ) (f : Found) → All-found P f → Hands P (outcome g c (checked_by c n bytes f)).said
    unfolding All-found choose
    hands_checked n bytes nothing q = go (ltb n c.numbers.read)
      where
        go : (b : Bool) → Hands P (g (choose b no_reply try_again))
        go true = none_so
        go false = again-so
    hands_checked n bytes (at h l) q = hands_refuse g _ 8 _ (reply-so h q.0)

    hands_replied : (bytes : ℕ) (f : Found) → All-found P f → Hands P (outcome g c (replied_by c bytes f)).said
    unfolding All-found choose
    hands_replied bytes nothing q = again-so
    hands_replied bytes (at h l) q = go (is_error h) _ _ none_so (hands_refuse g _ 8 _ (reply-so h q.0))
      where
        go : (b : Bool) (x y : Answer (PollReply × Client)) → Hands P (outcome g c x).said → Hands P (outcome g c y).said → Hands P (outcome g c (choose b x y)).said
        go true x y k m = k
        go false x y k m = m

  pub hands : (x : Call) → Holds P c → Hands P (step c x).said
  unfolding step poll_for_reply_or_error poll_check poll_for_reply poll_for_event
  hands (send kind) a = hands_any _ (λ v. tt) (send_request c kind)
  hands (enqueue_fds_ask list) a = hands_any _ (λ v. tt) (enqueue_fds c list)
  hands (enqueue p) a = hands_any _ (λ v. tt) (enqueue_packet c p)
  hands (discard n m) a = hands_any _ (λ v. tt) (discard_reply c n m)
  hands (poll n bytes places) a = hands_taken _ tt (λ h k. k) bytes places (find n c.replies) (all_find P n c.replies a.0)
  hands (check n bytes) a = hands_checked _ tt tt (λ h k. k) n bytes (find n c.replies) (all_find P n c.replies a.0)
  hands (poll_reply n bytes) a = hands_replied _ tt tt (λ h k. k) bytes (find n c.replies) (all_find P n c.replies a.0)
  hands (prepare n) a = tt
  hands (poll_event bytes) a = hands_event _ tt (λ h k. k) bytes c.events a.1
  hands (take_closed_ask places) a = hands_any _ (λ v. tt) (take_closed c places)
