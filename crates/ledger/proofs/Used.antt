-- What each call does to what is used. Assumes nothing.
use Rattle.std.specs.Prelude.{Bool, true, false, List, [], ◌∷◌, ◌≡◌, refl, ℕ, ◌+◌, ltb, length, drop}
use Rattle.std.proofs.Common.{sym, ap, subst, arith}
use Rattle.octets.specs.Logic.{choose}
use Rattle.refusal.specs.Answer.{Answer, refuse}
use Rattle.held.specs.Head.{header_size}
use Rattle.model.specs.Client.{Held, Client, set_waiting, costs, used, arriving}
use Rattle.model.proofs.Deciding.{enqueue_chain}
use Rattle.model.specs.Model as Model
use Rattle.packet.specs.Packet.{packet_class}
use Rattle.model.specs.Model.{send_request, enqueue_fds, take_closed, numbered, asked_of, place_of, claimed, is_held, Filing, take_in, enqueue_packet, as_event, Found, at, find, taken_by, poll_for_reply_or_error, checked_by, poll_check, replied_by, poll_for_reply, event_by, poll_for_event}
use Rattle.model.specs.Calls.{Call, send, enqueue_fds_ask, enqueue, discard, poll, check, poll_reply, prepare, poll_event, take_closed_ask, Said, number, done, closed, refused, Step, step, outcome, says_filing, says_taken, says_poll}
use Rattle.model.specs.declared.Place.{Place}
use Rattle.ledger.specs.Room.{cost_of, added, given_back, NoDiscard}
use Rattle.ledger.specs.Saying.{by_refuse, by_choose, by_pass}
use Rattle.ledger.specs.Moving.{costs_append, costs_one, CostsFound, costs_find}

-- after the call and with what it gives back, as much is used as before and with what it adds
abbrev Uses : Client → Call → Step → Type 0
Uses c x s = used s.next + given_back s.said ≡ used c + added x s.said

uses_refused : (c : Client) (x : Call) (n : ℕ) → Uses c x (record { said = refused n; next = c })
unfolding given_back added cost_of
uses_refused c (send kind) n = refl
uses_refused c (enqueue_fds_ask list) n = refl
uses_refused c (enqueue p) n = refl
uses_refused c (discard k m) n = refl
uses_refused c (poll k bytes places) n = refl
uses_refused c (check k bytes) n = refl
uses_refused c (poll_reply k bytes) n = refl
uses_refused c (prepare k) n = refl
uses_refused c (poll_event bytes) n = refl
uses_refused c (take_closed_ask places) n = refl

module _ {A : Type 0} (f : A → Said) (c : Client) (x : Call) where
  uses_refuse : (b : Bool) (n : ℕ) (a : Answer (A × Client)) → Uses c x (outcome f c a) → Uses c x (outcome f c (refuse b n a))
  uses_refuse b n a k = by_refuse (Uses c x) f c (uses_refused c x) b n a k

-- ---- taking

taken_uses : (c : Client) (n bytes places : ℕ) (y : Found) → CostsFound (costs c.replies) y → Uses c (poll n bytes places) (outcome says_taken c (taken_by c bytes places y))
unfolding given_back added
taken_uses c n bytes places Model.nothing k = refl
taken_uses c n bytes places (at h l) k = uses_refuse says_taken c (poll n bytes places) _ 8 _ (omega arith)

checked_uses : (c : Client) (n bytes : ℕ) (y : Found) → CostsFound (costs c.replies) y → Uses c (check n bytes) (outcome says_poll c (checked_by c n bytes y))
unfolding given_back added choose
checked_uses c n bytes Model.nothing k = go (ltb n c.numbers.read)
  where
    go : (b : Bool) → Uses c (check n bytes) (record { said = says_poll (choose b Model.no_reply Model.try_again); next = c })
    go true = refl
    go false = refl
checked_uses c n bytes (at h l) k = uses_refuse says_poll c (check n bytes) _ 8 _ (omega arith)

replied_uses : (c : Client) (n bytes : ℕ) (y : Found) → CostsFound (costs c.replies) y → Uses c (poll_reply n bytes) (outcome says_poll c (replied_by c bytes y))
unfolding given_back added
replied_uses c n bytes Model.nothing k = refl
replied_uses c n bytes (at h l) k =
    by_choose (Uses c (poll_reply n bytes)) says_poll c (uses_refused c (poll_reply n bytes)) _ _ _ (omega (arith, costs_append c.events (as_event h ∷ []), costs_one (as_event h)))
    (uses_refuse says_poll c (poll_reply n bytes) _ 8 _ (omega arith))

event_uses : (c : Client) (bytes : ℕ) (l : List Held) → l ≡ c.events → Uses c (poll_event bytes) (outcome says_taken c (event_by c bytes l))
unfolding given_back added costs
event_uses c bytes [] e = refl
event_uses c bytes (h ∷ l) e = uses_refuse says_taken c (poll_event bytes) _ 8 _ (omega (arith, ap costs e))

-- ---- intake

filed_uses : (c : Client) (p : List ℕ) (n k : ℕ) (place : Place)
    → used (Model.filed place (arriving c p n k) (set_waiting (numbered c p n) (drop k c.waiting))) ≡ used c + choose (is_held place) (header_size + length p) 0
unfolding numbered choose
filed_uses c p n k Place.Replies =
    omega (arith, costs_append c.replies (arriving c p n k ∷ []), costs_one (arriving c p n k))
filed_uses c p n k Place.Events =
    omega (arith, costs_append c.events (arriving c p n k ∷ []), costs_one (arriving c p n k))
filed_uses c p n k Place.Dropped = omega arith

packet_uses : (c : Client) (p : List ℕ) → Uses c (enqueue p) (outcome says_filing c (enqueue_packet c p))
unfolding take_in given_back added cost_of
packet_uses c p =
    subst (λ (x : Answer (Filing × Client)). Uses c (enqueue p) (outcome says_filing c x)) (sym (enqueue_chain c p))
    (uses_refuse says_filing c (enqueue p) _ 1 _
    (uses_refuse says_filing c (enqueue p) _ 2 _
    (by_pass (Uses c (enqueue p)) says_filing c (uses_refused c (enqueue p)) _ _
    (λ n.
    uses_refuse says_filing c (enqueue p) _ 20 _
    (uses_refuse says_filing c (enqueue p) _ 4 _
    (uses_refuse says_filing c (enqueue p) _ 5 _ (omega (arith, filed_uses c p n (claimed p (asked_of c n)) (place_of (packet_class p) (asked_of c n))))))))))

-- ---- every call but a discard

pub uses : (c : Client) (x : Call) → NoDiscard x → Uses c x (step c x)
unfolding step send_request enqueue_fds take_closed poll_for_reply_or_error poll_check poll_for_reply poll_for_event given_back added
uses c (send kind) o = by_pass (Uses c (send kind)) number c (uses_refused c (send kind)) _ _ (λ n. uses_refuse number c (send kind) _ 5 _ refl)
uses c (enqueue_fds_ask list) o = uses_refuse (λ x. done) c (enqueue_fds_ask list) _ 5 _ refl
uses c (enqueue p) o = packet_uses c p
uses c (discard n m) o = absurd o
uses c (poll n bytes places) o = taken_uses c n bytes places (find n c.replies) (costs_find n c.replies)
uses c (check n bytes) o = checked_uses c n bytes (find n c.replies) (costs_find n c.replies)
uses c (poll_reply n bytes) o = replied_uses c n bytes (find n c.replies) (costs_find n c.replies)
uses c (prepare n) o = refl
uses c (poll_event bytes) o = event_uses c bytes c.events refl
uses c (take_closed_ask places) o = uses_refuse closed c (take_closed_ask places) _ 8 _ refl
