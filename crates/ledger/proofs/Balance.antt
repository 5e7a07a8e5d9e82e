-- Each call of the model balances: descriptors move between the three lists, come in by `enqueue_fds` and leave by two calls. Assumes nothing.
use Rattle.std.specs.Prelude.{Bool, ◌≡◌, ℕ, ◌+◌, ◌%◌, ltb, length, take, drop}
use Rattle.std.proofs.Math.Bool.{true, false}
use mathlib.Core.List.{List, [], ◌∷◌, ◌++◌}
use Rattle.std.proofs.Math.Path.{refl, ap}
use Rattle.std.proofs.Common.{sym, ◌∙◌, subst, arith, take-append-drop}
use Rattle.octets.specs.Logic.{choose}
use Rattle.refusal.specs.Answer.{Answer, refuse, pass}
use Rattle.descriptors.specs.Room.{count}
use Rattle.descriptors.specs.Counting.{count_append, count_split}
use Rattle.model.specs.Client.{Held, Client, set_replies, set_events, set_waiting, set_closing, descriptors_of, arriving}
use Rattle.model.proofs.Deciding.{enqueue_chain}
use Rattle.model.specs.Model as Model
use Rattle.packet.specs.Packet.{packet_class}
use Rattle.model.specs.Model.{fresh, send_request, enqueue_fds, take_closed, close, as_event, numbered, asked_of, place_of, claimed, Filing, take_in, enqueue_packet, with_mode, of_number, not_of, above, closing_order, discarding, discard_reply, Found, at, find, Taken, taken_by, poll_for_reply_or_error, checked_by, poll_check, replied_by, poll_for_reply, event_by, poll_for_event}
use Rattle.model.specs.Calls.{Call, send, enqueue_fds_ask, enqueue, discard, poll, check, poll_reply, prepare, poll_event, take_closed_ask, Said, done, closed, refused, step, outcome, run, says_taken, says_poll}
use Rattle.model.specs.declared.ReplyFdKind.{ReplyFdKind}
use Rattle.model.specs.declared.DiscardMode.{DiscardMode}
use Rattle.model.specs.declared.Place.{Place}
use Rattle.filing.specs.Theorems.{event_claims}
use Rattle.ledger.specs.Sums.{Adds, sum_append, sum_number, sum_find}
use Rattle.ledger.specs.Saying.{by_refuse, by_choose, by_pass}
use Rattle.ledger.specs.Descriptors.{within, unless_refused, accepted, took_with, closed_by, handed_out, Balances, accepted_in, handed_in}

-- how often one is inside, list by list
pub count_within : (d : ℕ) (c : Client) → count d (within c) ≡ count d c.waiting + (count d (descriptors_of c.replies) + count d c.closing)
unfolding within
count_within d c = omega (arith, count_append d c.waiting (descriptors_of c.replies ++ c.closing), count_append d (descriptors_of c.replies) c.closing)

-- ---- refusals

balances_refused : (c : Client) (x : Call) (n : ℕ) → Balances c x (record { said = refused n; next = c })
unfolding accepted unless_refused handed_out took_with closed_by
balances_refused c (send kind) n d = refl
balances_refused c (enqueue_fds_ask list) n d = refl
balances_refused c (enqueue p) n d = refl
balances_refused c (discard k m) n d = refl
balances_refused c (poll k bytes places) n d = refl
balances_refused c (check k bytes) n d = refl
balances_refused c (poll_reply k bytes) n d = refl
balances_refused c (prepare k) n d = refl
balances_refused c (poll_event bytes) n d = refl
balances_refused c (take_closed_ask places) n d = refl

module _ {A : Type 0} (f : A → Said) (c : Client) (x : Call) where
  balances_refuse : (b : Bool) (n : ℕ) (a : Answer (A × Client)) → Balances c x (outcome f c a) → Balances c x (outcome f c (refuse b n a))
  balances_refuse b n a k = by_refuse (Balances c x) f c (balances_refused c x) b n a k

  balances_choose : (b : Bool) (y z : Answer (A × Client)) → Balances c x (outcome f c y) → Balances c x (outcome f c z) → Balances c x (outcome f c (choose b y z))
  balances_choose b y z k l = by_choose (Balances c x) f c (balances_refused c x) b y z k l

  balances_pass : {B : Type 0} (y : Answer B) (g : B → Answer (A × Client)) → ((v : B) → Balances c x (outcome f c (g v))) → Balances c x (outcome f c (pass y g))
  balances_pass y g k = by_pass (Balances c x) f c (balances_refused c x) y g k

-- ---- lists of held packets

count_of_none : (d : ℕ) → count d (descriptors_of []) ≡ 0
unfolding descriptors_of count
count_of_none d = refl

count_of_cons : (d : ℕ) (h : Held) (l : List Held) → count d (descriptors_of (h ∷ l)) ≡ count d h.descriptors + count d (descriptors_of l)
unfolding descriptors_of
count_of_cons d h l = count_append d h.descriptors (descriptors_of l)

count_of_append : (d : ℕ) (a b : List Held) → count d (descriptors_of (a ++ b)) ≡ count d (descriptors_of a) + count d (descriptors_of b)
count_of_append d = sum_append (λ h. count d h.descriptors) (λ l. count d (descriptors_of l)) (count_of_none d) (count_of_cons d)

count_of_number : (d n : ℕ) (l : List Held) → count d (descriptors_of (of_number n l)) + count d (descriptors_of (not_of n l)) ≡ count d (descriptors_of l)
count_of_number d = sum_number (λ h. count d h.descriptors) (λ l. count d (descriptors_of l)) (count_of_none d) (count_of_cons d)

abbrev CountFound : ℕ → ℕ → Found → Type 0
CountFound d = Adds (λ h. count d h.descriptors) (λ l. count d (descriptors_of l))

count_find : (d n : ℕ) (l : List Held) → CountFound d (count d (descriptors_of l)) (find n l)
count_find d = sum_find (λ h. count d h.descriptors) (λ l. count d (descriptors_of l)) (count_of_none d) (count_of_cons d)

-- in whatever turn
count_order : (d k : ℕ) (l : List Held) → count d (descriptors_of (closing_order k l)) ≡ count d (descriptors_of l)
unfolding closing_order
count_order d k l =
    let i : ℕ = k % length l in
    omega (arith, count_of_append d (drop i l) (take i l), count_of_append d (take i l) (drop i l), ap (λ (y : List Held). count d (descriptors_of y)) (take-append-drop i l))

-- ---- calls that move no descriptor

balances_send : (f : ℕ → Said) (c : Client) (kind : ReplyFdKind) → Balances c (send kind) (outcome f c (send_request c kind))
unfolding send_request within accepted handed_out
balances_send f c kind = balances_pass f c (send kind) _ _ (λ n. balances_refuse f c (send kind) _ 5 _ (λ d. refl))

balances_prepare : (c : Client) (n : ℕ) (said : Said) → Balances c (prepare n) (record { said = said; next = c })
unfolding accepted handed_out
balances_prepare c n said d = refl

balances_event : (f : Taken → Said) (c : Client) (bytes : ℕ) (l : List Held) → Balances c (poll_event bytes) (outcome f c (event_by c bytes l))
unfolding within accepted handed_out
balances_event f c bytes [] = λ d. refl
balances_event f c bytes (h ∷ l) = balances_refuse f c (poll_event bytes) _ 8 _ (λ d. refl)

-- ---- calls that bring descriptors, or take them away

balances_fds : (f : Unit → Said) (c : Client) (list : List ℕ) → unless_refused list (f tt) ≡ list → Balances c (enqueue_fds_ask list) (outcome f c (enqueue_fds c list))
unfolding enqueue_fds accepted handed_out count
balances_fds f c list e =
    balances_refuse f c (enqueue_fds_ask list) _ 5 _
    (λ d. omega (arith, ap (count d) e, count_within d c, count_within d (set_waiting c (c.waiting ++ list)), count_append d c.waiting list))

balances_closed : (f : List ℕ → Said) (c : Client) (places : ℕ) → ((l : List ℕ) → closed_by (f l) ≡ l) → Balances c (take_closed_ask places) (outcome f c (take_closed c places))
unfolding take_closed accepted handed_out count
balances_closed f c places e =
    balances_refuse f c (take_closed_ask places) _ 8 _
    (λ d. omega (arith, ap (count d) (e c.closing), count_within d c, count_within d (set_closing c [])))

module _ (f : Taken → Said) (none_so : took_with (f Model.none) ≡ []) (packet-so : (h : Held) → took_with (f (Model.packet h)) ≡ h.descriptors) where
  balances_taken : (c : Client) (n bytes places : ℕ) (y : Found) → ((d : ℕ) → CountFound d (count d (descriptors_of c.replies)) y) → Balances c (poll n bytes places) (outcome f c (taken_by c bytes places y))
  unfolding accepted handed_out count
  balances_taken c n bytes places Model.nothing k = λ d. omega (arith, ap (count d) none_so)
  balances_taken c n bytes places (at h l) k =
      balances_refuse f c (poll n bytes places) _ 8 _
      (λ d. omega (arith, ap (count d) (packet-so h), k d, count_within d c, count_within d (set_replies c l)))

-- ---- calls that close

-- a reply goes, and its descriptors are closed
balance_close : (c c' : Client) (h : Held) (l : List Held) (d : ℕ) → count d h.descriptors + count d (descriptors_of l) ≡ count d (descriptors_of c.replies)
    → c'.waiting ≡ c.waiting → c'.replies ≡ l → c'.closing ≡ c.closing ++ h.descriptors → count d (within c') ≡ count d (within c)
balance_close c c' h l d k w r q =
    omega (arith, count_within d c, count_within d c', ap (count d) w, ap (λ (y : List Held). count d (descriptors_of y)) r, ap (count d) q, count_append d c.closing h.descriptors)

module _ (c : Client) where
  balances_checked : (n bytes : ℕ) (y : Found) → ((d : ℕ) → CountFound d (count d (descriptors_of c.replies)) y) → Balances c (check n bytes) (outcome says_poll c (checked_by c n bytes y))
  unfolding accepted handed_out took_with count choose
  balances_checked n bytes Model.nothing k = go (ltb n c.numbers.read)
    where
      go : (b : Bool) → Balances c (check n bytes) (record { said = says_poll (choose b Model.no_reply Model.try_again); next = c })
      go true = λ d. refl
      go false = λ d. refl
  balances_checked n bytes (at h l) k =
      balances_refuse says_poll c (check n bytes) _ 8 _ (λ d. omega (arith, balance_close c (close h.descriptors (set_replies c l)) h l d (k d) refl refl refl))

  balances_replied : (n bytes : ℕ) (y : Found) → ((d : ℕ) → CountFound d (count d (descriptors_of c.replies)) y) → Balances c (poll_reply n bytes) (outcome says_poll c (replied_by c bytes y))
  unfolding accepted handed_out took_with count
  balances_replied n bytes Model.nothing k = λ d. refl
  balances_replied n bytes (at h l) k =
      balances_choose says_poll c (poll_reply n bytes) _ _ _
      (λ d. omega (arith, balance_close c (close h.descriptors (set_events (set_replies c l) (c.events ++ (as_event h ∷ [])))) h l d (k d) refl refl refl))
      (balances_refuse says_poll c (poll_reply n bytes) _ 8 _ (λ d. omega (arith, balance_close c (close h.descriptors (set_replies c l)) h l d (k d) refl refl refl)))

-- the mode is no descriptor
within_choose : (c x : Client) (b : Bool) → within x ≡ within c → within (choose b x c) ≡ within c
unfolding choose
within_choose c x true e = e
within_choose c x false e = refl

mode_within : (c : Client) (n : ℕ) (m : DiscardMode) → within (with_mode c n m) ≡ within c
unfolding with_mode within
mode_within c n m = within_choose c _ _ refl

discarding_within : (m : DiscardMode) (n : ℕ) (c : Client) (d : ℕ) → count d (within (discarding m n c)) ≡ count d (within c)
discarding_within DiscardMode.DiscardReply n c d =
    let gone : List ℕ = descriptors_of (of_number n c.replies) in
    omega (arith, count_within d c, count_within d (discarding DiscardMode.DiscardReply n c), count_append d c.closing gone, count_of_number d n c.replies)
discarding_within DiscardMode.DiscardReplyAndError n c d =
    let k : ℕ = length (above n c.replies) in
    let gone : List ℕ = descriptors_of (closing_order k (of_number n c.replies)) in
    omega (arith, count_within d c, count_within d (discarding DiscardMode.DiscardReplyAndError n c), count_append d c.closing gone, count_order d k (of_number n c.replies), count_of_number d n c.replies)

balances_discard : (f : Unit → Said) (c : Client) (n : ℕ) (m : DiscardMode) → Balances c (discard n m) (outcome f c (discard_reply c n m))
unfolding discard_reply accepted handed_out
balances_discard f c n m d = ap (λ (k : ℕ). k + count d []) (discarding_within m n (with_mode c n m) d ∙ ap (count d) (mode_within c n m))

-- ---- intake

-- the first k that wait leave the queue, for the replies or the close list
module _ (c : Client) (p : List ℕ) (n k : ℕ) where
  abbrev record_of : Held
  record_of = arriving c p n k

  abbrev waited : Client
  waited = set_waiting (numbered c p n) (drop k c.waiting)

  within_filed : (place : Place) (d : ℕ) → (place ≡ Place.Events → k ≡ 0) → count d (within (Model.filed place record_of waited)) ≡ count d (within c)
  unfolding numbered
  within_filed Place.Replies d z =
      omega (arith, count_within d c, count_within d (Model.filed Place.Replies record_of waited), count_split d k c.waiting, count_of_append d c.replies (record_of ∷ []), count_of_cons d record_of [], count_of_none d)
  within_filed Place.Events d z =
      omega (arith, count_within d c, count_within d (Model.filed Place.Events record_of waited), ap (λ (i : ℕ). count d (drop i c.waiting)) (z refl))
  within_filed Place.Dropped d z =
      omega (arith, count_within d c, count_within d (Model.filed Place.Dropped record_of waited), count_split d k c.waiting, count_append d c.closing (take k c.waiting))

balances_packet : (f : Filing → Said) (c : Client) (p : List ℕ) → Balances c (enqueue p) (outcome f c (enqueue_packet c p))
unfolding take_in accepted handed_out
balances_packet f c p =
    subst (λ (x : Answer (Filing × Client)). Balances c (enqueue p) (outcome f c x)) (sym (enqueue_chain c p))
    (balances_refuse f c (enqueue p) _ 1 _
    (balances_refuse f c (enqueue p) _ 2 _
    (balances_pass f c (enqueue p) _ _
    (λ n.
    balances_refuse f c (enqueue p) _ 20 _
    (balances_refuse f c (enqueue p) _ 4 _
    (balances_refuse f c (enqueue p) _ 5 _
    (λ d. ap (λ (k : ℕ). k + count d []) (within_filed c p n (claimed p (asked_of c n)) (place_of (packet_class p) (asked_of c n)) d (event_claims p (asked_of c n))))))))))

-- ---- every call, and a row of them

pub balances : (c : Client) (x : Call) → Balances c x (step c x)
unfolding step poll_for_reply_or_error poll_check poll_for_reply poll_for_event unless_refused took_with closed_by
balances c (send kind) = balances_send _ c kind
balances c (enqueue_fds_ask list) = balances_fds (λ x. done) c list refl
balances c (enqueue p) = balances_packet _ c p
balances c (discard n m) = balances_discard _ c n m
balances c (poll n bytes places) = balances_taken says_taken refl (λ h. refl) c n bytes places (find n c.replies) (λ d. count_find d n c.replies)
balances c (check n bytes) = balances_checked c n bytes (find n c.replies) (λ d. count_find d n c.replies)
balances c (poll_reply n bytes) = balances_replied c n bytes (find n c.replies) (λ d. count_find d n c.replies)
balances c (prepare n) = balances_prepare c n _
balances c (poll_event bytes) = balances_event _ c bytes c.events
balances c (take_closed_ask places) = balances_closed closed c places (λ l. refl)

pub run_balances : (c : Client) (xs : List Call) (d : ℕ) → count d (within (run c xs).end) + count d (handed_in xs (run c xs).said) ≡ count d (within c) + count d (accepted_in xs (run c xs).said)
unfolding run handed_in accepted_in
run_balances c [] d = refl
run_balances c (x ∷ xs) d =
    let s = step c x in
    let r = run s.next xs in
    omega (arith, balances c x d, run_balances s.next xs d, count_append d (handed_out x s.said) (handed_in xs r.said), count_append d (accepted x s.said) (accepted_in xs r.said))

-- a fresh client has none
pub run_fresh : (o k s : ℕ) (xs : List Call) (d : ℕ) → count d (accepted_in xs (run (fresh o k s) xs).said) ≡ count d (within (run (fresh o k s) xs).end) + count d (handed_in xs (run (fresh o k s) xs).said)
unfolding count descriptors_of
run_fresh o k s xs d = omega (arith, run_balances (fresh o k s) xs d, count_within d (fresh o k s))
