-- By which numbers the calls of a sound state are refused: 1 to 8 and 20, so never by 9, and never by 0, which an export returns for what is given. Assumes nothing.
use Rattle.std.specs.Prelude.{Bool, true, false, List, [], ◌∷◌, ◌≡◌, refl, ℕ, ◌≤◌, leb, eqb, length}
use Rattle.std.proofs.Common.{sym, subst, leb-true}
use Rattle.octets.specs.Logic.{choose, either}
use Rattle.refusal.specs.Answer.{Answer, gives, refuses, refuse, pass}
use Rattle.sequence.specs.Numbering.{in_range}
use Rattle.sequence.specs.Sending.{sending}
use Rattle.packet.specs.Packet.{number_after}
use Rattle.model.specs.Client.{Held, Client}
use Rattle.model.specs.Model as Model
use Rattle.model.specs.Model.{send_request, enqueue_fds, take_closed, decide_by, decide, enqueue_packet, discard_reply, Found, at, find, Taken, taken_by, poll_for_reply_or_error, checked_by, poll_check, replied_by, poll_for_reply, event_by, poll_for_event}
use Rattle.model.specs.Batch.{Turn, goes, stops, onward, on_turn, many, Stop, ended, refused, meaningless, model_turn}
use Rattle.model.specs.Promise.{Done, answer_of}
use Rattle.model.specs.PollForEvents.{Lent, handing, event_turn, or_refused, handed, poll_for_events}
use Rattle.model.specs.SendRequests.{send_requests}
use Rattle.model.specs.Reading.{Rooms, reads}
use Rattle.model.specs.Sound.{Sound, is_sound}
use Rattle.model.specs.declared.Connection.{Connection}
use Rattle.batch.specs.Feed.{enqueue_packets}
use Rattle.connection.specs.Calls.{open_exact, Opens}
use Rattle.honest.specs.Public.{refused_so}
use Rattle.session.specs.Ask.{Ask, send_request_ask, enqueue_fds_ask, enqueue_packet_ask, discard_reply_ask, poll_for_reply_or_error_ask, poll_check_for_reply_or_error, poll_for_reply_ask, poll_for_event_with_sequence, take_closed_fds, prepare_check_for_reply_or_error, send_requests_ask, enqueue_packets_ask, poll_for_events_ask, form, Value, Outputs, Answers}
use Rattle.session.specs.AskLaws.{has_form}

-- a refusal, if it is one, is one of these, and not 0
pub data Within (these : ℕ → Bool) {A : Type 0} : Answer A → Type 0 where
  given : {x : A} → Within these (gives x)
  named : {n : ℕ} → 1 ≤ n → these n ≡ true → Within these (refuses n)

-- up to m; and those of the calls of a sound state, 1 to 8 and 20
abbrev pub up_to : ℕ → ℕ → Bool
up_to m n = leb n m

abbrev pub of_calls : ℕ → Bool
of_calls n = either (leb n 8) (eqb n 20)

pub within_refuse : {these : ℕ → Bool} {A : Type 0} {a : Answer A} (b : Bool) (n : ℕ) → leb 1 n ≡ true → these n ≡ true → Within these a → Within these (refuse b n a)
unfolding refuse
within_refuse true n h k w = named (leb-true _ _ h) k
within_refuse false n h k w = w

pub within_pass : {these : ℕ → Bool} {A B : Type 0} {a : Answer A} {f : A → Answer B} → Within these a → ((x : A) → Within these (f x)) → Within these (pass a f)
unfolding pass
within_pass (given {x = x}) h = h x
within_pass (named p q) h = named p q

within_choose : {these : ℕ → Bool} {A : Type 0} {x y : Answer A} (b : Bool) → Within these x → Within these y → Within these (choose b x y)
unfolding choose
within_choose true p q = p
within_choose false p q = q

-- ---- The model's calls

send_within : (c : Client) (kind : _) → Within of_calls (send_request c kind)
unfolding send_request sending either
send_within c kind =
    within_pass (within_refuse _ 3 refl refl (within_refuse _ 6 refl refl given)) (λ n. within_refuse _ 5 refl refl given)

number_within : (o read : ℕ) (p : List ℕ) → Within of_calls (number_after o read p)
unfolding number_after in_range either
number_within o read p = within_choose _ given (within_refuse _ 3 refl refl given)

decided_within : (c : Client) (p : List ℕ) → Within of_calls (decide c p)
unfolding decide decide_by either
decided_within c p =
    within_refuse _ 1 refl refl
    (within_refuse _ 2 refl refl
    (within_pass (number_within _ _ p) (λ n. within_refuse _ 20 refl refl (within_refuse _ 4 refl refl (within_refuse _ 5 refl refl given)))))

packet_within : (c : Client) (p : List ℕ) → Within of_calls (enqueue_packet c p)
unfolding enqueue_packet
packet_within c p = within_pass (decided_within c p) (λ t. given)

taken_within : (c : Client) (bytes places : ℕ) (f : Found) → Within of_calls (taken_by c bytes places f)
unfolding either
taken_within c bytes places Model.nothing = given
taken_within c bytes places (at h l) = within_refuse _ 8 refl refl given

checked_within : (c : Client) (n bytes : ℕ) (f : Found) → Within of_calls (checked_by c n bytes f)
unfolding either
checked_within c n bytes Model.nothing = given
checked_within c n bytes (at h l) = within_refuse _ 8 refl refl given

replied_within : (c : Client) (bytes : ℕ) (f : Found) → Within of_calls (replied_by c bytes f)
unfolding either
replied_within c bytes Model.nothing = given
replied_within c bytes (at h l) = within_choose _ given (within_refuse _ 8 refl refl given)

event_within : (c : Client) (bytes : ℕ) (l : List Held) → Within of_calls (event_by c bytes l)
unfolding either
event_within c bytes [] = given
event_within c bytes (h ∷ l) = within_refuse _ 8 refl refl given

-- a row of polls: what stops it
abbrev StopWithin : Stop → Type 0
StopWithin ended = Unit {0}
StopWithin (refused n) = (1 ≤ n) × (of_calls n ≡ true)
StopWithin meaningless = Unit {0}

abbrev TurnWithin : {A S : Type 0} → Turn A Stop S → Type 0
TurnWithin (goes x s) = Unit {0}
TurnWithin (stops w) = StopWithin w

turn_within : (room : ℕ) (a : Answer (Taken × Client)) → Within of_calls a → TurnWithin (handing room (model_turn a))
unfolding handing model_turn
turn_within room (gives x) w = go x.0 x.1
  where
    go : (v : Taken) (s : Client) → TurnWithin (handing room (goes v s))
    go Model.none s = tt
    go (Model.packet h) s = tt
turn_within room (refuses n) (named p q) = (p, q)

row_within : (t : Lent Client) (xs : List Bool) → StopWithin (many event_turn ended t xs).stopped
unfolding many on_turn event_turn poll_for_event
row_within t [] = tt
row_within t (b ∷ xs) = go (event_turn t b) (turn_within t.room _ (event_within t.at _ t.at.events)) (λ t'. row_within t' xs)
  where
    go : (y : Turn Held Stop (Lent Client)) → TurnWithin y → ((t' : Lent Client) → StopWithin (many event_turn ended t' xs).stopped)
        → StopWithin (on_turn (λ a s'. onward (a ∷ []) (many event_turn ended s' xs)) (λ w. record { values = []; stopped = w; end = t }) y).stopped
    go (goes a s) w on = on s
    go (stops v) w on = w

or_within : {B : Type 0} (l : List Held) (w : Stop) (a : Answer B) → StopWithin w → Within of_calls a → Within of_calls (or_refused l w a)
unfolding or_refused
or_within [] ended a p q = q
or_within [] (refused n) a p q = named p.0 p.1
or_within [] meaningless a p q = q
or_within (h ∷ l) w a p q = q

-- every call of the model
model_within : (x : Ask) (m : Client) → Within of_calls ((form x).modelled m)
unfolding enqueue_fds take_closed discard_reply poll_for_reply_or_error poll_check poll_for_reply poll_for_event send_requests enqueue_packets poll_for_events handed either
model_within (send_request_ask kind) m = send_within m kind
model_within (enqueue_fds_ask list) m = within_refuse _ 5 refl refl given
model_within (enqueue_packet_ask p) m = packet_within m p
model_within (discard_reply_ask n mode) m = given
model_within (poll_for_reply_or_error_ask n out fds) m = taken_within m (length out) (length fds) (find n m.replies)
model_within (poll_check_for_reply_or_error n out) m = checked_within m n (length out) (find n m.replies)
model_within (poll_for_reply_ask n out) m = replied_within m (length out) (find n m.replies)
model_within (poll_for_event_with_sequence out) m = event_within m (length out) m.events
model_within (take_closed_fds out) m = within_refuse _ 8 refl refl given
model_within (prepare_check_for_reply_or_error n) m = given
model_within (send_requests_ask bytes) m = given
model_within (enqueue_packets_ask bytes) m = given
model_within (poll_for_events_ask out marks) m = or_within _ _ _ (row_within _ _) given

-- a refusal is of any kind of answer
same_refusal : {these : ℕ → Bool} {n : ℕ} {A B : Type 0} → Within these {A = A} (refuses n) → Within these {A = B} (refuses n)
same_refusal (named p q) = named p q

-- ---- EVERY PUBLIC CALL that takes a sound state: its answer is none of the other refusals.

pub call_within : (x : Ask) (c : Connection) (r : Rooms) → Sound c r → (a : Answer (Value x × Connection)) (r' : Rooms) (o : Outputs x) → Answers x c r a r' o → Within of_calls a
call_within x c r S (gives v) r' o h = given
call_within x c r S (refuses n) r' o h =
    same_refusal
    (subst (λ (z : Answer ((form x).Given × Client)). Within of_calls z) (refused_so _ _ _ c r (refuses n) r' (is_sound c r S) (has_form x c r (refuses n) r' o h).promise n refl) (model_within x (reads c r)))

-- `new`, by 9 and 13
answer_within : {these : ℕ → Bool} {A B : Type 0} (f : A → B) {e : Answer (Done A)} → Within these e → Within these (answer_of f e)
unfolding answer_of
answer_within f given = given
answer_within f (named p q) = named p q

pub open_within : (o : ℕ) (r : Rooms) (a : Answer (Unit × Connection)) → Opens o r a → Within (up_to 13) a
unfolding open_exact
open_within o r a h =
    subst (λ (z : Answer (Unit × Connection)). Within (up_to 13) z) (sym h.exact.answers)
    (answer_within _ (within_refuse _ 9 refl refl (within_refuse _ 9 refl refl (within_refuse _ 13 refl refl given))))
