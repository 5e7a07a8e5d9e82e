-- Runs of the public calls: as they are read, they are runs of the model. Assumes nothing.
use Rattle.std.specs.Prelude.{List, [], ◌≡◌, ℕ, Bool, true}
use Rattle.std.proofs.Common.{sym, ap, ◌∙◌, arith}
use Rattle.std.proofs.Math.Path.{subst}
use Rattle.refusal.specs.Answer.{Answer, gives, refuses, gives_rest, gives_same}
use Rattle.model.specs.Client.{Client}
use Rattle.model.specs.Model.{fresh, has_reply, send_request, enqueue_fds, take_closed, Filing, enqueue_packet, discard_reply, Taken, PollReply, poll_for_reply_or_error, poll_check, poll_for_reply, prepare_check, poll_for_event}
use Rattle.model.specs.Calls.{Call, send, enqueue_fds_ask, enqueue, discard, poll, check, poll_reply, prepare, poll_event, take_closed_ask, step}
use Rattle.model.specs.Reading.{Rooms, reads}
use Rattle.model.specs.Promise.{Done, answer_of, rooms_of, model_of, guarded, Promise, guarded_on}
use Rattle.model.specs.Sound.{soundb}
use Rattle.model.specs.declared.Connection.{Connection}
use Rattle.model.specs.declared.ReplyFdKind.{ReplyFdKind}
use Rattle.honest.specs.Run.{Entry, note_sent, note_took, noted, Runs, start, call}

-- the state that an answer hands back; a refusal hands none back, and the caller goes on with the one it has
unfoldable pub state_of : {B : Type 0} → Answer (B × Connection) → Connection → Connection
state_of (gives x) c = x.1
state_of (refuses n) c = c

-- what each call gives, and the model's function for it
abbrev pub Given : Call → Type 0
Given (send kind) = ℕ
Given (enqueue_fds_ask list) = Unit
Given (enqueue p) = Filing
Given (discard n m) = Unit
Given (poll n bytes places) = Taken
Given (check n bytes) = PollReply
Given (poll_reply n bytes) = PollReply
Given (prepare n) = Bool
Given (poll_event bytes) = Taken
Given (take_closed_ask places) = List ℕ

abbrev pub modelled : (x : Call) → Client → Answer (Given x × Client)
modelled (send kind) c = send_request c kind
modelled (enqueue_fds_ask list) c = enqueue_fds c list
modelled (enqueue p) c = enqueue_packet c p
modelled (discard n m) c = discard_reply c n m
modelled (poll n bytes places) c = poll_for_reply_or_error c n bytes places
modelled (check n bytes) c = poll_check c n bytes
modelled (poll_reply n bytes) c = poll_for_reply c n bytes
modelled (prepare n) c = gives (prepare_check c n, c)
modelled (poll_event bytes) c = poll_for_event c bytes
modelled (take_closed_ask places) c = take_closed c places

-- those that add nothing to a log
abbrev pub Other : Call → Type 0
Other (send kind) = ⊥
Other (enqueue_fds_ask list) = Unit {0}
Other (enqueue p) = ⊥
Other (discard n m) = Unit {0}
Other (poll n bytes places) = Unit {0}
Other (check n bytes) = Unit {0}
Other (poll_reply n bytes) = Unit {0}
Other (prepare n) = Unit {0}
Other (poll_event bytes) = Unit {0}
Other (take_closed_ask places) = Unit {0}

-- A run of public calls, over state and rooms: from ones that are read as fresh, any call that keeps its promise, whatever it is exactly (e) and whatever it shows of what it gives (f). The log has what the answers say. Where other state and rooms are read as the same, the run stands.
pub data Public : Connection → Rooms → List Entry → Type 1 where
  opens : {c : Connection} {r : Rooms} (o k s : ℕ) → reads c r ≡ fresh o k s → Public c r []
  sends : {c : Connection} {r : Rooms} {l : List Entry} (kind : ReplyFdKind) (e : Answer (Done ℕ)) (a : Answer (ℕ × Connection)) (r' : Rooms) → Promise (λ n. n) e (λ m. send_request m kind) c r a r' → Public c r l
      → Public (state_of a c) r' (note_sent (has_reply kind) a l)
  takes : {c : Connection} {r : Rooms} {l : List Entry} (t : ℕ) (p : List ℕ) (e : Answer (Done Filing)) (a : Answer (Filing × Connection)) (r' : Rooms) → Promise (λ n. n) e (λ m. enqueue_packet m p) c r a r' → Public c r l
      → Public (state_of a c) r' (note_took t p a l)
  others : {c : Connection} {r : Rooms} {l : List Entry} (x : Call) → Other x → {B : Type 0} (f : Given x → B) (e : Answer (Done (Given x))) (a : Answer (B × Connection)) (r' : Rooms) → Promise f e (modelled x) c r a r' → Public c r l
      → Public (state_of a c) r' l
  again : {c : Connection} {r : Rooms} {l : List Entry} (c' : Connection) (r' : Rooms) → reads c' r' ≡ reads c r → Public c r l → Public c' r' l

-- ---- What a promise comes to: the model gives the same and the state is read as the model's; or a refusal, 9 among them, and all is as found.

pub data Came {A B : Type 0} (f : A → B) (o : Answer (A × Client)) (r : Rooms) : Answer (B × Connection) → Rooms → Type 0 where
  gave : (v : A) (s : Connection) (r' : Rooms) → o ≡ gives (v, reads s r') → Came f o r (gives (f v, s)) r'
  kept : (n : ℕ) → Came f o r (refuses n) r

pub came : {A B : Type 0} (f : A → B) (e : Answer (Done A)) (m : Client → Answer (A × Client)) (c : Connection) (r : Rooms) (a : Answer (B × Connection)) (r' : Rooms) → Promise f e m c r a r' → Came f (m (reads c r)) r a r'
unfolding answer_of rooms_of model_of guarded
came {A = A} f e m c r a r' k = rw (k.exact.answers, k.exact.leaves) (go (guarded c r e) k.model)
  where
    go : (g : Answer (Done A)) → model_of g ≡ guarded c r (m (reads c r)) → Came f (m (reads c r)) r (answer_of f g) (rooms_of g r)
    go (gives d) q = gave d.value d.state d.left (sym (gives_rest _ 9 _ q))
    go (refuses n) q = kept n

module _ (c : Connection) (r : Rooms) (l : List Entry) where
  came_sent : (kind : ReplyFdKind) {a : Answer (ℕ × Connection)} {r' : Rooms} → Came (λ n. n) (send_request (reads c r) kind) r a r' → Runs (reads c r) l → Runs (reads (state_of a c) r') (note_sent (has_reply kind) a l)
  unfolding state_of note_sent step noted
  came_sent kind (gave v s r' q) k = rw q at (call (send kind) 0 k)
  came_sent kind (kept n) k = k

  came_took : (t : ℕ) (p : List ℕ) {a : Answer (Filing × Connection)} {r' : Rooms} → Came (λ n. n) (enqueue_packet (reads c r) p) r a r' → Runs (reads c r) l → Runs (reads (state_of a c) r') (note_took t p a l)
  unfolding state_of note_took step noted
  came_took t p (gave v s r' q) k = rw q at (call (enqueue p) t k)
  came_took t p (kept n) k = k

  -- another call that gives k' leads there
  other_to : (x : Call) → Other x → (k : Client) (v : Given x) (k' : Client) → modelled x k ≡ gives (v, k') → Runs k l → Runs k' l
  unfolding step noted
  other_to (send kind) o k v k' q h = absurd o
  other_to (enqueue_fds_ask list) o k v k' q h = rw q at (call (enqueue_fds_ask list) 0 h)
  other_to (enqueue p) o k v k' q h = absurd o
  other_to (discard n m) o k v k' q h = rw q at (call (discard n m) 0 h)
  other_to (poll n bytes places) o k v k' q h = rw q at (call (poll n bytes places) 0 h)
  other_to (check n bytes) o k v k' q h = rw q at (call (check n bytes) 0 h)
  other_to (poll_reply n bytes) o k v k' q h = rw q at (call (poll_reply n bytes) 0 h)
  other_to (prepare n) o k v k' q h = subst (λ (y : Client). Runs y l) (ap (λ y. y.1) (gives_same q)) h
  other_to (poll_event bytes) o k v k' q h = rw q at (call (poll_event bytes) 0 h)
  other_to (take_closed_ask places) o k v k' q h = rw q at (call (take_closed_ask places) 0 h)

  came_other : (x : Call) → Other x → {B : Type 0} (f : Given x → B) {a : Answer (B × Connection)} {r' : Rooms} → Came f (modelled x (reads c r)) r a r' → Runs (reads c r) l → Runs (reads (state_of a c) r') l
  unfolding state_of
  came_other x o f (gave v s r' q) k = other_to x o (reads c r) v (reads s r') q k
  came_other x o f (kept n) k = k

-- THE LIFT: a run of public calls is, as it is read, a run of the model.
pub public_runs : {c : Connection} {r : Rooms} {l : List Entry} → Public c r l → Runs (reads c r) l
public_runs (opens o k s e) = rw e (start o k s)
public_runs (sends {c = c} {r = r} {l = l} kind e a r' k h) = came_sent c r l kind (came _ e (λ m. send_request m kind) c r a r' k) (public_runs h)
public_runs (takes {c = c} {r = r} {l = l} t p e a r' k h) = came_took c r l t p (came _ e (λ m. enqueue_packet m p) c r a r' k) (public_runs h)
public_runs (others {c = c} {r = r} {l = l} x o f e a r' k h) = came_other c r l x o f (came f e (modelled x) c r a r' k) (public_runs h)
public_runs (again {l = l} c' r' e h) = subst (λ (m : Client). Runs m l) (sym e) (public_runs h)

-- ---- What an answer says of the model's

pub given_so : {A : Type 0} {o : Answer (A × Client)} {r : Rooms} {a : Answer (A × Connection)} {r' : Rooms} → Came (λ v. v) o r a r' → (v : A) (s : Connection) → a ≡ gives (v, s) → o ≡ gives (v, reads s r')
given_so (gave v' s' r' q) v s e = q ∙ ap (λ y. gives (y.0, reads y.1 r')) (gives_same e)
given_so (kept n) v s e = absurd (let z : ◌≡◌ {A = ℕ} 0 1 = cc in omega arith)

pub refused_so : {A B : Type 0} (f : A → B) (e : Answer (Done A)) (m : Client → Answer (A × Client)) (c : Connection) (r : Rooms) (a : Answer (B × Connection)) (r' : Rooms) → soundb c r ≡ true → Promise f e m c r a r'
    → (n : ℕ) → a ≡ refuses n → m (reads c r) ≡ refuses n
unfolding answer_of model_of
refused_so {A = A} {B = B} f e m c r a r' s k n q = go (guarded c r e) (k.model ∙ guarded_on c r (m (reads c r)) s) (sym k.exact.answers ∙ q)
  where
    go : (g : Answer (Done A)) → model_of g ≡ m (reads c r) → answer_of f g ≡ refuses n → m (reads c r) ≡ refuses n
    go (gives d) p w = absurd (let z : ◌≡◌ {A = ℕ} 0 1 = cc in omega arith)
    go (refuses i) p w = sym p ∙ (let z : i ≡ n = cc in ap refuses z)
