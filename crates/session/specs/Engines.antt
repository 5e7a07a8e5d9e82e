-- WRONG ENGINES that the promises shut out, whatever the code. Each theorem takes answers that the promise of a call allows, and says what they are not. Assumes nothing.
use Rattle.std.specs.Prelude.{List, [], ◌∷◌, ◌≡◌, refl, false, ℕ, replicate}
use Rattle.std.proofs.Common.{sym, ◌∙◌}
use Rattle.std.proofs.Math.Path.{ap}
use native.Mathlib.Omega.{arith}
use Rattle.octets.specs.Logic.{both, either}
use Rattle.octets.specs.Bytes.{legal}
use Rattle.refusal.specs.Answer.{Answer, gives, refuses, gives_same}
use Rattle.requests.specs.Room.{capacity}
use Rattle.packet.specs.Packet as Packet
use Rattle.model.specs.Client.{Client, held_packet, set_numbers, set_outstanding, set_events}
use Rattle.model.specs.Model.{roomy, fresh, joining, Filing, send_request, enqueue_packet}
use Rattle.model.specs.Reading.{Rooms, rooms, reads}
use Rattle.model.specs.Sound.{Sound, is_sound}
use Rattle.model.specs.declared.Connection.{Connection}
use Rattle.model.specs.declared.ReplyFdKind.TheVariants.{NoReply}
use Rattle.model.specs.declared.Place.TheVariants.{Events}
use Rattle.connection.specs.Calls.{fresh_state, Sends, Enqueues}
use Rattle.connection.specs.Opening.{fresh_read, fresh_sound}
use Rattle.honest.specs.Computing.{computing, packet_of}
use Rattle.honest.specs.Public.{came, given_so, refused_so}

-- ---- A fresh connection, and what the model says of its first calls

abbrev lent : Rooms
lent = rooms (replicate 1 0) (replicate 200 0) (replicate 256 0)

abbrev start : Connection
start = fresh_state 108 1 200

start_sound : Sound start lent
unfolding roomy both legal either capacity
start_sound = fresh_sound 108 lent refl refl refl

start_read : reads start lent ≡ fresh 108 1 200
unfolding roomy both capacity
start_read = fresh_read 108 lent refl refl

-- an event with its wire number
abbrev event : ℕ → List ℕ
event wire = packet_of 2 0 wire

abbrev filed_as : ℕ → Filing
filed_as n = record { place = Events; number = n; class = Packet.event false }

-- after a request, and then after an event of the number n
abbrev asked : Client
asked = set_outstanding (set_numbers (fresh 108 1 200) (record { written = 1; expected = 0; read = 0 })) (joining NoReply ∷ [])

abbrev after : ℕ → Client
after n = set_events (set_numbers asked (record { written = 1; expected = n; read = n })) (held_packet n (event n) [] ∷ [])

abbrev after_two : Client
after_two = set_events (after 1) (held_packet 0 (event 0) [] ∷ held_packet 1 (event 1) [] ∷ [])

sends_one : send_request (fresh 108 1 200) NoReply ≡ gives (1, asked)
unfolding computing
sends_one = refl

takes_fresh : enqueue_packet (fresh 108 1 200) (event 0) ≡ gives (filed_as 0, set_events (fresh 108 1 200) (held_packet 0 (event 0) [] ∷ []))
unfolding computing
takes_fresh = refl

takes_unasked : enqueue_packet (fresh 108 1 200) (event 1) ≡ refuses 20
unfolding computing
takes_unasked = refl

takes_none : enqueue_packet asked (event 0) ≡ gives (filed_as 0, after 0)
unfolding computing
takes_none = refl

takes_one : enqueue_packet asked (event 1) ≡ gives (filed_as 1, after 1)
unfolding computing
takes_one = refl

takes_two : enqueue_packet (after 0) (event 1) ≡ gives (filed_as 1, after_two)
unfolding computing
takes_two = refl

never : {A : Type 0} (x : A) (n : ℕ) → gives x ≡ refuses n → ⊥
never x n e = let z : ◌≡◌ {A = ℕ} 0 1 = cc in omega arith

-- ---- REFUSES ALWAYS: a first request and a first packet are refused by no number.

pub sends_first : (a : Answer (ℕ × Connection)) (r : Rooms) → Sends start lent NoReply a r → (n : ℕ) → a ≡ refuses n → ⊥
sends_first a r k n e =
    never _ n (sym sends_one ∙ ap (λ m. send_request m NoReply) (sym start_read) ∙ refused_so _ _ (λ m. send_request m NoReply) start lent a r (is_sound start lent start_sound) k n e)

pub takes_first : (a : Answer (Filing × Connection)) (r : Rooms) → Enqueues start lent (event 0) a r → (n : ℕ) → a ≡ refuses n → ⊥
takes_first a r k n e =
    never _ n (sym takes_fresh ∙ ap (λ m. enqueue_packet m (event 0)) (sym start_read) ∙ refused_so _ _ (λ m. enqueue_packet m (event 0)) start lent a r (is_sound start lent start_sound) k n e)

-- ---- BELIEVES ANYTHING: an answer to what was not asked is not taken.

pub not_believed : (f : Filing) (s : Connection) (r : Rooms) → Enqueues start lent (event 1) (gives (f, s)) r → ⊥
not_believed f s r k =
    never _ 20 (sym (given_so (came _ _ (λ m. enqueue_packet m (event 1)) start lent (gives (f, s)) r k) f s refl) ∙ ap (λ m. enqueue_packet m (event 1)) start_read ∙ takes_unasked)

-- what is given is what the model gives of the state as it is read
gave : (c : Connection) (r : Rooms) (p : List ℕ) (m : Client) (x : Filing × Client) → reads c r ≡ m → enqueue_packet m p ≡ gives x
    → (f : Filing) (s : Connection) (r' : Rooms) → Enqueues c r p (gives (f, s)) r' → (f, reads s r') ≡ x
gave c r p m x e q f s r' k =
    gives_same (sym (given_so (came _ _ (λ y. enqueue_packet y p) c r (gives (f, s)) r' k) f s refl) ∙ ap (λ y. enqueue_packet y p) e ∙ q)

-- ---- DOES NOTHING: the state handed back is not the entry's.

module _ (n : ℕ) (s : Connection) (r : Rooms) (k : Sends start lent NoReply (gives (n, s)) r) where
  asked_read : reads s r ≡ asked
  asked_read = ap (λ x. x.1) (gives_same (sym (given_so (came _ _ (λ m. send_request m NoReply) start lent (gives (n, s)) r k) n s refl) ∙ ap (λ m. send_request m NoReply) start_read ∙ sends_one))

  pub sent_moves : s ≡ start → ⊥
  unfolding reads
  sent_moves e =
      let a : s.written ≡ 1 = ap (λ (m : Client). m.numbers.written) asked_read in
      let b : s.written ≡ 0 = ap (λ x. x.written) e in
      omega arith

  pub taken_moves : (f : Filing) (t : Connection) (q : Rooms) → Enqueues s r (event 1) (gives (f, t)) q → t ≡ s → ⊥
  unfolding reads
  taken_moves f t q l e =
      let a : t.read ≡ 1 = ap (λ x. x.1.numbers.read) (gave s r (event 1) _ _ asked_read takes_one f t q l) in
      let b : s.read ≡ 0 = ap (λ (m : Client). m.numbers.read) asked_read in
      let c : t.read ≡ s.read = ap (λ x. x.read) e in
      omega arith

  -- ---- FILES EVERYTHING UNDER ONE NUMBER: two events have two numbers.

  pub two_numbers : (f g : Filing) (t u : Connection) (p q : Rooms) → Enqueues s r (event 0) (gives (f, t)) p → Enqueues s r (event 1) (gives (g, u)) q → f.number ≡ g.number → ⊥
  two_numbers f g t u p q l m e =
      let a : f.number ≡ 0 = ap (λ x. x.0.number) (gave s r (event 0) _ _ asked_read takes_none f t p l) in
      let b : g.number ≡ 1 = ap (λ x. x.0.number) (gave s r (event 1) _ _ asked_read takes_one g u q m) in
      omega arith

  -- ---- NUMBERS THE FIRST PACKET AND THEN REPEATS IT: a second packet has a number of its own.

  pub not_repeated : (f g : Filing) (t u : Connection) (p q : Rooms) → Enqueues s r (event 0) (gives (f, t)) p → Enqueues t p (event 1) (gives (g, u)) q → g.number ≡ f.number → ⊥
  not_repeated f g t u p q l m e =
      let x = gave s r (event 0) _ _ asked_read takes_none f t p l in
      let a : f.number ≡ 0 = ap (λ y. y.0.number) x in
      let b : g.number ≡ 1 = ap (λ y. y.0.number) (gave t p (event 1) _ _ (ap (λ y. y.1) x) takes_two g u q m) in
      omega arith
