-- What the answers of the calls say: the values of each case, with the state handed back, or the number of the refusal. Assumes nothing.
use Rattle.std.specs.Prelude.{◌≡◌, refl, Bool, List, [], ℕ, length, Result, Option, Some, None, Ok}
use Rattle.std.proofs.Common.{ap, ◌∙◌}
use Rattle.refusal.specs.Answer.{Answer, says, says_one}
use Rattle.packet.specs.Packet.{packet_class}
use Rattle.packet.specs.Class.{says_class, classed, class_back}
use Rattle.model.specs.Client.{Held}
use Rattle.model.specs.Model as Model
use Rattle.model.specs.Model.{Filing}
use Rattle.model.specs.declared.Connection.{Connection}
use Rattle.model.specs.declared.Sent.{Sent}
use Rattle.model.specs.declared.Enqueued.{Enqueued}
use Rattle.model.specs.declared.Handed.{Handed}
use Rattle.model.specs.declared.Polled.{Polled}
use Rattle.model.specs.declared.PollReply.{PollReply}
use Rattle.model.specs.declared.Closed.{Closed}
use Rattle.refusal.specs.declared.Refusal.{Refusal}

-- ---- what is shown of a packet that is handed out

-- its number, its length, so many descriptors, and its class
abbrev pub handed_with : Held → ℕ → Handed
handed_with h fds = record { number = record { 0 = h.number }; length = length h.packet; descriptors = fds; class = classed (packet_class h.packet) }

-- nothing, or a packet with its descriptors
pub data Shown : Type 0 where
  none : Shown
  packet : Handed → Shown

abbrev pub shown_taken : Model.Taken → Shown
shown_taken Model.none = none
shown_taken (Model.packet h) = packet (handed_with h (length h.descriptors))

-- the three cases of a poll; descriptors of its packet are closed, so none are handed out
pub data ShownPoll : Type 0 where
  again : ShownPoll
  no_reply : ShownPoll
  reply : Handed → ShownPoll

abbrev pub shown_poll : Model.PollReply → ShownPoll
shown_poll Model.try_again = again
shown_poll Model.no_reply = no_reply
shown_poll (Model.reply h) = reply (handed_with h 0)

-- what is handed out, if anything is, is such: under a number, or without descriptors
abbrev pub IfShown : (Handed → Type 0) → Shown → Type 0
IfShown P none = Unit {0}
IfShown P (packet z) = P z

abbrev pub IfPolled : (Handed → Type 0) → ShownPoll → Type 0
IfPolled P again = Unit {0}
IfPolled P no_reply = Unit {0}
IfPolled P (reply z) = P z

abbrev pub Under : ℕ → Handed → Type 0
Under n z = z.number.0 ≡ n

abbrev pub Bare : Handed → Type 0
Bare z = z.descriptors ≡ 0

-- the bytes and the descriptors that go to the outputs
abbrev pub bytes_of_taken : Model.Taken → List ℕ
bytes_of_taken Model.none = []
bytes_of_taken (Model.packet h) = h.packet

abbrev pub descriptors_of_taken : Model.Taken → List ℕ
descriptors_of_taken Model.none = []
descriptors_of_taken (Model.packet h) = h.descriptors

abbrev pub bytes_of_poll : Model.PollReply → List ℕ
bytes_of_poll Model.try_again = []
bytes_of_poll Model.no_reply = []
bytes_of_poll (Model.reply h) = h.packet

-- ---- what the results say

abbrev pub says_next : Result Connection Refusal → Answer (Unit × Connection)
says_next = says (λ c. (tt, c))

abbrev pub says_sent : Result Sent Refusal → Answer (ℕ × Connection)
says_sent = says (λ x. (x.number.0, x.connection))

abbrev pub says_enqueued : Result Enqueued Refusal → Answer (Filing × Connection)
says_enqueued = says (λ x. (record { place = x.place; number = x.number.0; class = says_class x.class }, x.connection))

abbrev pub shown_of : Option Handed → Shown
shown_of None = none
shown_of (Some z) = packet z

abbrev pub says_polled : Result Polled Refusal → Answer (Shown × Connection)
says_polled = says (λ x. (shown_of x.packet, x.connection))

abbrev pub reply_of : PollReply → ShownPoll × Connection
reply_of (PollReply.TryAgain c) = (again, c)
reply_of (PollReply.NoReply c) = (no_reply, c)
reply_of (PollReply.Reply z c) = (reply z, c)

abbrev pub says_poll_reply : Result PollReply Refusal → Answer (ShownPoll × Connection)
says_poll_reply = says reply_of

abbrev pub says_closed : Result Closed Refusal → Answer (ℕ × Connection)
says_closed = says (λ x. (x.count, x.connection))

abbrev pub says_prepared : Result Bool Refusal → Answer Bool
says_prepared = says (λ b. b)

-- ---- Two answers that say the same are equal.

pub next_one : (a b : Result Connection Refusal) → says_next a ≡ says_next b → a ≡ b
next_one = says_one _ (λ x. x.1) (λ c. refl)

pub sent_one_lem : (a b : Result Sent Refusal) → says_sent a ≡ says_sent b → a ≡ b
sent_one_lem = says_one _ (λ x. record { number = record { 0 = x.0 }; connection = x.1 }) (λ s. refl)

pub enqueued_one : (a b : Result Enqueued Refusal) → says_enqueued a ≡ says_enqueued b → a ≡ b
enqueued_one = says_one _ (λ x. record { place = x.0.place; number = record { 0 = x.0.number }; class = classed x.0.class; connection = x.1 })
    (λ e. ap (λ k. record { place = e.place; number = e.number; class = k; connection = e.connection }) (class_back e.class))

pub closed_one : (a b : Result Closed Refusal) → says_closed a ≡ says_closed b → a ≡ b
closed_one = says_one _ (λ x. record { count = x.0; connection = x.1 }) (λ c. refl)

packet_of : Shown → Option Handed
packet_of none = None
packet_of (packet z) = Some z

packet_back : (z : Option Handed) → packet_of (shown_of z) ≡ z
unfolding packet_of
packet_back None = refl
packet_back (Some z) = refl

pub polled_one : (a b : Result Polled Refusal) → says_polled a ≡ says_polled b → a ≡ b
polled_one = says_one _ (λ x. record { packet = packet_of x.0; connection = x.1 }) (λ p. ap (λ z. record { packet = z; connection = p.connection }) (packet_back p.packet))

poll_of : ShownPoll × Connection → PollReply
poll_of (again, c) = PollReply.TryAgain c
poll_of (no_reply, c) = PollReply.NoReply c
poll_of (reply z, c) = PollReply.Reply z c

pub poll_reply_one : (a b : Result PollReply Refusal) → says_poll_reply a ≡ says_poll_reply b → a ≡ b
unfolding poll_of
poll_reply_one = says_one _ poll_of (elim [ PollReply.TryAgain c ↦ refl | PollReply.NoReply c ↦ refl | PollReply.Reply z c ↦ refl ])

pub prepared_one : (a b : Result Bool Refusal) → says_prepared a ≡ says_prepared b → a ≡ b
prepared_one = says_one _ (λ b. b) (λ b. refl)

-- what a poll gave, by what it handed out
pub polled_is : {a : Result Polled Refusal} {p : Polled} {z : Option Handed} → a ≡ Ok p → p.packet ≡ z → a ≡ Ok (record { packet = z; connection = p.connection })
polled_is {p = p} e h = e ∙ ap (λ (x : Option Handed). Ok (record { packet = x; connection = p.connection })) h
