-- The calls as data, so that runs of them can be written down. Assumes nothing.
use Rattle.std.specs.Prelude.{Bool, List, [], ◌∷◌, ℕ}
use Rattle.refusal.specs.Answer.{Answer, gives, refuses}
use Rattle.packet.specs.Packet.{PacketClass}
use Rattle.model.specs.Client.{Held, Client}
use Rattle.model.specs.Model.{send_request, enqueue_fds, take_closed, Filing, enqueue_packet, discard_reply, Taken, none, packet, PollReply, try_again, no_reply, reply, poll_for_reply_or_error, poll_check, poll_for_reply, prepare_check, poll_for_event}
use Rattle.model.specs.declared.ReplyFdKind.{ReplyFdKind}
use Rattle.model.specs.declared.DiscardMode.{DiscardMode}
use Rattle.model.specs.declared.Place.{Place}

-- every single call but `new`, with its arguments, of a lent output its length; calls that make many steps are rows of these (`Batch.antt`)
pub data Call : Type 0 where
  send : ReplyFdKind → Call
  enqueue_fds_ask : List ℕ → Call
  enqueue : List ℕ → Call
  discard : ℕ → DiscardMode → Call
  poll : ℕ → ℕ → ℕ → Call
  check : ℕ → ℕ → Call
  poll_reply : ℕ → ℕ → Call
  prepare : ℕ → Call
  poll_event : ℕ → Call
  take_closed_ask : ℕ → Call

-- what a call says
pub data Said : Type 0 where
  number : ℕ → Said
  done : Said
  filed : Place → ℕ → PacketClass → Said
  nothing : Said
  took : Held → Said
  again : Said
  absent : Said
  answer : Bool → Said
  closed : List ℕ → Said
  refused : ℕ → Said

-- what a call comes to: what it says, and the state after it
pub record Step : Type 0 where
  pub said : Said
  pub next : Client

-- a refusal leaves everything as found
abbrev pub outcome : {A : Type 0} → (A → Said) → Client → Answer (A × Client) → Step
outcome f c (gives x) = record { said = f x.0; next = x.1 }
outcome f c (refuses n) = record { said = refused n; next = c }

abbrev pub says_filing : Filing → Said
says_filing f = filed f.place f.number f.class

abbrev pub says_taken : Taken → Said
says_taken none = nothing
says_taken (packet h) = took h

abbrev pub says_poll : PollReply → Said
says_poll try_again = again
says_poll no_reply = absent
says_poll (reply h) = took h

unfoldable pub step : Client → Call → Step
step c (send kind) = outcome number c (send_request c kind)
step c (enqueue_fds_ask list) = outcome (λ x. done) c (enqueue_fds c list)
step c (enqueue p) = outcome says_filing c (enqueue_packet c p)
step c (discard n m) = outcome (λ x. done) c (discard_reply c n m)
step c (poll n bytes places) = outcome says_taken c (poll_for_reply_or_error c n bytes places)
step c (check n bytes) = outcome says_poll c (poll_check c n bytes)
step c (poll_reply n bytes) = outcome says_poll c (poll_for_reply c n bytes)
step c (prepare n) = record { said = answer (prepare_check c n); next = c }
step c (poll_event bytes) = outcome says_taken c (poll_for_event c bytes)
step c (take_closed_ask places) = outcome closed c (take_closed c places)

-- what a row of calls says, and the state after it
pub record Ran : Type 0 where
  pub said : List Said
  pub end : Client

unfoldable pub run : Client → List Call → Ran
run c [] = record { said = []; end = c }
run c (x ∷ xs) = let s = step c x in let r = run s.next xs in record { said = s.said ∷ r.said; end = r.end }
