-- The rules at work: computed runs of the model, one table under one claim, a row or more for each rule, and lengths at their ends. Assumes nothing.
use Rattle.std.specs.Prelude.{◌≡◌, refl, true, false, List, [], ◌∷◌, ◌++◌, ℕ, ◌≤◌, ◌<◌, length, replicate}
use Rattle.std.proofs.Common.{arith, le-ltb, lt-ltb}
use Rattle.octets.specs.Logic.{choose, both, either}
use Rattle.octets.specs.Bytes.{legal, bytes_of, number_in, low_bytes, low_number, turned}
use Rattle.octets.specs.Put.{cut}
use Rattle.octets.specs.Field.{field}
use Rattle.refusal.specs.Answer.{Answer, gives, refuses, refuse, pass}
use Rattle.sequence.specs.Numbering.{full, in_range}
use Rattle.sequence.specs.Sending.{sending, must_sync}
use Rattle.packet.specs.Packet.{was_sent, error, reply, event, generic, class_of, unnumbered, number_after}
use Rattle.requests.specs.Room.{under_mode}
use Rattle.model.specs.Client.{Client, held_packet, costs, descriptors_of, set_numbers, set_outstanding, set_replies, set_events, set_waiting, set_closing}
use Rattle.model.specs.Model as Model
use Rattle.model.specs.Calls.{Call, send, enqueue_fds_ask, enqueue, discard, poll, check, poll_reply, prepare, poll_event, take_closed_ask, Said, number, done, filed, nothing, took, again, absent, answer, closed, refused, step, run}
use Rattle.model.specs.Batch as Batch
use Rattle.model.specs.Batch.{many, on_turn, model_turn, Stop, ended, meaningless}
use Rattle.model.specs.SendRequests.{send_turn, send_requests, ShownSendings, shown_sendings}
use Rattle.model.specs.PollForEvents.{turns, room_for, handing, event_turn, Handings, or_refused, handed, poll_for_events}
use Rattle.model.specs.Feed as Feed
use Rattle.model.specs.Feed.{partial, Feeding, shown_fed}
use Rattle.model.specs.declared.ReplyFdKind.TheVariants.{NoReply, ReplyWithoutFds, ReplyWithFds}
use Rattle.model.specs.declared.DiscardMode.TheVariants.{DiscardReply, DiscardReplyAndError}
use Rattle.model.specs.declared.Place.TheVariants.{Replies, Events, Dropped}

-- a packet of 32 bytes: its code, its byte 1, its wire number
abbrev pk : ℕ → ℕ → ℕ → List ℕ
pk code second wire = code ∷ second ∷ (bytes_of 108 2 wire ++ replicate 28 0)

-- a state with these numbers and nothing else
abbrev numbers_at : ℕ → ℕ → ℕ → Client
numbers_at w e r = set_numbers (Model.fresh 108 4 500) (record { written = w; expected = e; read = r })

-- the same with as many requests outstanding as there is room for
abbrev full_at : ℕ → ℕ → ℕ → Client
full_at w e r = set_outstanding (set_numbers (Model.fresh 108 1 500) (record { written = w; expected = e; read = r })) (Model.joining NoReply ∷ [])

-- a row: a state, the calls made from there, each with what it says
pub record Row : Type 0 where
  pub start : Client
  pub calls : List Call
  pub said : List Said

abbrev pub All : List Row → Type 0
All [] = Unit {0}
All (r ∷ rs) = ((run r.start r.calls).said ≡ r.said) × All rs

-- DiscardReplyAndError closes as the Rust's `retain` does: two of request 1 go, one of request 2 is behind them
abbrev row1 : Row
row1 = record {
  start = Model.fresh 108 4 500;
  calls = send ReplyWithFds ∷ send ReplyWithoutFds ∷ enqueue_fds_ask (1 ∷ 2 ∷ []) ∷ enqueue (pk 1 1 1) ∷ enqueue (pk 1 1 1) ∷ enqueue (pk 1 0 2) ∷ discard 1 DiscardReplyAndError ∷ take_closed_ask 9 ∷ [];
  said = number 1 ∷ number 2 ∷ done ∷ filed Replies 1 reply ∷ filed Replies 1 reply ∷ filed Replies 2 reply ∷ done ∷ closed (2 ∷ 1 ∷ []) ∷ [];
}

-- DiscardReply closes in list order, and an error among the removed becomes an event
abbrev row2 : Row
row2 = record {
  start = Model.fresh 108 4 500;
  calls = send ReplyWithFds ∷ send ReplyWithoutFds ∷ enqueue_fds_ask (1 ∷ 2 ∷ []) ∷ enqueue (pk 1 1 1) ∷ enqueue (pk 0 7 1) ∷ enqueue (pk 1 1 1) ∷ enqueue (pk 1 0 2) ∷ discard 1 DiscardReply ∷ take_closed_ask 9 ∷ poll_event 32 ∷ poll 2 32 0 ∷ [];
  said = number 1 ∷ number 2 ∷ done ∷ filed Replies 1 reply ∷ filed Replies 1 error ∷ filed Replies 1 reply ∷ filed Replies 2 reply ∷ done ∷ closed (1 ∷ 2 ∷ []) ∷ took (held_packet 1 (pk 0 7 1) []) ∷ took (held_packet 2 (pk 1 0 2) []) ∷ [];
}

-- a reply taken by `poll_check` or `poll_for_reply` closes its descriptors; one taken with them does not
abbrev row3 : Row
row3 = record {
  start = Model.fresh 108 4 500;
  calls = send ReplyWithFds ∷ enqueue_fds_ask (3 ∷ 4 ∷ 5 ∷ 6 ∷ []) ∷ enqueue (pk 1 2 1) ∷ check 1 32 ∷ take_closed_ask 2 ∷ enqueue (pk 1 1 1) ∷ poll_reply 1 32 ∷ take_closed_ask 2 ∷ enqueue (pk 1 1 1) ∷ poll 1 32 1 ∷ take_closed_ask 0 ∷ [];
  said = number 1 ∷ done ∷ filed Replies 1 reply ∷ took (held_packet 1 (pk 1 2 1) (3 ∷ 4 ∷ [])) ∷ closed (3 ∷ 4 ∷ []) ∷ filed Replies 1 reply ∷ took (held_packet 1 (pk 1 1 1) (5 ∷ [])) ∷ closed (5 ∷ []) ∷ filed Replies 1 reply ∷ took (held_packet 1 (pk 1 1 1) (6 ∷ [])) ∷ closed [] ∷ [];
}

-- the answered request stays: a second reply has its mode and takes descriptors, the first of those that wait, and an error is dropped
abbrev row4 : Row
row4 = record {
  start = Model.fresh 108 4 500;
  calls = send ReplyWithFds ∷ enqueue_fds_ask (6 ∷ []) ∷ enqueue_fds_ask (7 ∷ 8 ∷ []) ∷ discard 1 DiscardReplyAndError ∷ enqueue (pk 1 1 1) ∷ enqueue (pk 1 1 1) ∷ enqueue (pk 0 0 1) ∷ take_closed_ask 2 ∷ [];
  said = number 1 ∷ done ∷ done ∷ done ∷ filed Dropped 1 reply ∷ filed Dropped 1 reply ∷ filed Dropped 1 error ∷ closed (6 ∷ 7 ∷ []) ∷ [];
}

-- an answer to what was not asked is refused by 20, an error, a reply and an event alike, and changes nothing; one to the last written is taken, though it is above next reply expected; so is what was refused, once it was asked; codes 11 and 139 are never refused by it
abbrev row5 : Row
row5 = record {
  start = Model.fresh 108 4 500;
  calls = send ReplyWithoutFds ∷ send NoReply ∷ enqueue (pk 2 0 3) ∷ enqueue (pk 1 0 3) ∷ enqueue (pk 0 0 3) ∷ prepare 2 ∷ check 0 0 ∷ enqueue (pk 2 0 2) ∷ enqueue (pk 2 0 1) ∷ enqueue (pk 11 0 3) ∷ enqueue (pk 139 0 3) ∷ enqueue (pk 140 0 3) ∷ send NoReply ∷ enqueue (pk 140 0 3) ∷ [];
  said = number 1 ∷ number 2 ∷ refused 20 ∷ refused 20 ∷ refused 20 ∷ answer true ∷ again ∷ filed Events 2 (event false) ∷ refused 20 ∷ filed Events 2 (event false) ∷ filed Events 2 (event true) ∷ refused 20 ∷ number 3 ∷ filed Events 3 (event true) ∷ [];
}

-- an error: a reply without a mode, an event under DiscardReply or with no request
abbrev row6 : Row
row6 = record {
  start = Model.fresh 108 4 500;
  calls = send NoReply ∷ send NoReply ∷ discard 2 DiscardReply ∷ enqueue (pk 0 0 0) ∷ enqueue (pk 0 0 1) ∷ enqueue (pk 0 0 2) ∷ poll_event 32 ∷ poll_event 32 ∷ poll_event 32 ∷ [];
  said = number 1 ∷ number 2 ∷ done ∷ filed Events 0 error ∷ filed Replies 1 error ∷ filed Events 2 error ∷ took (held_packet 0 (pk 0 0 0) []) ∷ took (held_packet 2 (pk 0 0 2) []) ∷ nothing ∷ [];
}

-- codes 11 and 139 carry no number; every other code is numbered
abbrev row7 : Row
row7 = record {
  start = numbers_at 65541 0 0;
  calls = enqueue (pk 2 0 5) ∷ enqueue (pk 11 255 65535) ∷ enqueue (pk 139 254 4) ∷ enqueue (pk 140 0 6) ∷ enqueue (pk 35 0 5) ∷ [];
  said = filed Events 5 (event false) ∷ filed Events 5 (event false) ∷ filed Events 5 (event true) ∷ filed Events 6 (event true) ∷ filed Events 65541 (generic false) ∷ [];
}

-- 1 for a short packet; 4 for descriptors that do not wait, and nothing changed
abbrev row8 : Row
row8 = record {
  start = Model.fresh 108 4 500;
  calls = enqueue (0 ∷ 0 ∷ []) ∷ send ReplyWithFds ∷ enqueue (pk 1 1 1) ∷ prepare 1 ∷ enqueue_fds_ask (9 ∷ []) ∷ enqueue (pk 1 1 1) ∷ [];
  said = refused 1 ∷ number 1 ∷ refused 4 ∷ answer false ∷ done ∷ filed Replies 1 reply ∷ [];
}

-- 5 for a request over K, and for a packet over S; a dropped packet needs no room, and a moved error none
abbrev row9 : Row
row9 = record {
  start = Model.fresh 108 1 48;
  calls = send NoReply ∷ send ReplyWithoutFds ∷ enqueue (pk 0 0 1) ∷ enqueue (pk 2 0 1) ∷ poll_reply 1 0 ∷ poll_event 32 ∷ discard 1 DiscardReplyAndError ∷ enqueue (pk 2 0 1) ∷ enqueue (pk 0 0 1) ∷ [];
  said = number 1 ∷ refused 5 ∷ filed Replies 1 error ∷ refused 5 ∷ absent ∷ took (held_packet 1 (pk 0 0 1) []) ∷ done ∷ filed Events 1 (event false) ∷ filed Dropped 1 error ∷ [];
}

-- 8 comes after nothing was found, and leaves all
abbrev row10 : Row
row10 = record {
  start = Model.fresh 108 4 500;
  calls = send ReplyWithFds ∷ send NoReply ∷ enqueue_fds_ask (4 ∷ []) ∷ poll 1 0 0 ∷ enqueue (pk 1 1 1) ∷ poll 1 31 1 ∷ poll 1 32 0 ∷ check 1 31 ∷ poll 1 32 1 ∷ check 1 0 ∷ enqueue (pk 2 0 2) ∷ check 1 0 ∷ poll_event 31 ∷ poll_event 32 ∷ poll_reply 1 0 ∷ [];
  said = number 1 ∷ number 2 ∷ done ∷ nothing ∷ filed Replies 1 reply ∷ refused 8 ∷ refused 8 ∷ refused 8 ∷ took (held_packet 1 (pk 1 1 1) (4 ∷ [])) ∷ again ∷ filed Events 2 (event false) ∷ absent ∷ refused 8 ∷ took (held_packet 2 (pk 2 0 2) []) ∷ again ∷ [];
}

-- 6 without a reply and never with one; after that one more passes
abbrev row11 : Row
row11 = record {
  start = numbers_at 65534 0 0;
  calls = send NoReply ∷ send ReplyWithoutFds ∷ send NoReply ∷ enqueue (pk 2 0 65535) ∷ [];
  said = refused 6 ∷ number 65535 ∷ number 65536 ∷ filed Events 65535 (event false) ∷ [];
}

-- the end of the numbers
abbrev row12 : Row
row12 = record {
  start = numbers_at 9223372036854775807 9223372036854775806 9223372036854775807;
  calls = send NoReply ∷ send ReplyWithoutFds ∷ enqueue (pk 2 0 0) ∷ enqueue (pk 2 0 65535) ∷ [];
  said = refused 3 ∷ refused 3 ∷ refused 3 ∷ filed Events 9223372036854775807 (event false) ∷ [];
}

-- where two refusals apply, the rules' first is given: on sending 3, 6, 5;
abbrev row13 : Row
row13 = record { start = numbers_at 9223372036854775807 0 0; calls = send NoReply ∷ []; said = refused 3 ∷ [] }

abbrev row14 : Row
row14 = record { start = full_at 65534 0 0; calls = send NoReply ∷ send ReplyWithoutFds ∷ []; said = refused 6 ∷ refused 5 ∷ [] }

-- on intake 1 (31 bytes are too few) before 3, and 3 before 20; where the last read is above the last written, 20 for every numbered packet and for none else,
abbrev row15 : Row
row15 = record {
  start = numbers_at 0 0 9223372036854775807;
  calls = enqueue (2 ∷ replicate 30 0) ∷ enqueue (pk 2 0 0) ∷ enqueue (pk 2 0 65535) ∷ enqueue (pk 11 0 0) ∷ enqueue (pk 139 0 0) ∷ [];
  said = refused 1 ∷ refused 3 ∷ refused 20 ∷ filed Events 9223372036854775807 (event false) ∷ filed Events 9223372036854775807 (event true) ∷ [];
}

-- and 4 before 5.
abbrev row16 : Row
row16 = record {
  start = Model.fresh 108 4 48;
  calls = send ReplyWithFds ∷ enqueue (pk 1 0 1) ∷ enqueue (pk 1 1 1) ∷ enqueue (pk 1 0 1) ∷ [];
  said = number 1 ∷ filed Replies 1 reply ∷ refused 4 ∷ refused 5 ∷ [];
}

-- 256 descriptors are inside, and no more
abbrev row17 : Row
row17 = record {
  start = Model.fresh 108 4 500;
  calls = enqueue_fds_ask (replicate 256 7) ∷ enqueue_fds_ask [] ∷ enqueue_fds_ask (7 ∷ []) ∷ [];
  said = done ∷ done ∷ refused 5 ∷ [];
}

-- next reply expected stays where it is higher than the packet's number
abbrev row18 : Row
row18 = record { start = numbers_at 10 8 0; calls = enqueue (pk 2 0 5) ∷ prepare 8 ∷ prepare 9 ∷ []; said = filed Events 5 (event false) ∷ answer false ∷ answer true ∷ [] }

-- an error that a discard or a poll moves goes behind the events that are held
abbrev row19 : Row
row19 = record {
  start = Model.fresh 108 4 500;
  calls = send ReplyWithoutFds ∷ send ReplyWithoutFds ∷ enqueue (pk 2 0 1) ∷ enqueue (pk 0 7 1) ∷ enqueue (pk 0 8 2) ∷ discard 1 DiscardReply ∷ poll_reply 2 0 ∷ poll_event 32 ∷ poll_event 32 ∷ poll_event 32 ∷ [];
  said = number 1 ∷ number 2 ∷ filed Events 1 (event false) ∷ filed Replies 1 error ∷ filed Replies 2 error ∷ done ∷ absent ∷ took (held_packet 1 (pk 2 0 1) []) ∷ took (held_packet 1 (pk 0 7 1) []) ∷ took (held_packet 2 (pk 0 8 2) []) ∷ [];
}

-- a request with an ordinary reply, or with none, has no descriptors, whatever byte 1 of a reply says
abbrev row20 : Row
row20 = record {
  start = Model.fresh 108 4 500;
  calls = enqueue_fds_ask (5 ∷ 6 ∷ []) ∷ send ReplyWithoutFds ∷ send NoReply ∷ enqueue (pk 1 2 1) ∷ enqueue (pk 1 3 2) ∷ poll 1 32 0 ∷ poll 2 32 0 ∷ [];
  said = done ∷ number 1 ∷ number 2 ∷ filed Replies 1 reply ∷ filed Replies 2 reply ∷ took (held_packet 1 (pk 1 2 1) []) ∷ took (held_packet 2 (pk 1 3 2) []) ∷ [];
}

-- a reply with no outstanding request is held, and takes no descriptors
abbrev row21 : Row
row21 = record {
  start = numbers_at 9 0 0;
  calls = enqueue_fds_ask (5 ∷ []) ∷ enqueue (pk 1 1 7) ∷ poll 7 32 0 ∷ [];
  said = done ∷ filed Replies 7 reply ∷ took (held_packet 7 (pk 1 1 7) []) ∷ [];
}

-- each discard of a request sets its mode anew, and whether it has descriptors stays
abbrev row22 : Row
row22 = record {
  start = Model.fresh 108 4 500;
  calls = send ReplyWithFds ∷ enqueue_fds_ask (5 ∷ 6 ∷ []) ∷ discard 1 DiscardReply ∷ discard 1 DiscardReplyAndError ∷ enqueue (pk 0 7 1) ∷ discard 1 DiscardReply ∷ enqueue (pk 0 8 1) ∷ enqueue (pk 1 1 1) ∷ take_closed_ask 1 ∷ [];
  said = number 1 ∷ done ∷ done ∷ done ∷ filed Dropped 1 error ∷ done ∷ filed Events 1 error ∷ filed Dropped 1 reply ∷ closed (5 ∷ []) ∷ [];
}

-- a discard of a number that is not outstanding, below or above, sets no mode
abbrev row23 : Row
row23 = record {
  start = Model.fresh 108 4 500;
  calls = send NoReply ∷ send NoReply ∷ enqueue (pk 2 0 2) ∷ discard 1 DiscardReplyAndError ∷ discard 3 DiscardReplyAndError ∷ send NoReply ∷ enqueue (pk 0 7 2) ∷ enqueue (pk 0 8 3) ∷ [];
  said = number 1 ∷ number 2 ∷ filed Events 2 (event false) ∷ done ∷ done ∷ number 3 ∷ filed Replies 2 error ∷ filed Replies 3 error ∷ [];
}

-- a packet of a number below the first outstanding one has no request
abbrev row24 : Row
row24 = record {
  start = Model.fresh 108 4 500;
  calls = send ReplyWithFds ∷ enqueue (pk 0 7 0) ∷ discard 1 DiscardReply ∷ enqueue (pk 1 2 0) ∷ [];
  said = number 1 ∷ filed Events 0 error ∷ done ∷ filed Replies 0 reply ∷ [];
}

-- an event takes no descriptors, whatever its byte 1; 4 for a reply that would be dropped too
abbrev row25 : Row
row25 = record {
  start = Model.fresh 108 4 500;
  calls = send ReplyWithFds ∷ enqueue_fds_ask (5 ∷ []) ∷ enqueue (pk 2 3 1) ∷ discard 1 DiscardReply ∷ enqueue (pk 1 2 1) ∷ enqueue (pk 1 1 1) ∷ take_closed_ask 1 ∷ [];
  said = number 1 ∷ done ∷ filed Events 1 (event false) ∷ done ∷ refused 4 ∷ filed Dropped 1 reply ∷ closed (5 ∷ []) ∷ [];
}

-- replies as they are held, between others: three of request 2, and two errors among three of request 3
abbrev threes : Client
threes = set_replies (numbers_at 9 0 6) (held_packet 1 (pk 1 1 1) (1 ∷ []) ∷ held_packet 2 (pk 1 1 2) (2 ∷ []) ∷ held_packet 2 (pk 1 1 2) (3 ∷ []) ∷ held_packet 2 (pk 1 1 2) (4 ∷ []) ∷ held_packet 5 (pk 1 1 5) (6 ∷ []) ∷ [])

abbrev errors : Client
errors = set_replies (numbers_at 9 0 6) (held_packet 3 (pk 0 1 3) (5 ∷ []) ∷ held_packet 3 (pk 1 2 3) (6 ∷ []) ∷ held_packet 3 (pk 0 4 3) [] ∷ held_packet 4 (pk 1 5 4) (7 ∷ 8 ∷ []) ∷ [])

-- DiscardReplyAndError closes from the record on that as many as are held above it say, and round
abbrev row26 : Row
row26 = record {
  start = threes;
  calls = discard 2 DiscardReplyAndError ∷ take_closed_ask 3 ∷ poll 5 32 1 ∷ poll 1 32 1 ∷ [];
  said = done ∷ closed (3 ∷ 4 ∷ 2 ∷ []) ∷ took (held_packet 5 (pk 1 1 5) (6 ∷ [])) ∷ took (held_packet 1 (pk 1 1 1) (1 ∷ [])) ∷ [];
}

-- under DiscardReply errors become events in their order, without descriptors; under DiscardReplyAndError they go
abbrev row27 : Row
row27 = record {
  start = errors;
  calls = discard 3 DiscardReply ∷ take_closed_ask 2 ∷ poll_event 32 ∷ poll_event 32 ∷ poll_event 32 ∷ [];
  said = done ∷ closed (5 ∷ 6 ∷ []) ∷ took (held_packet 3 (pk 0 1 3) []) ∷ took (held_packet 3 (pk 0 4 3) []) ∷ nothing ∷ [];
}

abbrev row28 : Row
row28 = record {
  start = errors;
  calls = discard 3 DiscardReplyAndError ∷ take_closed_ask 2 ∷ poll_event 32 ∷ poll 3 32 9 ∷ [];
  said = done ∷ closed (6 ∷ 5 ∷ []) ∷ nothing ∷ nothing ∷ [];
}

-- polling: the oldest of the number, behind others or not; `poll_check` hands out an error, `poll_for_reply` turns it into an event and closes what it has; 8 for a reply and none for an error
abbrev row29 : Row
row29 = record {
  start = errors;
  calls = poll 4 32 1 ∷ poll_reply 4 31 ∷ poll 4 32 2 ∷ poll_reply 3 0 ∷ take_closed_ask 1 ∷ check 3 32 ∷ take_closed_ask 1 ∷ check 3 32 ∷ poll_event 32 ∷ poll_event 32 ∷ [];
  said = refused 8 ∷ refused 8 ∷ took (held_packet 4 (pk 1 5 4) (7 ∷ 8 ∷ [])) ∷ absent ∷ closed (5 ∷ []) ∷ took (held_packet 3 (pk 1 2 3) (6 ∷ [])) ∷ closed (6 ∷ []) ∷ took (held_packet 3 (pk 0 4 3) []) ∷ took (held_packet 3 (pk 0 1 3) []) ∷ nothing ∷ [];
}

-- the close list leaves whole or, by 8, not at all
abbrev row30 : Row
row30 = record {
  start = set_closing (Model.fresh 108 4 500) (5 ∷ 6 ∷ 7 ∷ []);
  calls = take_closed_ask 2 ∷ take_closed_ask 3 ∷ take_closed_ask 0 ∷ [];
  said = refused 8 ∷ closed (5 ∷ 6 ∷ 7 ∷ []) ∷ closed [] ∷ [];
}

-- descriptors inside are those waiting, those held and those to be closed
abbrev row31 : Row
row31 = record {
  start = set_closing (set_waiting (set_replies (numbers_at 9 0 6) (held_packet 1 (pk 1 56 1) (replicate 56 1) ∷ [])) (replicate 99 2)) (replicate 100 3);
  calls = enqueue_fds_ask (8 ∷ 9 ∷ []) ∷ enqueue_fds_ask (8 ∷ []) ∷ enqueue_fds_ask (9 ∷ []) ∷ [];
  said = refused 5 ∷ done ∷ refused 5 ∷ [];
}

-- used is what both lists cost, 16 bytes with each packet, and room given back counts at once
abbrev row32 : Row
row32 = record {
  start = Model.fresh 108 4 120;
  calls = send NoReply ∷ enqueue (pk 0 7 1) ∷ enqueue (pk 2 0 1) ∷ enqueue (pk 3 0 1) ∷ poll 1 32 0 ∷ enqueue (pk 3 0 1) ∷ [];
  said = number 1 ∷ filed Replies 1 error ∷ filed Events 1 (event false) ∷ refused 5 ∷ took (held_packet 1 (pk 0 7 1) []) ∷ filed Events 1 (event false) ∷ [];
}

-- codes 11 and 139 do not raise next reply expected to a last read that is above it, whatever their bytes; any other does
abbrev row33 : Row
row33 = record {
  start = numbers_at 900 2 900;
  calls = enqueue (pk 11 0 7) ∷ enqueue (pk 139 0 900) ∷ prepare 900 ∷ prepare 3 ∷ prepare 2 ∷ enqueue (pk 140 0 900) ∷ prepare 900 ∷ [];
  said = filed Events 900 (event false) ∷ filed Events 900 (event true) ∷ answer true ∷ answer true ∷ answer false ∷ filed Events 900 (event true) ∷ answer false ∷ [];
}

-- sending leaves the last read, by which alone NoReply is said
abbrev row34 : Row
row34 = record {
  start = numbers_at 5 0 3;
  calls = send ReplyWithoutFds ∷ check 3 0 ∷ check 2 0 ∷ poll_reply 2 0 ∷ [];
  said = number 6 ∷ again ∷ absent ∷ again ∷ [];
}

-- a packet's number stands in the order of the connection
abbrev row35 : Row
row35 = record {
  start = set_numbers (Model.fresh 66 4 500) (record { written = 257; expected = 0; read = 0 });
  calls = send NoReply ∷ enqueue (2 ∷ 0 ∷ 0 ∷ 1 ∷ replicate 28 0) ∷ enqueue (0 ∷ 7 ∷ 1 ∷ 2 ∷ replicate 28 0) ∷ [];
  said = number 258 ∷ filed Events 1 (event false) ∷ filed Replies 258 error ∷ [];
}

-- 3 before 5, and 20 before 5; a packet that is ahead has no request and claims nothing, so that 4 never meets 20
abbrev full_store : ℕ → ℕ → Client
full_store w r = set_events (set_numbers (Model.fresh 108 4 48) (record { written = w; expected = 0; read = r })) (held_packet 5 (pk 2 0 5) [] ∷ [])

abbrev row36 : Row
row36 = record { start = full_store 9223372036854775807 9223372036854775807; calls = enqueue (pk 2 0 0) ∷ enqueue (pk 2 0 65535) ∷ []; said = refused 3 ∷ refused 5 ∷ [] }

abbrev row38 : Row
row38 = record { start = full_store 9 5; calls = enqueue (pk 2 0 10) ∷ enqueue (pk 2 0 9) ∷ []; said = refused 20 ∷ refused 5 ∷ [] }

-- codes 128 and 129 are no error and no reply, though 0 and 1 with the top bit
abbrev row37 : Row
row37 = record {
  start = Model.fresh 108 4 500;
  calls = send ReplyWithFds ∷ enqueue (pk 128 7 1) ∷ enqueue (pk 129 1 1) ∷ discard 1 DiscardReplyAndError ∷ enqueue (pk 128 8 1) ∷ enqueue (pk 129 2 1) ∷ [];
  said = number 1 ∷ filed Events 1 (event true) ∷ filed Events 1 (event true) ∷ done ∷ filed Events 1 (event true) ∷ filed Events 1 (event true) ∷ [];
}

-- the class of each packet, wherever it goes, held or dropped
abbrev row39 : Row
row39 = record {
  start = Model.fresh 108 4 500;
  calls = send NoReply ∷ enqueue (pk 35 0 1) ∷ enqueue (pk 163 0 1) ∷ enqueue (pk 99 0 1) ∷ enqueue (pk 127 0 1) ∷ discard 1 DiscardReplyAndError ∷ enqueue (pk 0 0 1) ∷ enqueue (pk 1 0 1) ∷ [];
  said = number 1 ∷ filed Events 1 (generic false) ∷ filed Events 1 (generic true) ∷ filed Events 1 (event false) ∷ filed Events 1 (event false) ∷ done ∷ filed Dropped 1 error ∷ filed Dropped 1 reply ∷ [];
}

abbrev pub table : List Row
table = row1 ∷ row2 ∷ row3 ∷ row4 ∷ row5 ∷ row6 ∷ row7 ∷ row8 ∷ row9 ∷ row10 ∷ row11 ∷ row12 ∷ row13 ∷ row14 ∷ row15 ∷ row16 ∷ row17 ∷ row18 ∷ row19 ∷ row20 ∷ row21 ∷ row22 ∷ row23 ∷ row24 ∷ row25 ∷ row26 ∷ row27 ∷ row28 ∷ row29 ∷ row30 ∷ row31 ∷ row32 ∷ row33 ∷ row34 ∷ row35 ∷ row36 ∷ row37 ∷ row38 ∷ row39 ∷ []

-- THE EXAMPLES: each row runs as it says.
pub examples : All table
unfolding run step Model.send_request Model.enqueue_fds Model.enqueue_packet Model.discard_reply Model.take_closed Model.poll_for_reply_or_error Model.poll_check Model.poll_for_reply Model.prepare_check Model.poll_for_event Model.find pass refuse sending must_sync both either choose number_after unnumbered class_of was_sent in_range full field number_in cut turned bytes_of low_bytes low_number Model.numbered Model.asked_of Model.head_of Model.place_of Model.claimed Model.take_in Model.decide Model.ahead Model.decide_by costs descriptors_of Model.with_mode under_mode Model.of_number Model.not_of Model.above Model.errors_of Model.closing_order
examples = (refl, (refl, (refl, (refl, (refl, (refl, (refl, (refl, (refl, (refl, (refl, (refl, (refl, (refl, (refl, (refl, (refl, (refl, (refl, (refl, (refl, (refl, (refl, (refl, (refl, (refl, (refl, (refl, (refl, (refl, (refl, (refl, (refl, (refl, (refl, (refl, (refl, (refl, (refl, tt)))))))))))))))))))))))))))))))))))))))

-- the least store, as the rules have it
pub least_store_lem : ◌≡◌ {A = ℕ} Model.least_store 48
least_store_lem = refl

-- `new`: the ranges of the two rooms to their ends, 9 before 13
pub starts : (Model.new 108 1 48 ≡ gives (Model.fresh 108 1 48)) × (Model.new 66 65536 16777216 ≡ gives (Model.fresh 66 65536 16777216)) × (Model.new 108 0 48 ≡ refuses 9) × (Model.new 108 65537 48 ≡ refuses 9)
    × (Model.new 108 1 47 ≡ refuses 9) × (Model.new 108 1 16777217 ≡ refuses 9) × (Model.new 0 1 48 ≡ refuses 13) × (Model.new 0 0 48 ≡ refuses 9)
unfolding Model.new Model.roomy refuse both either legal
starts = (refl, refl, refl, refl, refl, refl, refl, refl)

-- A packet over 65,536 bytes is refused by 2, whatever its number would be; one of 32 to 65,536 is refused for no length.
pub long_first : (c : Client) (p : List ℕ) → 65536 < length p → Model.enqueue_packet c p ≡ refuses 2
unfolding Model.enqueue_packet Model.decide refuse pass
long_first c p h = let l : 32 ≤ length p = omega arith in simp (le-ltb (length p) 32 l, lt-ltb 65536 (length p) h)

pub any_length : (c : Client) (p : List ℕ) → 32 ≤ length p → length p ≤ 65536 → Model.decide c p ≡ pass (Model.packet_number c p) (λ n. Model.decide_by c p n (Model.asked_of c n))
unfolding Model.decide refuse
any_length c p h k = simp (le-ltb (length p) 32 h, le-ltb 65536 (length p) k)

-- ---- calls that make many steps

-- what such a call says, without the state
abbrev said : {A B : Type 0} → (A → B) → Answer (A × Client) → Answer B
said f (gives x) = gives (f x.0)
said f (refuses n) = refuses n

abbrev sendings : ℕ → List ℕ → Answer ShownSendings
sendings k bytes = said shown_sendings (send_requests (Model.fresh 108 k 500) bytes)

abbrev sent : ℕ → ℕ → Stop → Answer ShownSendings
sent n last stop = gives (record { count = n; last = last; stopped = stop })

-- a row of sends ends with its bytes, at a byte that is no kind, or at a refusal
pub sends : (sendings 4 (0 ∷ 1 ∷ 2 ∷ []) ≡ sent 3 3 ended) × (sendings 4 (0 ∷ 2 ∷ 3 ∷ 1 ∷ []) ≡ sent 2 2 meaningless) × (sendings 2 (1 ∷ 1 ∷ 0 ∷ []) ≡ sent 2 2 (Batch.refused 5)) × (sendings 4 [] ≡ sent 0 0 ended)
unfolding send_requests send_turn many on_turn model_turn Model.send_request sending must_sync pass refuse both choose
sends = (refl, refl, refl, refl)

-- two events, of numbers 5 and 6
abbrev two_events : Client
two_events = set_events (numbers_at 9 0 6) (held_packet 5 (pk 2 0 5) [] ∷ held_packet 6 (pk 3 0 6) [] ∷ [])

abbrev handings : Client → ℕ → ℕ → Answer Handings
handings c room marks = said (λ x. x) (poll_for_events c room marks)

abbrev both_events : Answer Handings
both_events = gives (record { events = held_packet 5 (pk 2 0 5) [] ∷ held_packet 6 (pk 3 0 6) [] ∷ []; stopped = ended })

abbrev first_event : Answer Handings
first_event = gives (record { events = held_packet 5 (pk 2 0 5) [] ∷ []; stopped = Batch.refused 8 })

-- they are handed out as far as both outputs have room; 8 where there is no room for the first, and none where there is no event
pub polls : (handings two_events 64 6 ≡ both_events) × (handings two_events 64 5 ≡ first_event) × (handings two_events 63 6 ≡ first_event) × (handings two_events 31 6 ≡ refuses 8) × (handings two_events 64 2 ≡ refuses 8)
    × (handings (Model.fresh 108 4 500) 0 0 ≡ gives (record { events = []; stopped = ended }))
unfolding poll_for_events handed or_refused event_turn handing room_for turns many on_turn model_turn Model.poll_for_event refuse choose bytes_of turned low_bytes
polls = (refl, refl, refl, refl, refl, refl)

-- of the packets taken the bytes are shown, and how many they are
abbrev took_two : Feeding
took_two = record { packets = record { bytes = 32; filing = record { place = Events; number = 1; class = event false } } ∷ record { bytes = 36; filing = record { place = Replies; number = 2; class = reply } } ∷ []; stopped = partial }

pub feeds : shown_fed took_two ≡ record { bytes = 68; packets = 2; stopped = partial }
unfolding Feed.bytes_taken
feeds = refl
