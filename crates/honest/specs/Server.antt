-- The server's packets as it has them to bring: what is asked of them, instead of a run's log. Where a run has them in order, none left out (`session/specs/Serving.antt`), its log is then honest. Assumes nothing.
use Rattle.std.specs.Prelude.{◌≡◌, ◌⊎◌, ℕ, ◌≤◌}
use mathlib.Core.List.{List, [], ◌∷◌, ◌++◌}
use Rattle.octets.specs.Logic.{choose}
use Rattle.packet.specs.Packet.{code_of, unnumbered}
use Rattle.model.specs.Calls.{Call, send, enqueue_fds_ask, enqueue, discard, poll, check, poll_reply, prepare, poll_event, take_closed_ask}
use Rattle.model.specs.Batch.{Each}
use Rattle.honest.specs.Run.{Entry, sent, took, WithReply, Wire, Known, Along}

-- a packet of the server, with its true number
pub record Packet : Type 0 where
  pub true_number : ℕ
  pub bytes : List ℕ

-- calls that bring no packet
abbrev pub Own : Call → Type 0
Own (send kind) = Unit {0}
Own (enqueue_fds_ask list) = Unit {0}
Own (enqueue p) = ⊥
Own (discard n m) = Unit {0}
Own (poll n bytes places) = Unit {0}
Own (check n bytes) = Unit {0}
Own (poll_reply n bytes) = Unit {0}
Own (prepare n) = Unit {0}
Own (poll_event bytes) = Unit {0}
Own (take_closed_ask places) = Unit {0}

-- the packets that carry a number; and those of a log, the earliest first
unfoldable pub carrying : List Packet → List Packet
carrying [] = []
carrying (p ∷ l) = choose (unnumbered (code_of p.bytes)) (carrying l) (p ∷ carrying l)

unfoldable pub packets_in : List Entry → List Packet
packets_in [] = []
packets_in (sent has-reply ∷ l) = packets_in l
packets_in (took t p f ∷ l) = packets_in l ++ (record { true_number = t; bytes = p } ∷ [])

-- ---- What is asked of the server, of its packets as it has them to bring

-- numbers never fall
abbrev pub Rising : List Packet → Type 0
Rising [] = Unit {0}
Rising (p ∷ l) = Each (λ (x : Packet). p.true_number ≤ x.true_number) l × Rising l

-- a packet of the number q comes before any of a greater
abbrev pub First : ℕ → List Packet → Type 0
First q [] = Unit {0}
First q (p ∷ l) = (p.true_number ≡ q) ⊎ ((p.true_number ≤ q) × First q l)

-- "Let each packet but code 11" and, by 02, M-101, but code 139 "carry the low 16 bits of its true number; let true numbers never fall nor pass the requests sent by then; and let each request with a reply have a numbered packet of its own number before any of a greater."
pub record HonestServer (o : ℕ) (all : List Packet) (l : List Entry) : Type 0 where
  pub wire : Each (λ (p : Packet). Wire o p.true_number p.bytes) (carrying all)
  pub rising : Rising (carrying all)
  pub known : Along (λ before t p. Known before t) l
  pub answered : (q : ℕ) → WithReply l q → First q (carrying all)
