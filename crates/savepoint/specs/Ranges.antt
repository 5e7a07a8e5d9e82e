-- The test of a saved state is the rules' sentence: in range, as the model has it, and without descriptors. Assumes nothing.
use Rattle.std.specs.Prelude.{◌≡◌, true, ℕ, ◌≤◌, ◌<◌}
use Rattle.std.proofs.Math.ListN.{length}
use Rattle.octets.specs.Bytes.{legal}
use Rattle.sequence.specs.Numbering.{last_number}
use Rattle.packet.specs.Packet.{least_packet, most_packet}
use Rattle.requests.specs.Room.{requests_most}
use Rattle.held.specs.Head.{most_store}
use Rattle.model.specs.Client.{Held, Client}
use Rattle.model.specs.Model.{least_store}
use Rattle.savepoint.specs.Saved.{Partial, target}

-- ---- held packets

-- a held packet in range, without descriptors
pub record HeldFits (last : ℕ) (h : Held) : Type 0 where
  pub least : least_packet ≤ length h.packet
  pub most : length h.packet ≤ most_packet
  pub known : h.number ≤ last
  pub bare : length h.descriptors ≡ 0

-- ---- the client

pub record Numbered (m : Client) : Type 0 where
  pub order : legal m.order ≡ true
  pub requests_least : 1 ≤ m.most_requests
  pub requests_most_lem : m.most_requests ≤ requests_most
  pub store_least : least_store ≤ m.most_bytes
  pub store_most : m.most_bytes ≤ most_store
  pub written_most : m.numbers.written ≤ last_number
  pub expected_most : m.numbers.expected ≤ last_number
  pub read_most : m.numbers.read ≤ last_number
  pub run_from_one : length m.outstanding ≤ m.numbers.written
  pub run_most : length m.outstanding ≤ m.most_requests

-- ---- the reader

pub record PartialFits (p : Partial) : Type 0 where
  pub least : least_packet ≤ p.room
  pub most : p.room ≤ most_packet
  pub order : legal p.order ≡ true
  pub fits : target p ≤ p.room
  pub waits : length p.filled < target p
