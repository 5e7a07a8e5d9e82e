use Rattle.octets.specs.Put.{cut}
use Rattle.std.proofs.Common.{arith, sym}
use Rattle.packet_reader.specs.Sound.{within_seen}
use Rattle.packet_reader.proofs.PacketReader.buffer.Goals as goal

pub slice_bounds-buf-start : goal.slice_bounds-buf-start
slice_bounds-buf-start c = omega (arith, within_seen _ _ _ c.unfilled-unfilled.ensures)

pub slice_bounds-buf-end : goal.slice_bounds-buf-end
slice_bounds-buf-end c = omega (arith, within_seen _ _ _ c.unfilled-unfilled.ensures)

pub slice_bounds-result-count : goal.slice_bounds-result-count
slice_bounds-result-count c = omega (arith, within_seen _ _ _ c.unfilled-unfilled.ensures)

pub returns : goal.returns
unfolding cut
returns c = record { shows = simp (sym c.unfilled-unfilled.ensures); stands = simp (sym c.unfilled-unfilled.ensures) }
