-- Soundness of a reader in the rules' words, and the same as its test. Assumes nothing.
use Rattle.std.specs.Prelude.{◌≡◌, refl, Bool, true, false, not, List, ℕ, ◌+◌, ◌-◌, ◌≤◌, ◌<◌, length}
use Rattle.std.proofs.Common.{sym, ◌∙◌, arith, leb-true, ltb-true, eqb-true, le-leb, lt-ltb, eq-eqb}
use Rattle.std.proofs.lemmas.Bool.{not-false}
use Rattle.octets.specs.Logic.{choose, both_left, both_right, both_yes}
use Rattle.octets.specs.Bytes.{legal}
use Rattle.packet.specs.Packet.{least_packet}
use Rattle.packet_reader.specs.Frame.{aim}
use Rattle.refusal.specs.Answer.{gives, gives_past, gives_rest}
use Rattle.packet_reader.specs.Reader.{most_buffer, room, soundb, capacity, unfilled, Progress, advanced}
use Rattle.packet_reader.specs.declared.PacketReader.{PacketReader}
use Rattle.octets.specs.declared.Span.{Span}

-- 01, Rooms: what a sound reader is
pub record Sound (r : PacketReader) (s : List ℕ) : Type 0 where
  pub least : least_packet ≤ length s
  pub most : length s ≤ most_buffer
  pub order_known : legal r.order ≡ true
  pub target_given : r.target ≡ aim r.order s r.filled
  pub target_fits : r.target ≤ length s
  pub not_reached : r.filled < r.target

-- The test holds exactly for sound readers.
pub sound_is : (r : PacketReader) (s : List ℕ) → soundb r s ≡ true → Sound r s
unfolding soundb room
sound_is r s h =
    let a = both_right _ _ h in let b = both_right _ _ a in let d = both_right _ _ b in
    record {
      least = leb-true _ _ (both_left _ _ (both_left _ _ h));
      most = leb-true _ _ (both_right _ _ (both_left _ _ h));
      order_known = both_left _ _ a;
      target_given = eqb-true _ _ (both_left _ _ b);
      target_fits = leb-true _ _ (both_left _ _ d);
      not_reached = ltb-true _ _ (both_right _ _ d);
    }

pub is_sound : (r : PacketReader) (s : List ℕ) → Sound r s → soundb r s ≡ true
unfolding soundb room
is_sound r s h =
    both_yes _ _ (both_yes _ _ (le-leb least_packet (length s) h.least) (le-leb (length s) most_buffer h.most))
    (both_yes _ _ h.order_known
    (both_yes _ _ (eq-eqb r.target _ h.target_given) (both_yes _ _ (le-leb r.target (length s) h.target_fits) (lt-ltb r.filled r.target h.not_reached))))

-- what a call's test tells
pub sound_seen : (r : PacketReader) (s : List ℕ) (b : Bool) → b ≡ soundb r s → not b ≡ false → Sound r s
sound_seen r s b e h = sound_is r s (sym e ∙ not-false b h)

-- The unfilled part lies in the buffer.
pub record Within (p : Span) (s : List ℕ) : Type 0 where
  pub ordered : p.start ≤ p.end
  pub inside : p.end ≤ length s

pub unfilled_within : (r : PacketReader) (s : List ℕ) → Within (unfilled r s) s
unfolding unfilled choose
unfilled_within r s = go (soundb r s) refl
  where
    go : (b : Bool) → soundb r s ≡ b → Within (choose {A = Span} b (record { start = r.filled; end = r.target }) (record { start = 0; end = 0 })) s
    go true e = let h = sound_is r s e in record { ordered = omega (arith, h.not_reached); inside = h.target_fits }
    go false e = record { ordered = omega arith; inside = omega arith }

pub within_seen : (r : PacketReader) (s : List ℕ) (p : Span) → p ≡ unfilled r s → Within p s
within_seen r s p e = rw e (unfilled_within r s)

-- what an answer tells of the buffer: the part that is lent lies in it, and it has a packet's leastPacket bytes
pub capacity_fits : (r : PacketReader) (s : List ℕ) (k : ℕ) → gives k ≡ capacity r s → r.filled + k ≤ length s
unfolding capacity
capacity_fits r s k e =
    let h = sound_is r s (not-false _ (gives_past _ _ _ e)) in
    let f = gives_rest _ _ _ e in
    let q : k ≡ r.target - r.filled = cc in
    omega (arith, h.target_fits, h.not_reached, q)

pub advanced_fixed : (r : PacketReader) (s : List ℕ) (n : ℕ) {x : Progress} → gives x ≡ advanced r s n → least_packet ≤ length s
unfolding advanced
advanced_fixed r s n e = (sound_is r s (not-false _ (gives_past _ _ _ e))).least
