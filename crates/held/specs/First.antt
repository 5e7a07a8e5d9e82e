-- The oldest record of a window: it is found where it is an event, and nothing moves where it goes. Assumes nothing.
use Rattle.std.specs.Prelude.{◌≡◌, refl, List, ℕ, ◌+◌, ◌-◌, ◌≤◌, ◌<◌, ltb, drop, Some}
use Rattle.std.proofs.Math.Path.{sym, ap}
use Rattle.std.proofs.Common.{◌∙◌, arith, le-ltb}
use Rattle.std.proofs.Math.Bool.{true}
use Rattle.octets.specs.Put.{put, cut, put_none}
use Rattle.held.specs.General.{choose_yes, choose_no}
use Rattle.packet.specs.Packet.{least_packet}
use Rattle.held.specs.Head.{header_size, event, num_of, len_of, fds_of, kind_of}
use Rattle.held.specs.Reading.{records, Readable}
use Rattle.held.specs.Rest.{rest_all, turn, turn_room}
use Rattle.held.specs.Find.{sought, suits_any, wanted, found_event}
use Rattle.held.specs.Moves.{window, left, size, next, removed}
use Rattle.held.specs.declared.Window.{Window}
use Rattle.held.specs.declared.Spot.{Spot}

-- the place of the record at the start of the window
abbrev pub first_place : Window → List ℕ → Spot
first_place w s = record { at = w.start; len = len_of (drop w.start s); number = num_of (drop w.start s); fds = fds_of (drop w.start s); before = 0 }

module _ (w : Window) (s : List ℕ) (R : Readable w s) (some : w.start < w.end) where
  -- it lies in the window,
  pub first_room : (w.start + (header_size + least_packet) ≤ w.end) × (w.start + (header_size + len_of (drop w.start s)) ≤ w.end)
  first_room = let z = turn_room s w.start w.end (records w s) (rest_all w s R) some in (omega (arith, z), omega (arith, z))

  -- and is found where it is an event.
  pub first_found : kind_of (drop w.start s) ≡ event → Some (first_place w s) ≡ found_event w s
  unfolding found_event sought
  first_found k =
      let F = turn s w.start w.end (records w s) (rest_all w s R) some in
      let H = F.here in
      let t : wanted event true 0 F.it ≡ true = sym (suits_any event true 0 F.it.kind F.it.number (sym H.kind ∙ k) refl) in
      (λ i. Some (record { at = w.start; len = H.len i; number = H.number i; fds = H.fds i; before = 0 }))
      ∙ sym (choose_yes _ _ _ t)
      ∙ ap (sought (wanted event true 0) w.start 0) (sym F.is)

-- Without it the window starts behind it, and the store is as it was.
pub removed_first : (w : Window) (s : List ℕ) (p : Spot) → p.at ≡ w.start → removed w s p ≡ left (window (w.start + size p) w.end) s
unfolding removed cut
removed_first w s p e =
    let z : p.at - w.start ≡ 0 = omega arith in
    choose_no (ltb (w.end - next p) (p.at - w.start)) _ _ (le-ltb (w.end - next p) (p.at - w.start) (omega arith))
    ∙ ap (left (window (w.start + size p) w.end)) (ap (λ (n : ℕ). put s (w.start + size p) (cut w.start n s)) z ∙ put_none s (w.start + size p))
