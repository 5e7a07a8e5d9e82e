-- What the exports answer, and what they leave. Assumes nothing.
use Rattle.std.specs.Prelude.{◌≡◌, refl, Bool, true, false, List, [], ℕ, ◌+◌, ◌-◌, ◌≤◌, ◌<◌, get_or, length, Option, Some, None}
use Rattle.std.proofs.Common.{sym, subst, arith}
use Rattle.packet.specs.Packet.{least_packet, most_packet}
use Rattle.held.specs.Head.{event, header_size}
use Rattle.held.specs.Reading.{Sound, used}
use Rattle.held.specs.Walk.{walked}
use Rattle.held.specs.Find.{found_event}
use Rattle.held.specs.Moves.{Within, Room, window}
use Rattle.held.specs.Lies.{FirstEvent, FindsEvent}
use Rattle.held.specs.Theorems.{Walks, walks, find_event_law, place_law, fits_law, first_law}
use Rattle.held.specs.declared.Window.{Window}
use Rattle.held.specs.declared.Spot.{Spot}

-- The bytes are those of the move where a call did it, and as found where it refused.
pub record Does (done : Bool) (moved before after : List ℕ) : Type 0 where
  pub did : done ≡ true → after ≡ moved
  pub kept : done ≡ false → after ≡ before

-- a walk's answer as a number
abbrev pub unsound : ℕ
unsound = 18446744073709551615

abbrev pub answer : Option ℕ → ℕ
answer (Some n) = n
answer None = unsound

-- two numbers as a window
abbrev pub window_of : List ℕ → Window
window_of l = window (get_or l 0 0) (get_or l 1 0)

-- ---- laws

pub refused : (moved before : List ℕ) → Does false moved before before
refused moved before = record { did = λ e. let z : ◌≡◌ {A = ℕ} 0 1 = cc in absurd (omega arith); kept = λ e. refl }

pub done : (moved before after : List ℕ) → after ≡ moved → Does true moved before after
done moved before after m = record { did = λ e. m; kept = λ e. let z : ◌≡◌ {A = ℕ} 0 1 = cc in absurd (omega arith) }

pub never : {A : Type 0} → false ≡ true → A
never e = let z : ◌≡◌ {A = ℕ} 0 1 = cc in absurd (omega arith)

-- A walk that answers a count has found the store sound,
pub seen : (last : ℕ) (w : Window) (s : List ℕ) (n : ℕ) → Some n ≡ walked last w s → Sound last w s
seen last w s n e = (subst (Walks last w s) (sym e) (walks last w s)).0

-- there is then room for a packet whose cost fits beside what is used,
pub room : (last : ℕ) (w : Window) (s : List ℕ) (n : ℕ) → Sound last w s → n ≤ most_packet → header_size + n ≤ length s - used w → Room w s n
room last w s n S m h = record {
  order = S.readable.order;
  within = S.readable.within;
  most = m;
  room = omega (arith, S.readable.order, S.readable.within);
}

-- and an event that is found there lies in the window and has 32 bytes or more.
module _ (last : ℕ) (w : Window) (s : List ℕ) (p : Spot) (S : Sound last w s) (e : Some p ≡ found_event w s) where
  first : FirstEvent w s p
  first = subst (FindsEvent w s) (sym e) (find_event_law w s)

  pub within : Within w s p
  within = place_law last w s S event p [] first.it first.after first.lies

  pub byte : p.at + header_size < length s
  byte = (first_law last w s S event p [] first.it first.after first.lies).0

  pub whole : least_packet ≤ p.len
  whole = omega (arith, first.len, (fits_law last w s S event p [] first.it first.after first.lies).least)
