-- The records that are left from an index of a store on, and the one that a turn finds there. Assumes nothing.
use Rattle.std.specs.Prelude.{◌≡◌, refl, List, [], ◌∷◌, ℕ, ◌+◌, ◌-◌, ◌≤◌, ◌<◌, length, drop}
use Rattle.std.proofs.Common.{sym, ap, ◌∙◌, subst, arith, length-append}
use Rattle.octets.specs.Put.{cut, length_cut}
use Rattle.packet.specs.Packet.{least_packet}
use Rattle.held.specs.Head.{Record, Fits, header_size, cost, encoded, len_of, length_encoded}
use Rattle.held.specs.Front.{Stands, stands}
use Rattle.held.specs.Reading.{flat, records, All, Readable}
use Rattle.held.specs.declared.Window.{Window}

-- the bytes from an index to an end are those of the records hs, which fit
pub record Rest (s : List ℕ) (at end : ℕ) (hs : List Record) : Type 0 where
  pub order : at ≤ end
  pub within : end ≤ length s
  pub bytes : cut at (end - at) s ≡ flat hs
  pub fit : All Fits hs

-- the record that a turn finds, and those behind it
pub record Turn (s : List ℕ) (at end : ℕ) (hs : List Record) : Type 0 where
  pub it : Record
  pub others : List Record
  pub is : hs ≡ it ∷ others
  pub here : Stands s at (end - at) it (flat others)
  pub behind : Rest s (at + cost it) end others

-- ---- laws

-- At the start of a window all its records are left,
pub rest_all : (w : Window) (s : List ℕ) → Readable w s → Rest s w.start w.end (records w s)
rest_all w s R = record { order = R.order; within = R.within; bytes = R.bytes; fit = R.fit }

-- before the end a turn finds one,
pub turn : (s : List ℕ) (at end : ℕ) (hs : List Record) → Rest s at end hs → at < end → Turn s at end hs
unfolding flat All
turn s at end [] R b = absurd (omega (arith, ap length R.bytes, length_cut at (end - at) s (omega (arith, R.within))))
turn s at end (h ∷ t) R b =
    let H : Stands s at (end - at) h (flat t) = stands s at (end - at) h (flat t) (omega (arith, R.within)) R.bytes R.fit.0 in
    let e : end - (at + cost h) ≡ end - at - cost h = omega arith in
    record {
      it = h;
      others = t;
      is = refl;
      here = H;
      behind = record { order = omega (arith, H.most); within = R.within; bytes = ap (λ (n : ℕ). cut (at + cost h) n s) e ∙ H.next; fit = R.fit.1 };
    }

-- and at the end none is left.
pub rest_none : (s : List ℕ) (at end : ℕ) (hs : List Record) → Rest s at end hs → end ≤ at → hs ≡ []
unfolding flat
rest_none s at end [] R b = refl
rest_none s at end (h ∷ t) R b =
    absurd (omega (arith, ap length R.bytes, length_cut at (end - at) s (omega (arith, R.order, R.within)), length-append (encoded h) (flat t), length_encoded h))

module _ (s : List ℕ) (at end : ℕ) (hs : List Record) (R : Rest s at end hs) (b : at < end) where
  -- The length that is read there is the record's: it lies before the end,
  pub turn_room : (least_packet ≤ len_of (drop at s)) × (header_size + len_of (drop at s) ≤ end - at)
  turn_room = let H = (turn s at end hs R b).here in (omega (arith, H.len, H.least), omega (arith, H.len, H.most))

  -- and the others are left behind it.
  pub turn_behind : (len : ℕ) → len ≡ len_of (drop at s) → Rest s (at + (header_size + len)) end (turn s at end hs R b).others
  turn_behind len e =
      let T = turn s at end hs R b in
      subst (λ (n : ℕ). Rest s (at + (header_size + n)) end T.others) (sym (e ∙ T.here.len)) T.behind
