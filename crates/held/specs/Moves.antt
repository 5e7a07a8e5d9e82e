-- What each move leaves: the window that comes back, and every byte of the store. Assumes nothing.
use Rattle.std.specs.Prelude.{◌≡◌, refl, Bool, true, false, leb, ltb}
use Rattle.std.proofs.Math.Path.{sym, ap}
use Rattle.std.proofs.Common.{◌∙◌, leb-true, le-leb, le-ltb, lt-ltb}
use mathlib.Core.List.{List, [], ◌∷◌, ◌++◌}
use Prim.Native.Nat.{ℕ, ◌+◌, ◌-◌, ◌≤◌, ◌<◌}
use native.Mathlib.Omega.{arith}
use Rattle.std.proofs.Math.ListN.{length, length-append}
use Rattle.std.proofs.lemmas.Bool.{lt-leb}
use Rattle.octets.specs.Logic.{choose, both, both_right}
use Rattle.octets.specs.Put.{put, cut, put_cover, length_cut, length_put, cut_put_after, cut_put_inside}
use Rattle.held.specs.General.{choose_yes, choose_no}
use Rattle.packet.specs.Packet.{most_packet}
use Rattle.held.specs.Head.{Record, cost, encoded, header_size, count_at, event}
use Rattle.held.specs.Reading.{inside, used}
use Rattle.held.specs.declared.Window.{Window}
use Rattle.held.specs.declared.Spot.{Spot}

abbrev pub window : ℕ → ℕ → Window
window start end = record { start = start; end = end }

-- what a move leaves
pub record Left : Type 0 where
  pub window : Window
  pub store : List ℕ

abbrev pub left : Window → List ℕ → Left
left w s = record { window = w; store = s }

-- a call answers that window, and the store is that store
pub record Leaves (l : Left) (w : Window) (s : List ℕ) : Type 0 where
  pub window : w ≡ l.window
  pub store : s ≡ l.store

-- ---- append

-- a record written behind the window
unfoldable pub behind : Left → Record → Left
behind l h = left (window l.window.start (l.window.end + cost h)) (put l.store l.window.end (encoded h))

-- the window slid to the start of the store
unfoldable pub slid : Left → Left
slid l = left (window 0 (used l.window)) (put l.store 0 (inside l.window l.store))

-- a window stays where it is for n bytes more: it holds something, and there is room behind it
unfoldable pub stays : Window → List ℕ → ℕ → Bool
stays w s n = both (ltb w.start w.end) (leb (w.end + n) (length s))

-- A record is written at the end; a window that is empty or has no room behind it first slides to 0.
unfoldable pub appended : Window → List ℕ → Record → Left
appended w s h = choose (stays w s (cost h)) (behind (left w s) h) (behind (slid (left w s)) h)

-- there is room for a packet of n bytes
pub record Room (w : Window) (s : List ℕ) (n : ℕ) : Type 0 where
  pub order : w.start ≤ w.end
  pub within : w.end ≤ length s
  pub most : n ≤ most_packet
  pub room : used w + (header_size + n) ≤ length s

-- ---- remove

-- the bytes of the record at a place, and where the next one starts
abbrev pub size : Spot → ℕ
size p = header_size + p.len

abbrev pub next : Spot → ℕ
next p = p.at + size p

-- a place lies in the window
pub record Within (w : Window) (s : List ℕ) (p : Spot) : Type 0 where
  pub from : w.start ≤ p.at
  pub fits : next p ≤ w.end
  pub within : w.end ≤ length s

-- The shorter side slides over the record: what stands behind it to the left, or what stands before it to the right.
unfoldable pub removed : Window → List ℕ → Spot → Left
removed w s p =
    choose (ltb (w.end - next p) (p.at - w.start)) (left (window w.start (w.end - size p)) (put s p.at (cut (next p) (w.end - next p) s)))
    (left (window (w.start + size p) w.end) (put s (w.start + size p) (cut w.start (p.at - w.start) s)))

-- The packet at a place goes to the start of the output, and the rest of that stays.
unfoldable pub handed : List ℕ → Spot → List ℕ → List ℕ
handed s p out = put out 0 (cut (p.at + header_size) p.len s)

-- what taking leaves: as removing, and the output
pub record Takes (w : Window) (s : List ℕ) (p : Spot) (out : List ℕ) (w' : Window) (s' out' : List ℕ) : Type 0 where
  pub left : Leaves (removed w s p) w' s'
  pub output : out' ≡ handed s p out

-- ---- demote

-- What stands behind the record moves up, and the record stands at the end as an event without descriptors; the window stays.
unfoldable pub demoted : Window → List ℕ → Spot → List ℕ
demoted w s p = put s p.at (cut (next p) (w.end - next p) s ++ put (cut p.at (size p) s) count_at (0 ∷ event ∷ []))

-- ---- laws

pub stays_room : (w : Window) (s : List ℕ) (n : ℕ) → stays w s n ≡ true → w.end + n ≤ length s
unfolding stays
stays_room w s n h = leb-true (w.end + n) (length s) (both_right _ _ h)

-- when it does not stay, and when it does
pub stays_empty : (w : Window) (s : List ℕ) (n : ℕ) → w.end ≤ w.start → false ≡ stays w s n
unfolding stays both choose
stays_empty w s n h = simp (le-ltb w.start w.end h)

pub stays_short : (w : Window) (s : List ℕ) (n : ℕ) → w.start < w.end → length s < w.end + n → false ≡ stays w s n
unfolding stays both choose
stays_short w s n h k = simp (lt-ltb w.start w.end h, lt-leb (w.end + n) (length s) k)

pub stays_behind : (w : Window) (s : List ℕ) (n : ℕ) → w.start < w.end → w.end + n ≤ length s → true ≡ stays w s n
unfolding stays both choose
stays_behind w s n h k = simp (lt-ltb w.start w.end h, le-leb (w.end + n) (length s) k)

module _ (w : Window) (s : List ℕ) (h : Record) where
  -- a record behind the window,
  pub behind_is : (s₁ : List ℕ) → s₁ ≡ put s w.end (encoded h) → Leaves (behind (left w s) h) (window w.start (w.end + cost h)) s₁
  unfolding behind
  behind_is s₁ e = record { window = refl; store = e }

  -- and one that is appended there, or once the window slid
  pub append_behind : (w₁ : Window) (s₁ : List ℕ) → stays w s (cost h) ≡ true → Leaves (behind (left w s) h) w₁ s₁ → Leaves (appended w s h) w₁ s₁
  unfolding appended
  append_behind w₁ s₁ r l =
      let t = choose_yes (stays w s (cost h)) (behind (left w s) h) (behind (slid (left w s)) h) r in
      record { window = l.window ∙ ap (λ (x : Left). x.window) (sym t); store = l.store ∙ ap (λ (x : Left). x.store) (sym t) }

  pub append_slid : (s₁ : List ℕ) (w₂ : Window) (s₂ : List ℕ) → stays w s (cost h) ≡ false → s₁ ≡ put s 0 (inside w s) → Leaves (behind (left (window 0 (used w)) s₁) h) w₂ s₂ → Leaves (appended w s h) w₂ s₂
  unfolding appended slid
  append_slid s₁ w₂ s₂ r e l =
      let t = ap (λ (x : List ℕ). behind (left (window 0 (used w)) x) h) e ∙ sym (choose_no (stays w s (cost h)) (behind (left w s) h) (behind (slid (left w s)) h) r) in
      record { window = l.window ∙ ap (λ (x : Left). x.window) t; store = l.store ∙ ap (λ (x : Left). x.store) t }

module _ (w : Window) (s : List ℕ) (p : Spot) where
  abbrev one : Left
  one = left (window w.start (w.end - size p)) (put s p.at (cut (next p) (w.end - next p) s))

  abbrev other : Left
  other = left (window (w.start + size p) w.end) (put s (w.start + size p) (cut w.start (p.at - w.start) s))

  -- either side
  pub remove_left : (s₁ : List ℕ) → w.end - next p < p.at - w.start → s₁ ≡ one.store → Leaves (removed w s p) one.window s₁
  unfolding removed
  remove_left s₁ h e =
      let t = choose_yes (ltb (w.end - next p) (p.at - w.start)) one other (lt-ltb (w.end - next p) (p.at - w.start) h) in
      record { window = ap (λ (l : Left). l.window) (sym t); store = e ∙ ap (λ (l : Left). l.store) (sym t) }

  pub remove_right : (s₁ : List ℕ) → p.at - w.start ≤ w.end - next p → s₁ ≡ other.store → Leaves (removed w s p) other.window s₁
  unfolding removed
  remove_right s₁ h e =
      let t = choose_no (ltb (w.end - next p) (p.at - w.start)) one other (le-ltb (w.end - next p) (p.at - w.start) h) in
      record { window = ap (λ (l : Left). l.window) (sym t); store = e ∙ ap (λ (l : Left). l.store) (sym t) }

  -- made an event and rotated to the end
  pub demote_rotated : (s₁ s₂ : List ℕ) → Within w s p → s₁ ≡ put s (p.at + count_at) (0 ∷ event ∷ []) → s₂ ≡ put s₁ p.at (cut (next p) (w.end - next p) s₁ ++ cut p.at (next p - p.at) s₁)
      → s₂ ≡ demoted w s p
  unfolding demoted
  demote_rotated s₁ s₂ W a b =
      let v : List ℕ = 0 ∷ event ∷ [] in
      let r : ℕ = w.end - next p in
      let e : next p - p.at ≡ size p = omega arith in
      let x : cut (next p) r s₁ ≡ cut (next p) r s = ap (cut (next p) r) a ∙ cut_put_after s (p.at + count_at) v (next p) r (omega arith) (omega (arith, W.fits, W.within)) in
      let y : cut p.at (next p - p.at) s₁ ≡ put (cut p.at (size p) s) count_at v =
      (λ k. cut p.at (e k) (a k)) ∙ cut_put_inside s p.at (size p) count_at v (omega arith) (omega (arith, W.fits, W.within)) in
      let c : length (cut p.at (size p) s) ≡ size p = length_cut p.at (size p) s (omega (arith, W.fits, W.within)) in
      let l = length-append (cut (next p) r s) (put (cut p.at (size p) s) count_at v) in
      let m = length_put (cut p.at (size p) s) count_at v (omega arith) in
      b ∙ (λ k. put (a k) p.at (x k ++ y k))
      ∙ put_cover s p.at (p.at + count_at) v (cut (next p) r s ++ put (cut p.at (size p) s) count_at v) (omega arith) (omega arith) (omega (arith, W.fits, W.within))
