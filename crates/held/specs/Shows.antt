-- The bytes that a window shows after each move. Assumes nothing.
use Rattle.std.specs.Prelude.{◌≡◌, ltb}
use Rattle.std.proofs.Common.{sym, ◌∙◌, arith}
use Rattle.std.proofs.Math.Path.{ap}
use mathlib.Core.List.{List, [], ◌∷◌, ◌++◌}
use Prim.Native.Nat.{ℕ, ◌+◌, ◌-◌, ◌≤◌}
use Rattle.std.proofs.Math.ListN.{length, length-append}
use Rattle.octets.specs.Put.{put, cut, cut_add, length_cut, length_put, cut_put, cut_put_after}
use Rattle.held.specs.General.{choose_either, cut_left, cut_right, cut_put_last}
use Rattle.held.specs.Head.{Record, cost, encoded, as_event, length_encoded, encoded_event, header_size, count_at, event}
use Rattle.held.specs.Reading.{inside, used}
use Rattle.held.specs.Moves.{Left, left, behind, slid, stays, stays_room, appended, size, next, Within, removed, demoted}
use Rattle.held.specs.declared.Window.{Window}
use Rattle.held.specs.declared.Spot.{Spot}

-- the window lies in a store of n bytes, and its bytes are x
pub record Shows (n : ℕ) (l : Left) (x : List ℕ) : Type 0 where
  pub long : length l.store ≡ n
  pub order : l.window.start ≤ l.window.end
  pub within : l.window.end ≤ n
  pub bytes : inside l.window l.store ≡ x

pub shows_used : (n : ℕ) (l : Left) (x : List ℕ) → Shows n l x → used l.window ≡ length x
shows_used n l x S = sym (length_cut l.window.start (used l.window) l.store (omega (arith, S.long, S.order, S.within))) ∙ ap length S.bytes

-- ---- append

shows_behind : (n : ℕ) (l : Left) (x : List ℕ) (h : Record) → Shows n l x → l.window.end + cost h ≤ n → Shows n (behind l h) (x ++ encoded h)
unfolding behind
shows_behind n l x h S r =
    let s : List ℕ = l.store in
    let a : ℕ = l.window.start in
    let e : ℕ = l.window.end in
    let v : length (encoded h) ≡ cost h = length_encoded h in
    record {
      long = length_put s e (encoded h) (omega (arith, S.long)) ∙ S.long;
      order = omega (arith, S.order);
      within = r;
      bytes = cut_put_last s a e (e + cost h) (encoded h) S.order (omega arith) (omega (arith, S.long)) (omega arith) ∙ ap (λ (y : List ℕ). y ++ encoded h) S.bytes;
    }

shows_slid : (n : ℕ) (l : Left) (x : List ℕ) → Shows n l x → Shows n (slid l) x
unfolding slid
shows_slid n l x S =
    let s : List ℕ = l.store in
    let v : List ℕ = inside l.window s in
    let u : ℕ = used l.window in
    let c : length v ≡ u = length_cut l.window.start u s (omega (arith, S.long, S.order, S.within)) in
    let z : u - 0 ≡ u = omega arith in
    record {
      long = length_put s 0 v (omega (arith, S.long, S.within)) ∙ S.long;
      order = omega arith;
      within = omega (arith, S.within);
      bytes = ap (λ (m : ℕ). cut 0 m (put s 0 v)) z ∙ cut_put s 0 v u c (omega (arith, S.long, S.within)) ∙ S.bytes;
    }

-- A record that is appended stands behind what was there.
pub shows_appended : (n : ℕ) (w : Window) (s x : List ℕ) (h : Record) → Shows n (left w s) x → used w + cost h ≤ n → Shows n (appended w s h) (x ++ encoded h)
unfolding appended slid
shows_appended n w s x h S r =
    choose_either (λ (l : Left). Shows n l (x ++ encoded h)) (stays w s (cost h)) (behind (left w s) h) (behind (slid (left w s)) h)
    (λ t. shows_behind n (left w s) x h S (omega (arith, S.long, stays_room w s (cost h) t)))
    (λ t. shows_behind n (slid (left w s)) x h (shows_slid n (left w s) x S) r)

-- ---- the record at a place

-- between f and b a record h stands at the place p
pub record Between (n : ℕ) (w : Window) (s : List ℕ) (p : Spot) (f : List ℕ) (h : Record) (b : List ℕ) : Type 0 where
  pub shows : Shows n (left w s) (f ++ (encoded h ++ b))
  pub at : p.at ≡ w.start + length f
  pub len : p.len ≡ length h.packet

module _ (n : ℕ) (w : Window) (s : List ℕ) (p : Spot) (f : List ℕ) (h : Record) (b : List ℕ) (B : Between n w s p f h b) where
  S : Shows n (left w s) (f ++ (encoded h ++ b))
  S = B.shows

  lengths : (size p ≡ length (encoded h)) × (used w ≡ length f + (size p + length b))
  lengths =
      let a : size p ≡ length (encoded h) = ap (λ (m : ℕ). header_size + m) B.len ∙ sym (length_encoded h) in
      (a, shows_used n (left w s) _ S ∙ length-append f (encoded h ++ b) ∙ ap (λ (m : ℕ). length f + m) (length-append (encoded h) b ∙ ap (λ (m : ℕ). m + length b) (sym a)))

  pub place_within : Within w s p
  place_within = record {
    from = omega (arith, B.at);
    fits = omega (arith, B.at, lengths, S.order);
    within = omega (arith, S.within, S.long);
  }

  -- the three parts, each where it stands
  before_is : cut w.start (p.at - w.start) s ≡ f
  before_is =
      let e : p.at - w.start ≡ length f = omega (arith, B.at) in
      ap (λ (m : ℕ). cut w.start m s) e ∙ cut_left s w.start (used w) f (encoded h ++ b) S.bytes (omega (arith, lengths))

  pub rest_is : cut p.at (w.end - p.at) s ≡ encoded h ++ b
  rest_is =
      let e : w.end - p.at ≡ used w - length f = omega (arith, B.at) in
      (λ k. cut (B.at k) (e k) s) ∙ cut_right s w.start (used w) f (encoded h ++ b) S.bytes (omega (arith, lengths))

  place_is : cut p.at (size p) s ≡ encoded h
  place_is =
      ap (λ (m : ℕ). cut p.at m s) lengths.0
      ∙ cut_left s p.at (w.end - p.at) (encoded h) b rest_is (omega (arith, lengths, place_within.fits))

  after_is : cut (next p) (w.end - next p) s ≡ b
  after_is =
      let e : w.end - next p ≡ w.end - p.at - size p = omega arith in
      ap (λ (m : ℕ). cut (next p) m s) e
      ∙ (λ k. cut (p.at + lengths.0 k) (w.end - p.at - lengths.0 k) s)
      ∙ cut_right s p.at (w.end - p.at) (encoded h) b rest_is (omega (arith, lengths, place_within.fits))

  -- ---- remove

  -- Whichever side slides, the record is gone and all else stands in its order.
  pub shows_removed : Shows n (removed w s p) (f ++ b)
  unfolding removed
  shows_removed =
      let I : Within w s p = place_within in
      let u : List ℕ = cut (next p) (w.end - next p) s in
      let v : List ℕ = cut w.start (p.at - w.start) s in
      let lu : length u ≡ w.end - next p = length_cut (next p) (w.end - next p) s (omega (arith, I.fits, I.within)) in
      let lv : length v ≡ p.at - w.start = length_cut w.start (p.at - w.start) s (omega (arith, I.from, I.fits, I.within)) in
      choose_either (λ (l : Left). Shows n l (f ++ b)) (ltb (w.end - next p) (p.at - w.start)) _ _
      (λ t.
      record {
        long = length_put s p.at u (omega (arith, I.fits, I.within)) ∙ S.long;
        order = omega (arith, I.from, I.fits);
        within = omega (arith, S.within);
        bytes = cut_put_last s w.start p.at (w.end - size p) u I.from (omega (arith, I.fits)) (omega (arith, I.within)) (omega (arith, lu))
            ∙ (λ k. before_is k ++ after_is k);
      })
      (λ t.
      let a : ℕ = w.start + size p in
      let e : w.end - a ≡ p.at - w.start + (w.end - next p) = omega (arith, I.from, I.fits) in
      let m : a + (p.at - w.start) ≡ next p = omega (arith, I.from) in
      record {
        long = length_put s a v (omega (arith, I.from, I.fits, I.within)) ∙ S.long;
        order = omega (arith, I.from, I.fits);
        within = S.within;
        bytes = ap (λ (i : ℕ). cut a i (put s a v)) e
            ∙ cut_add a (p.at - w.start) (w.end - next p) (put s a v)
            ∙ (λ k. cut_put s a v (p.at - w.start) lv (omega (arith, I.from, I.fits, I.within)) k ++ cut (m k) (w.end - next p) (put s a v))
            ∙ (λ k. before_is k ++ (cut_put_after s a v (next p) (w.end - next p) (omega (arith, I.from)) (omega (arith, I.from, I.fits, I.within)) ∙ after_is) k);
      })

  -- ---- demote

  -- The record stands last, as an event, and all else in its order.
  pub shows_demoted : Shows n (left w (demoted w s p)) (f ++ (b ++ encoded (as_event h)))
  unfolding demoted
  shows_demoted =
      let I : Within w s p = place_within in
      let z : List ℕ = put (cut p.at (size p) s) count_at (0 ∷ event ∷ []) in
      let v : List ℕ = cut (next p) (w.end - next p) s ++ z in
      let is : v ≡ b ++ encoded (as_event h) = λ k. after_is k ++ (ap (λ (x : List ℕ). put x count_at (0 ∷ event ∷ [])) place_is ∙ encoded_event h) k in
      let lv : length v ≡ w.end - p.at =
      ap length is ∙ length-append b (encoded (as_event h)) ∙ omega (arith, length_encoded (as_event h), length_encoded h, lengths, B.at, S.order) in
      record {
        long = length_put s p.at v (omega (arith, I.fits, I.within)) ∙ S.long;
        order = S.order;
        within = S.within;
        bytes = cut_put_last s w.start p.at w.end v I.from (omega (arith, I.fits)) I.within lv ∙ (λ k. before_is k ++ is k);
      }
