-- How discarding comes out, part by part. Assumes nothing.
use Rattle.std.specs.Prelude.{◌≡◌, Bool, true, false, List, leb, length, take, drop, get_or, Option, Some, None}
use Rattle.std.proofs.Math.Path.{refl, sym, ap}
use Rattle.std.proofs.Common.{◌∙◌, subst, add-zero, mod-lt, take-append-drop, take-add, le-leb}
use Prim.Native.Nat.{ℕ, zero, suc, ◌+◌, ◌-◌, ◌≤◌, ◌<◌, ◌%◌}
use native.Mathlib.Omega.{arith}
use Rattle.std.proofs.Math.Seq.{drop-drop}
use Rattle.std.proofs.lemmas.Bool.{lt-leb}
use Rattle.octets.specs.Logic.{choose, both}
use Rattle.requests.specs.Room.{put_mode}
use Rattle.requests.specs.declared.Mode.{Mode}
use Rattle.held.specs.General.{choose_yes, choose_no}
use Rattle.held.specs.Head as Head
use Rattle.held.specs.Head.{header_size}
use Rattle.held.specs.Reading as Store
use Rattle.held.specs.Reading.{fds_in}
use Rattle.held.specs.Rows.{fds_in_append}
use Rattle.held.specs.Find.{found_reply}
use Rattle.held.specs.Moves.{Left, left, Leaves, Within, removed, demoted}
use Rattle.held.specs.Lies.{FirstReply, FindsReply}
use Rattle.held.specs.Theorems as Held
use Rattle.held.specs.declared.Window.{Window}
use Rattle.held.specs.declared.Spot.{Spot}
use Rattle.held.specs.Tally.{own}
use Rattle.descriptors.specs.Room as Slots
use Rattle.packet.specs.Packet.{PacketClass, class_of, is_error}
use Rattle.model.specs.Model.{mode_of}
use Rattle.model.specs.declared.Connection.{Connection}
use Rattle.model.specs.declared.DiscardMode.{DiscardMode}
use Rattle.discarding.specs.Exact.{mode_set, turn_of, cleared_at, cleared_from, cleared, fds_found, Sweepable, SweepsOne, Sweeps}
use Rattle.discarding.specs.Rows.{one_step, own_none, own_found}

-- ---- the mode

module _ (c : Connection) (q : List ℕ) (n : ℕ) (m : DiscardMode) where
  pub mode_below : n < c.first → q ≡ mode_set c q n m
  unfolding mode_set choose both
  mode_below h = ap (λ (t : Bool). choose (both t (leb n c.written)) (put_mode q n (mode_of m)) q) (sym (lt-leb c.first n h))

  pub mode_past : c.first ≤ n → c.written < n → q ≡ mode_set c q n m
  unfolding mode_set choose both
  mode_past h k = λ j. choose (both (sym (le-leb c.first n h) j) (sym (lt-leb n c.written k) j)) (put_mode q n (mode_of m)) q

  pub mode_set_lem : (x : Mode) (q' : List ℕ) → c.first ≤ n → n ≤ c.written → x ≡ mode_of m → q' ≡ put_mode q n x → q' ≡ mode_set c q n m
  unfolding mode_set choose both
  mode_set_lem x q' h k e f = f ∙ ap (put_mode q n) e ∙ (λ j. choose (both (sym (le-leb c.first n h) j) (sym (le-leb n c.written k) j)) (put_mode q n (mode_of m)) q)

-- which packet's descriptors are closed first
pub turn_round : (m : DiscardMode) (r k : ℕ) → m ≡ DiscardMode.DiscardReplyAndError → 0 < r → (k % r ≡ turn_of m r k) × (k % r ≤ r)
turn_round m r k e h = (ap (λ (x : DiscardMode). turn_of x r k) (sym e), omega (arith, mod-lt k h))

-- ---- one packet goes

module _ (w : Window) (s : List ℕ) (p : Spot) (m : DiscardMode) where
  pub clear_error : m ≡ DiscardMode.DiscardReply → (x : PacketClass) (s' : List ℕ) → x ≡ class_of (get_or s (p.at + header_size) 0) → is_error x ≡ true → s' ≡ demoted w s p → Leaves (cleared_at m (left w s) p) w s'
  clear_error g x s' e f d =
      let z : cleared_at m (left w s) p ≡ left w (demoted w s p) = ap (λ (k : DiscardMode). cleared_at k (left w s) p) g ∙ choose_yes _ _ _ (ap is_error (sym e) ∙ f) in
      record { window = ap (λ (l : Left). l.window) (sym z); store = d ∙ ap (λ (l : Left). l.store) (sym z) }

  pub clear_reply : m ≡ DiscardMode.DiscardReply → (x : PacketClass) (w' : Window) (s' : List ℕ) → x ≡ class_of (get_or s (p.at + header_size) 0) → is_error x ≡ false → Leaves (removed w s p) w' s'
      → Leaves (cleared_at m (left w s) p) w' s'
  clear_reply g x w' s' e f L =
      let z : cleared_at m (left w s) p ≡ removed w s p = ap (λ (k : DiscardMode). cleared_at k (left w s) p) g ∙ choose_no _ _ _ (ap is_error (sym e) ∙ f) in
      subst (λ (l : Left). Leaves l w' s') (sym z) L

  pub clear_any : m ≡ DiscardMode.DiscardReplyAndError → (w' : Window) (s' : List ℕ) → Leaves (removed w s p) w' s' → Leaves (cleared_at m (left w s) p) w' s'
  clear_any g w' s' L = subst (λ (k : DiscardMode). Leaves (cleared_at k (left w s) p) w' s') (sym g) L

-- ---- one turn of a sweep

module _ (n : ℕ) (w : Window) (s : List ℕ) (W : Sweepable n w s) (p : Spot) (e : Some p ≡ found_reply n w s) where
  found_first : FirstReply n w s p
  found_first = subst (FindsReply n w s) (sym e) (Held.find_reply_law n W.last w s W.sound)

  pub clear_place : Within w s p × (p.at + header_size < length s)
  clear_place =
      let F = found_first in
      (Held.place_law W.last w s W.sound Head.reply p F.before F.it F.after F.lies, (Held.first_law W.last w s W.sound Head.reply p F.before F.it F.after F.lies).0)

  pub one_found : (m : DiscardMode) (w' : Window) (s' : List ℕ) → Leaves (cleared_at m (left w s) p) w' s' → SweepsOne n m w s w' p.fds s'
  one_found m w' s' L = record { leaves = (λ k. left (L.window k) (L.store k)) ∙ ap (cleared_from m (left w s)) e; counts = ap fds_found e }

pub one_none : (n : ℕ) (m : DiscardMode) (w : Window) (s : List ℕ) → None ≡ found_reply n w s → SweepsOne n m w s w 0 s
one_none n m w s e = record { leaves = ap (cleared_from m (left w s)) e; counts = ap fds_found e }

-- what a turn does to the packets of the number
record Turn (last n : ℕ) (l l' : Left) (fds : ℕ) : Type 0 where
  sound : Store.Sound last l'.window l'.store
  next_own : own n (Store.replies l'.window l'.store) ≡ drop 1 (own n (Store.replies l.window l.store))
  first_fds : fds ≡ fds_in (take 1 (own n (Store.replies l.window l.store)))
  long : length l'.store ≡ length l.store

turns : (last n : ℕ) (m : DiscardMode) (l : Left) → Store.Sound last l.window l.store → (x : Option Spot) → FindsReply n l.window l.store x → Turn last n l (cleared_from m l x) (fds_found x)
unfolding fds_in
turns last n m l S None F =
    let z = own_none n (Store.replies l.window l.store) F in
    record { sound = S; next_own = z ∙ sym (ap (drop 1) z); first_fds = sym (ap (λ a. fds_in (take 1 a)) z); long = refl }
turns last n m l S (Some p) F =
    let O = one_step last n l S p F m in
    let z = ap (own n) F.split ∙ own_found n F.it F.after F.is F.before F.none in
    record {
      sound = O.sound;
      next_own = ap (own n) O.replies ∙ sym (ap (drop 1) z);
      first_fds = F.fds ∙ sym (add-zero _) ∙ sym (ap (λ a. fds_in (take 1 a)) z);
      long = O.long;
    }

-- ---- a sweep

-- i turns are done
pub record Sweeping (n : ℕ) (m : DiscardMode) (count : ℕ) (w : Window) (s : List ℕ) (w' : Window) (s' : List ℕ) (fds i : ℕ) : Type 0 where
  pub last : ℕ
  pub sound : Store.Sound last w' s'
  pub most : i ≤ count
  pub same : cleared count m n (left w s) ≡ cleared (count - i) m n (left w' s')
  pub rest : own n (Store.replies w' s') ≡ drop i (own n (Store.replies w s))
  pub counts : fds ≡ fds_in (take i (own n (Store.replies w s)))
  pub few : fds_in (own n (Store.replies w s)) ≤ Slots.most_descriptors
  pub long : length s' ≡ length s

module _ (n : ℕ) (m : DiscardMode) (count : ℕ) (w : Window) (s : List ℕ) where
  abbrev o : List Head.Record
  o = own n (Store.replies w s)

  pub sweeping_start : Sweepable n w s → Sweeping n m count w s w s 0 0
  unfolding fds_in
  sweeping_start W =
      let z : count ≡ count - 0 = omega arith in
      record { last = W.last; sound = W.sound; most = omega arith; same = ap (λ (k : ℕ). cleared k m n (left w s)) z; rest = refl; counts = refl; few = W.few; long = refl }

  module _ (w' : Window) (s' : List ℕ) (fds i : ℕ) (G : Sweeping n m count w s w' s' fds i) where
    part : (j : ℕ) → fds_in (take j o) + fds_in (drop j o) ≡ fds_in o
    part j = sym (fds_in_append (take j o) (drop j o)) ∙ ap fds_in (take-append-drop j o)

    pub sweeping_ready : Sweepable n w' s'
    sweeping_ready = record { last = G.last; sound = G.sound; few = omega (arith, G.few, part i, ap fds_in G.rest) }

    pub sweeping_ends : count ≤ i → Sweeps n m count w s w' fds s'
    unfolding cleared
    sweeping_ends h =
        let z : count - i ≡ 0 = omega arith in
        let y : i ≡ count = omega (arith, G.most) in
        record { leaves = sym (G.same ∙ ap (λ (k : ℕ). cleared k m n (left w' s')) z); counts = G.counts ∙ ap (λ (k : ℕ). fds_in (take k o)) y }

    module _ (w'' : Window) (k : ℕ) (s'' : List ℕ) (P : SweepsOne n m w' s' w'' k s'') where
      T : Turn G.last n (left w' s') (left w'' s'') k
      T =
          subst (λ (l : Left). Turn G.last n (left w' s') l k) (sym P.leaves)
          (subst (Turn G.last n (left w' s') (cleared_from m (left w' s') (found_reply n w' s'))) (sym P.counts)
          (turns G.last n m (left w' s') G.sound (found_reply n w' s') (Held.find_reply_law n G.last w' s' G.sound)))

      sum : fds + k ≡ fds_in (take (i + 1) o)
      sum =
          let a : k ≡ fds_in (take 1 (drop i o)) = T.first_fds ∙ ap (λ x. fds_in (take 1 x)) G.rest in
          (λ j. G.counts j + a j) ∙ sym (fds_in_append (take i o) (take 1 (drop i o))) ∙ ap fds_in (sym (take-add i 1 o))

      pub sweeping_sum : fds + k ≤ Slots.most_descriptors
      sweeping_sum = omega (arith, sum, part (i + 1), G.few)

      pub sweeping_next : i < count → Sweeping n m count w s w'' s'' (fds + k) (i + 1)
      unfolding cleared
      sweeping_next h =
          let z : count - i ≡ suc (count - (i + 1)) = omega arith in
          record {
            last = G.last;
            sound = T.sound;
            most = omega arith;
            same = G.same ∙ ap (λ (j : ℕ). cleared j m n (left w' s')) z ∙ ap (cleared (count - (i + 1)) m n) (sym P.leaves);
            rest = T.next_own ∙ ap (drop 1) G.rest ∙ drop-drop 1 i o;
            counts = sum;
            few = G.few;
            long = T.long ∙ G.long;
          }

-- what i turns leave
pub record Keeps (last n : ℕ) (i : ℕ) (l l' : Left) : Type 0 where
  pub sound : Store.Sound last l'.window l'.store
  pub rest : own n (Store.replies l'.window l'.store) ≡ drop i (own n (Store.replies l.window l.store))
  pub long : length l'.store ≡ length l.store

pub cleared_keeps : (last n : ℕ) (m : DiscardMode) (i : ℕ) (l : Left) → Store.Sound last l.window l.store → Keeps last n i l (cleared i m n l)
unfolding cleared
cleared_keeps last n m zero l S = record { sound = S; rest = refl; long = refl }
cleared_keeps last n m (suc i) l S =
    let x = found_reply n l.window l.store in
    let T = turns last n m l S x (Held.find_reply_law n last l.window l.store S) in
    let K = cleared_keeps last n m i (cleared_from m l x) T.sound in
    let z : 1 + i ≡ suc i = omega arith in
    let o = own n (Store.replies l.window l.store) in
    record { sound = K.sound; rest = K.rest ∙ ap (drop i) T.next_own ∙ drop-drop i 1 o ∙ ap (λ (k : ℕ). drop k o) z; long = K.long ∙ T.long }

-- i turns and then j more
pub cleared_add : (n : ℕ) (m : DiscardMode) (i j : ℕ) (l : Left) → cleared j m n (cleared i m n l) ≡ cleared (i + j) m n l
unfolding cleared
cleared_add n m zero j l = let z : j ≡ 0 + j = omega arith in ap (λ (k : ℕ). cleared k m n l) z
cleared_add n m (suc i) j l =
    let z : suc (i + j) ≡ suc i + j = omega arith in
    cleared_add n m i j (cleared_from m l (found_reply n l.window l.store)) ∙ ap (λ (k : ℕ). cleared k m n l) z
