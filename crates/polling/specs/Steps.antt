-- How each poll comes out: what its code needs at a place that was found, and that its outcome is the exact one. Assumes nothing.
use Rattle.std.specs.Prelude.{◌≡◌, Bool, ltb, get_or, Some, None, Ok, Err}
use Rattle.std.proofs.Math.Path.{refl, sym, ap}
use Rattle.std.proofs.Common.{◌∙◌, subst, arith, lt-ltb, le-ltb}
use Rattle.std.proofs.Math.Bool.{true, false}
use mathlib.Core.List.{List, [], ◌∷◌}
use Prim.Native.Nat.{ℕ, ◌+◌, ◌≤◌, ◌<◌}
use Rattle.std.proofs.Math.ListN.{length}
use Rattle.octets.specs.Logic.{choose, either}
use Rattle.octets.specs.Put.{put, put_none, get_d_cut, length_cut}
use Rattle.refusal.specs.Answer.{Answer, gives, refuses, given_refusal, past_refusal}
use Rattle.refusal.specs.declared.Refusal.TheVariants as Refusal
use Rattle.held.specs.General.{choose_yes, choose_no}
use Rattle.held.specs.Head.{header_size, reply, event}
use Rattle.held.specs.Reading as Store
use Rattle.held.specs.Rows.{fds_in_append}
use Rattle.held.specs.Find.{found_reply, found_event}
use Rattle.held.specs.Moves.{Left, Leaves, Within, Takes, demoted, handed}
use Rattle.held.specs.Lies.{FirstReply, FirstEvent, FindsReply, FindsEvent}
use Rattle.held.specs.Theorems.{find_reply_law, find_event_law, place_law, fits_law, first_law}
use Rattle.held.specs.declared.Window.{Window}
use Rattle.held.specs.declared.Spot.{Spot}
use Rattle.descriptors.specs.Room as Slots
use Rattle.descriptors.specs.Theorems.{length_holding}
use Rattle.descriptors.specs.declared.Counts.{Counts}
use Rattle.model.specs.Client.{held_packet}
use Rattle.model.specs.Model as Model
use Rattle.packet.specs.Packet.{packet_class, class_of, is_error}
use Rattle.packet.specs.Class.{says_class, class_is}
use Rattle.packet.specs.declared.Class.{Class}
use Rattle.model.specs.Reading.{Rooms, rooms, slots_of}
use Rattle.model.specs.Sound.{Ready}
use Rattle.model.specs.Promise.{Done, Exact, answer_of, rooms_of, output_of, exact_refused}
use Rattle.model.specs.Says.{handed_with, shown_taken, shown_poll, bytes_of_taken, descriptors_of_taken, bytes_of_poll}
use Rattle.model.specs.Says as Says
use Rattle.model.specs.declared.Connection.{Connection}
use Rattle.model.specs.declared.Handed.{Handed}
use Rattle.model.specs.declared.PollReply.TheVariants as PollReply
use Rattle.model.specs.Moved.{moved_state}
use Rattle.polling.specs.Exact.{stays, moved, packet_at, class_at, handed_at, event_at, reply_at, without, turned_event, handing_out, closing, event_from, event_exact, taken_from, taken_exact, checked_from, checked_exact, error_at, replied_from, replied_exact, EventStep, TakenStep, CheckedStep, RepliedStep}
use Rattle.refusal.specs.declared.Refusal.{Refusal}

-- ---- outcomes

-- A step whose outcome is known, and which shows and leaves what that gives, is exact.
exact_as : {A B : Type 0} (f : A → B) (e : Answer (Done A)) (r : Rooms) (d : Done A) (b : B) (c : Connection) (r' : Rooms) → gives d ≡ e → b ≡ f d.value → c ≡ d.state → r' ≡ d.left
    → Exact f e r (gives (b, c)) r'
unfolding answer_of rooms_of
exact_as f e r d b c r' h x y z = record { answers = (λ k. gives (x k, y k)) ∙ ap (answer_of f) h; leaves = z ∙ ap (λ k. rooms_of k r) h }

-- So with an output.
output_as : {A : Type 0} (f : A → List ℕ) (e : Answer (Done A)) (out out' : List ℕ) (d : Done A) → gives d ≡ e → out' ≡ put out 0 (f d.value) → out' ≡ output_of f e out
unfolding output_of
output_as f e out out' d h x = x ∙ ap (λ k. output_of f k out) h

output_none : {A : Type 0} (f : A → List ℕ) (e : Answer (Done A)) (out : List ℕ) (d : Done A) → gives d ≡ e → f d.value ≡ [] → out ≡ output_of f e out
output_none f e out d h x = output_as f e out out d h (sym (put_none out 0) ∙ ap (put out 0) (sym x))

output_refused : {A : Type 0} (f : A → List ℕ) (e : Answer (Done A)) (out : List ℕ) (n : ℕ) → refuses n ≡ e → out ≡ output_of f e out
unfolding output_of
output_refused f e out n h = ap (λ k. output_of f k out) h

-- what is handed out of a place is as much as its packet and its descriptors, and its packet's class
pub class_here : (s : List ℕ) (p : Spot) → 0 < p.len → class_at s p ≡ packet_class (packet_at s p)
class_here s p h =
    let z : p.at + header_size ≡ p.at + header_size + 0 = omega arith in
    ap (λ (n : ℕ). class_of (get_or s n 0)) z ∙ ap class_of (sym (get_d_cut s (p.at + header_size) p.len 0 h))

handed_is : (s : List ℕ) (p : Spot) (j : Class) (fds : List ℕ) (k : ℕ) → 0 < p.len → says_class j ≡ class_at s p → p.len ≡ length (packet_at s p) → k ≡ length fds
    → handed_at p j k ≡ handed_with (held_packet p.number (packet_at s p) fds) (length fds)
handed_is s p j fds k h e l n =
    let q = class_is j (packet_class (packet_at s p)) (e ∙ class_here s p h) in
    λ i. record { number = record { 0 = p.number }; length = l i; descriptors = n i; class = q i }

-- ---- the oldest event

-- where a call stands that has found it
pub record MetEvent : Type 0 where
  pub c : Connection
  pub s : List ℕ
  pub sound : Store.Sound c.read c.window s
  pub p : Spot
  pub found : Some p ≡ found_event c.window s

module _ (met : MetEvent) where
  open met use {c, s, sound as H, p, found as e}

  pub event_found : FirstEvent c.window s p
  event_found = subst (FindsEvent c.window s) (sym e) (find_event_law c.window s)

  pub event_within : Within c.window s p
  event_within = place_law c.read c.window s H event p [] event_found.it event_found.after event_found.lies

  pub event_byte : p.at + header_size < length s
  event_byte = (first_law c.read c.window s H event p [] event_found.it event_found.after event_found.lies).0

  event_some : 0 < p.len
  event_some = omega (arith, event_found.len, (fits_law c.read c.window s H event p [] event_found.it event_found.after event_found.lies).least)

  module _ (out : List ℕ) where
    pub event_short : length out < p.len → EventStep c s out (Err Refusal.OutShort) s out
    unfolding event_exact
    event_short h =
        let z : (q f : List ℕ) → refuses 8 ≡ event_exact c (rooms q s f) (length out) = λ q f. given_refusal _ _ _ (lt-ltb (length out) p.len h) ∙ ap (event_from c (rooms q s f) (length out)) e in
        record {
          exact = λ q f. exact_refused shown_taken _ (rooms q s f) 8 (z q f);
          output = λ q f. output_refused bytes_of_taken _ out 8 (z q f);
        }

    pub event_taken : p.len ≤ length out → (w : Window) (s' out' : List ℕ) (j : Class) (h : Handed) (c' : Connection) → says_class j ≡ class_at s p → Takes c.window s p out w s' out' → h ≡ handed_at p j 0 → c' ≡ moved_state c w c.counts
        → EventStep c s out (Ok (record { packet = Some h; connection = c' })) s' out'
    unfolding event_exact handed
    event_taken h w s' out' j x c' J T i g =
        let d : List ℕ → List ℕ → Done Model.Taken = λ q f. moved (Model.packet (event_at (rooms q s f) p)) c (rooms q s f) (without c (rooms q s f) p) (slots_of c (rooms q s f)) in
        let z : (q f : List ℕ) → gives (d q f) ≡ event_exact c (rooms q s f) (length out) = λ q f. past_refusal _ _ _ (le-ltb (length out) p.len h) ∙ ap (event_from c (rooms q s f) (length out)) e in
        let l : p.len ≡ length (packet_at s p) = sym (length_cut (p.at + header_size) p.len s (omega (arith, event_within.fits, event_within.within))) in
        record {
          exact = λ q f. exact_as shown_taken _ (rooms q s f) (d q f) (Says.packet x) c' (rooms q s' f) (z q f) (ap Says.packet (i ∙ handed_is s p j [] 0 event_some J l refl))
              (g ∙ ap (λ (v : Window). moved_state c v c.counts) T.left.window)
              (ap (λ (x : List ℕ). rooms q x f) T.left.store);
          output = λ q f. output_as bytes_of_taken _ out out' (d q f) (z q f) T.output;
        }

pub event_none : (c : Connection) (s out : List ℕ) → None ≡ found_event c.window s → EventStep c s out (Ok (record { packet = None; connection = c })) s out
unfolding event_exact
event_none c s out e =
    let z : (q f : List ℕ) → gives (stays Model.none c (rooms q s f)) ≡ event_exact c (rooms q s f) (length out) = λ q f. ap (event_from c (rooms q s f) (length out)) e in
    record {
      exact = λ q f. exact_as shown_taken _ (rooms q s f) _ Says.none c (rooms q s f) (z q f) refl refl refl;
      output = λ q f. output_none bytes_of_taken _ out _ (z q f) refl;
    }

-- ---- the oldest reply of a number

-- where a call stands that has found it
pub record MetReply : Type 0 where
  pub c : Connection
  pub n : ℕ
  pub s : List ℕ
  pub f : List ℕ
  pub ready : Ready c s f
  pub p : Spot
  pub found : Some p ≡ found_reply n c.window s

module _ (met : MetReply) where
  open met use {c, n, s, f, ready as R, p, found as e}

  pub reply_found : FirstReply n c.window s p
  reply_found = subst (FindsReply n c.window s) (sym e) (find_reply_law n c.read c.window s R.held)

  pub reply_within : Within c.window s p
  reply_within = place_law c.read c.window s R.held reply p reply_found.before reply_found.it reply_found.after reply_found.lies

  pub reply_byte : p.at + header_size < length s
  reply_byte = (first_law c.read c.window s R.held reply p reply_found.before reply_found.it reply_found.after reply_found.lies).0

  reply_some : 0 < p.len
  reply_some = omega (arith, reply_found.len, (fits_law c.read c.window s R.held reply p reply_found.before reply_found.it reply_found.after reply_found.lies).least)

  -- Its descriptors are among those held.
  pub reply_run : p.before + p.fds ≤ c.counts.held
  unfolding Store.fds_in
  reply_run =
      omega (arith, reply_found.count, reply_found.fds, ap Store.fds_in reply_found.split, fds_in_append reply_found.before (reply_found.it ∷ reply_found.after), R.descriptors)

  pub reply_slots : Slots.Sound (Slots.room f c.counts) × (p.before + p.fds ≤ c.counts.held)
  reply_slots = (R.slots, reply_run)

  -- as many bytes and descriptors as its place says
  pub packet_length : p.len ≡ length (packet_at s p)
  packet_length = sym (length_cut (p.at + header_size) p.len s (omega (arith, reply_within.fits, reply_within.within)))

  pub run_length : p.fds ≡ length (Slots.held_run p.before p.fds (Slots.room f c.counts))
  unfolding Slots.held_run
  run_length = sym (length_cut p.before p.fds _ (omega (arith, reply_run, length_holding (Slots.room f c.counts) R.slots)))

  -- what a removal and a move of slots hand back
  state_left : (w : Window) (d : Slots.Room) (l : Left) (n' : Counts) (f' s' : List ℕ) (c' : Connection) → Leaves l w s' → Slots.room f' n' ≡ d → c' ≡ moved_state c w n' → c' ≡ moved_state c l.window d.counts
  state_left w d l n' f' s' c' L D g = g ∙ (λ k. moved_state c (L.window k) (D k).counts)

  rooms_left : (q : List ℕ) (w : Window) (d : Slots.Room) (l : Left) (n' : Counts) (f' s' : List ℕ) → Leaves l w s' → Slots.room f' n' ≡ d → rooms q s' f' ≡ rooms q l.store d.slots
  rooms_left q w d l n' f' s' L D = λ k. rooms q (L.store k) (D k).slots

  -- ---- `poll_for_reply_or_error`

  module _ (out fds : List ℕ) where
    taken_refused : either (ltb (length out) p.len) (ltb (length fds) p.fds) ≡ true → TakenStep c n s f out fds (Err Refusal.OutShort) s f out fds
    unfolding taken_exact
    taken_refused h =
        let z : (q : List ℕ) → refuses 8 ≡ taken_exact c (rooms q s f) n (length out) (length fds) = λ q. given_refusal _ _ _ h ∙ ap (taken_from c (rooms q s f) (length out) (length fds)) e in
        record {
          exact = λ q. exact_refused shown_taken _ (rooms q s f) 8 (z q);
          output = λ q. output_refused bytes_of_taken _ out 8 (z q);
          places = λ q. output_refused descriptors_of_taken _ fds 8 (z q);
        }

    pub taken_short : length out < p.len → TakenStep c n s f out fds (Err Refusal.OutShort) s f out fds
    unfolding either
    taken_short h = taken_refused (ap (λ (t : Bool). either t (ltb (length fds) p.fds)) (lt-ltb (length out) p.len h))

    pub taken_narrow : p.len ≤ length out → length fds < p.fds → TakenStep c n s f out fds (Err Refusal.OutShort) s f out fds
    unfolding either
    taken_narrow h k = taken_refused (λ j. either (le-ltb (length out) p.len h j) (lt-ltb (length fds) p.fds k j))

    pub taken_given : p.len ≤ length out → p.fds ≤ length fds → (w : Window) (n' : Counts) (s' f' out' fds' : List ℕ) (c' : Connection)
        → Takes c.window s p out w s' out'
        → Slots.Gives (Slots.hand_out p.before p.fds (Slots.room f c.counts)) (Slots.held_run p.before p.fds (Slots.room f c.counts)) fds (Slots.room f' n') fds'
        → (j : Class) → says_class j ≡ class_at s p → (x : Handed) → x ≡ handed_at p j p.fds → c' ≡ moved_state c w n' → TakenStep c n s f out fds (Ok (record { packet = Some x; connection = c' })) s' f' out' fds'
    unfolding taken_exact handed either
    taken_given h k w n' s' f' out' fds' c' T G j J x i g =
        let d : List ℕ → Done Model.Taken = λ q. moved (Model.packet (reply_at c (rooms q s f) p)) c (rooms q s f) (without c (rooms q s f) p) (handing_out c (rooms q s f) p) in
        let b : either (ltb (length out) p.len) (ltb (length fds) p.fds) ≡ false = λ j. either (le-ltb (length out) p.len h j) (le-ltb (length fds) p.fds k j) in
        let z : (q : List ℕ) → gives (d q) ≡ taken_exact c (rooms q s f) n (length out) (length fds) = λ q. past_refusal _ _ _ b ∙ ap (taken_from c (rooms q s f) (length out) (length fds)) e in
        record {
          exact = λ q. exact_as shown_taken _ (rooms q s f) (d q) (Says.packet x) c' (rooms q s' f') (z q)
              (ap Says.packet (i ∙ handed_is s p j (Slots.held_run p.before p.fds (Slots.room f c.counts)) p.fds reply_some J packet_length run_length))
              (state_left w _ _ n' f' s' c' T.left G.left g)
              (rooms_left q w _ _ n' f' s' T.left G.left);
          output = λ q. output_as bytes_of_taken _ out out' (d q) (z q) T.output;
          places = λ q. output_as descriptors_of_taken _ fds fds' (d q) (z q) G.given;
        }

  -- ---- `poll_check_for_reply_or_error`

  module _ (out : List ℕ) where
    pub checked_short : length out < p.len → CheckedStep c n s f out (Err Refusal.OutShort) s f out
    unfolding checked_exact
    checked_short h =
        let z : (q : List ℕ) → refuses 8 ≡ checked_exact c (rooms q s f) n (length out) =
        λ q. given_refusal _ _ _ (lt-ltb (length out) p.len h) ∙ ap (checked_from c (rooms q s f) n (length out)) e in
        record { exact = λ q. exact_refused shown_poll _ (rooms q s f) 8 (z q); output = λ q. output_refused bytes_of_poll _ out 8 (z q) }

    pub checked_given : p.len ≤ length out → (w : Window) (n' : Counts) (s' f' out' : List ℕ) (c' : Connection)
        → Takes c.window s p out w s' out'
        → Slots.room f' n' ≡ Slots.close_held p.before p.fds (Slots.room f c.counts)
        → (j : Class) → says_class j ≡ class_at s p → (x : Handed) → x ≡ handed_at p j 0 → c' ≡ moved_state c w n' → CheckedStep c n s f out (Ok (PollReply.Reply x c')) s' f' out'
    unfolding checked_exact handed
    checked_given h w n' s' f' out' c' T G j J x i g =
        let d : List ℕ → Done Model.PollReply = λ q. moved (Model.reply (reply_at c (rooms q s f) p)) c (rooms q s f) (without c (rooms q s f) p) (closing c (rooms q s f) p) in
        let z : (q : List ℕ) → gives (d q) ≡ checked_exact c (rooms q s f) n (length out) =
        λ q. past_refusal _ _ _ (le-ltb (length out) p.len h) ∙ ap (checked_from c (rooms q s f) n (length out)) e in
        record {
          exact = λ q. exact_as shown_poll _ (rooms q s f) (d q) (Says.reply x) c' (rooms q s' f') (z q) (ap Says.reply (i ∙ handed_is s p j [] 0 reply_some J packet_length refl))
              (state_left w _ _ n' f' s' c' T.left G g)
              (rooms_left q w _ _ n' f' s' T.left G);
          output = λ q. output_as bytes_of_poll _ out out' (d q) (z q) T.output;
        }

    -- ---- `poll_for_reply`

    as_error : (j : Class) (t : Bool) → says_class j ≡ class_at s p → is_error (says_class j) ≡ t → (r : Rooms) → r.store ≡ s → error_at r p ≡ t
    as_error j t x y r z = ap (λ (l : List ℕ). is_error (class_at l p)) z ∙ ap is_error (sym x) ∙ y

    pub replied_error : (j : Class) → says_class j ≡ class_at s p → is_error (says_class j) ≡ true → (n' : Counts) (s' f' : List ℕ) (c' : Connection)
        → s' ≡ demoted c.window s p
        → Slots.room f' n' ≡ Slots.close_held p.before p.fds (Slots.room f c.counts)
        → c' ≡ moved_state c c.window n' → RepliedStep c n s f out (Ok (PollReply.NoReply c')) s' f' out
    unfolding replied_exact choose
    replied_error j x y n' s' f' c' T G g =
        let d : List ℕ → Done Model.PollReply = λ q. moved Model.no_reply c (rooms q s f) (turned_event c (rooms q s f) p) (closing c (rooms q s f) p) in
        let z : (q : List ℕ) → gives (d q) ≡ replied_exact c (rooms q s f) n (length out) =
        λ q. sym (choose_yes (error_at (rooms q s f) p) _ _ (as_error j true x y (rooms q s f) refl)) ∙ ap (replied_from c (rooms q s f) (length out)) e in
        record {
          exact = λ q. exact_as shown_poll _ (rooms q s f) (d q) Says.no_reply c' (rooms q s' f') (z q) refl
              (g ∙ (λ k. moved_state c c.window (G k).counts))
              (λ k. rooms q (T k) (G k).slots);
          output = λ q. output_none bytes_of_poll _ out (d q) (z q) refl;
        }

    pub replied_short : (j : Class) → says_class j ≡ class_at s p → is_error (says_class j) ≡ false → length out < p.len → RepliedStep c n s f out (Err Refusal.OutShort) s f out
    unfolding replied_exact choose
    replied_short j x y h =
        let z : (q : List ℕ) → refuses 8 ≡ replied_exact c (rooms q s f) n (length out) =
        λ q. given_refusal _ _ _ (lt-ltb (length out) p.len h) ∙ sym (choose_no (error_at (rooms q s f) p) _ _ (as_error j false x y (rooms q s f) refl)) ∙ ap (replied_from c (rooms q s f) (length out)) e in
        record { exact = λ q. exact_refused shown_poll _ (rooms q s f) 8 (z q); output = λ q. output_refused bytes_of_poll _ out 8 (z q) }

    pub replied_given : (j : Class) → says_class j ≡ class_at s p → is_error (says_class j) ≡ false → p.len ≤ length out → (w : Window) (n' : Counts) (s' f' out' : List ℕ) (c' : Connection)
        → Takes c.window s p out w s' out'
        → Slots.room f' n' ≡ Slots.close_held p.before p.fds (Slots.room f c.counts)
        → (k : Class) → says_class k ≡ class_at s p → (v : Handed) → v ≡ handed_at p k 0 → c' ≡ moved_state c w n' → RepliedStep c n s f out (Ok (PollReply.Reply v c')) s' f' out'
    unfolding replied_exact handed choose
    replied_given j x y h w n' s' f' out' c' T G k K v i g =
        let d : List ℕ → Done Model.PollReply = λ q. moved (Model.reply (reply_at c (rooms q s f) p)) c (rooms q s f) (without c (rooms q s f) p) (closing c (rooms q s f) p) in
        let z : (q : List ℕ) → gives (d q) ≡ replied_exact c (rooms q s f) n (length out) =
        λ q. past_refusal _ _ _ (le-ltb (length out) p.len h) ∙ sym (choose_no (error_at (rooms q s f) p) _ _ (as_error j false x y (rooms q s f) refl)) ∙ ap (replied_from c (rooms q s f) (length out)) e in
        record {
          exact = λ q. exact_as shown_poll _ (rooms q s f) (d q) (Says.reply v) c' (rooms q s' f') (z q) (ap Says.reply (i ∙ handed_is s p k [] 0 reply_some K packet_length refl))
              (state_left w _ _ n' f' s' c' T.left G g)
              (rooms_left q w _ _ n' f' s' T.left G);
          output = λ q. output_as bytes_of_poll _ out out' (d q) (z q) T.output;
        }

-- ---- nothing of that number

module _ (c : Connection) (n : ℕ) (s f : List ℕ) (e : None ≡ found_reply n c.window s) (out : List ℕ) where
  pub taken_none : (fds : List ℕ) → TakenStep c n s f out fds (Ok (record { packet = None; connection = c })) s f out fds
  unfolding taken_exact
  taken_none fds =
      let z : (q : List ℕ) → gives (stays Model.none c (rooms q s f)) ≡ taken_exact c (rooms q s f) n (length out) (length fds) = λ q. ap (taken_from c (rooms q s f) (length out) (length fds)) e in
      record {
        exact = λ q. exact_as shown_taken _ (rooms q s f) _ Says.none c (rooms q s f) (z q) refl refl refl;
        output = λ q. output_none bytes_of_taken _ out _ (z q) refl;
        places = λ q. output_none descriptors_of_taken _ fds _ (z q) refl;
      }

  pub checked_past : n < c.read → CheckedStep c n s f out (Ok (PollReply.NoReply c)) s f out
  unfolding checked_exact choose
  checked_past h =
      let z : (q : List ℕ) → gives (stays Model.no_reply c (rooms q s f)) ≡ checked_exact c (rooms q s f) n (length out) =
      λ q. ap (λ (t : Bool). gives (stays (choose t Model.no_reply Model.try_again) c (rooms q s f))) (sym (lt-ltb n c.read h)) ∙ ap (checked_from c (rooms q s f) n (length out)) e in
      record { exact = λ q. exact_as shown_poll _ (rooms q s f) _ Says.no_reply c (rooms q s f) (z q) refl refl refl; output = λ q. output_none bytes_of_poll _ out _ (z q) refl }

  pub checked_again : c.read ≤ n → CheckedStep c n s f out (Ok (PollReply.TryAgain c)) s f out
  unfolding checked_exact choose
  checked_again h =
      let z : (q : List ℕ) → gives (stays Model.try_again c (rooms q s f)) ≡ checked_exact c (rooms q s f) n (length out) =
      λ q. ap (λ (t : Bool). gives (stays (choose t Model.no_reply Model.try_again) c (rooms q s f))) (sym (le-ltb n c.read h)) ∙ ap (checked_from c (rooms q s f) n (length out)) e in
      record { exact = λ q. exact_as shown_poll _ (rooms q s f) _ Says.again c (rooms q s f) (z q) refl refl refl; output = λ q. output_none bytes_of_poll _ out _ (z q) refl }

  pub replied_none : RepliedStep c n s f out (Ok (PollReply.TryAgain c)) s f out
  unfolding replied_exact
  replied_none =
      let z : (q : List ℕ) → gives (stays Model.try_again c (rooms q s f)) ≡ replied_exact c (rooms q s f) n (length out) = λ q. ap (replied_from c (rooms q s f) (length out)) e in
      record { exact = λ q. exact_as shown_poll _ (rooms q s f) _ Says.again c (rooms q s f) (z q) refl refl refl; output = λ q. output_none bytes_of_poll _ out _ (z q) refl }
