-- A place that was found: which record of its list lies there. Assumes nothing.
use Rattle.std.specs.Prelude.{◌≡◌, refl, Bool, true, false, List, [], ◌∷◌, ◌++◌, ℕ, ◌+◌, eqb, length, Option, Some, None}
use Rattle.std.proofs.Common.{sym, ap, ◌∙◌, subst, add-zero, zero-add, add_assoc, eqb-true, eq-eqb}
use Rattle.octets.specs.Logic.{both_left, both_right, both_yes, either, apart}
use Rattle.held.specs.General.{choose_either}
use Rattle.held.specs.Head.{Record, Fits, cost, reply, event}
use Rattle.held.specs.Reading.{records, replies, events, only, fds_in, costs, All, Readable}
use Rattle.held.specs.Rows.{only_append, only_is, only_other, all_left, fds_replies}
use Rattle.held.specs.Find.{place_of, sought, suits, wanted, found_reply, found_event}
use Rattle.held.specs.declared.Window.{Window}
use Rattle.held.specs.declared.Spot.{Spot}

-- ---- the first that passes a test

-- the first of hs that passes, with those before it and those behind it
pub record First (t : Record → Bool) (at before : ℕ) (hs : List Record) (p : Spot) : Type 0 where
  pub front : List Record
  pub it : Record
  pub back : List Record
  pub split : hs ≡ front ++ (it ∷ back)
  pub passes : t it ≡ true
  pub none : All (λ h. t h ≡ false) front
  pub is : p ≡ place_of (at + costs front) (before + fds_in front) it

abbrev pub Seeks : (Record → Bool) → ℕ → ℕ → List Record → Option Spot → Type 0
Seeks t at before hs (Some p) = First t at before hs p
Seeks t at before hs None = All (λ h. t h ≡ false) hs

further : (t : Record → Bool) (at before : ℕ) (h : Record) (hs : List Record) (r : Option Spot) → t h ≡ false → Seeks t (at + cost h) (before + h.fds) hs r → Seeks t at before (h ∷ hs) r
unfolding All costs fds_in
further t at before h hs (Some p) e F = record {
  front = h ∷ F.front;
  it = F.it;
  back = F.back;
  split = ap (λ (l : List Record). h ∷ l) F.split;
  passes = F.passes;
  none = (e, F.none);
  is = F.is ∙ (λ k. place_of (add_assoc at (cost h) (costs F.front) k) (add_assoc before h.fds (fds_in F.front) k) F.it);
}
further t at before h hs None e F = (e, F)

pub seeks : (t : Record → Bool) (at before : ℕ) (hs : List Record) → Seeks t at before hs (sought t at before hs)
unfolding sought All costs fds_in
seeks t at before [] = tt
seeks t at before (h ∷ hs) =
    choose_either (Seeks t at before (h ∷ hs)) (t h) (Some (place_of at before h)) (sought t (at + cost h) (before + h.fds) hs)
    (λ e. record { front = []; it = h; back = hs; split = refl; passes = e; none = tt; is = λ k. place_of (sym (add-zero at) k) (sym (add-zero before) k) h })
    (λ e. further t at before h hs (sought t (at + cost h) (before + h.fds) hs) e (seeks t (at + cost h) (before + h.fds) hs))

-- ---- what is found, in its list

-- A record of a kind lies at a place: in its list it stands between `before` and `after`.
pub record Lies (kind : ℕ) (w : Window) (s : List ℕ) (p : Spot) (before : List Record) (it : Record) (after : List Record) : Type 0 where
  pub front : List Record
  pub back : List Record
  pub split : records w s ≡ front ++ (it ∷ back)
  pub at : p.at ≡ w.start + costs front
  pub len : p.len ≡ length it.packet
  pub kind_is : it.kind ≡ kind
  pub before_is : only kind front ≡ before
  pub after_is : only kind back ≡ after

-- the list itself
pub lies_split : (kind : ℕ) (w : Window) (s : List ℕ) (p : Spot) (before : List Record) (it : Record) (after : List Record) → Lies kind w s p before it after → only kind (records w s) ≡ before ++ (it ∷ after)
lies_split kind w s p before it after L =
    ap (only kind) L.split
    ∙ only_append kind L.front (it ∷ L.back)
    ∙ (λ k. L.before_is k ++ (only_is kind it L.back L.kind_is ∙ ap (λ (l : List Record). it ∷ l) L.after_is) k)

-- and another kind's: it isn't in there
pub lies_others : (kind : ℕ) (w : Window) (s : List ℕ) (p : Spot) (before : List Record) (it : Record) (after : List Record) (L : Lies kind w s p before it after) (k : ℕ) → (kind ≡ k → ⊥)
    → only k (records w s) ≡ only k (L.front ++ L.back)
lies_others kind w s p before it after L k d =
    ap (only k) L.split
    ∙ only_append k L.front (it ∷ L.back)
    ∙ ap (λ (l : List Record). only k L.front ++ l) (only_other k it L.back (λ q. d (sym L.kind_is ∙ q)))
    ∙ sym (only_append k L.front L.back)

abbrev pub Other : ℕ → Record → Type 0
Other n h = h.number ≡ n → ⊥

-- The first reply of the number n is at the place p.
pub record FirstReply (n : ℕ) (w : Window) (s : List ℕ) (p : Spot) : Type 0 where
  pub before : List Record
  pub it : Record
  pub after : List Record
  pub split : replies w s ≡ before ++ (it ∷ after)
  pub none : All (Other n) before
  pub is : it.number ≡ n
  pub len : p.len ≡ length it.packet
  pub number : p.number ≡ n
  pub fds : p.fds ≡ it.fds
  pub count : p.before ≡ fds_in before
  pub lies : Lies reply w s p before it after

-- The first event is at the place p.
pub record FirstEvent (w : Window) (s : List ℕ) (p : Spot) : Type 0 where
  pub it : Record
  pub after : List Record
  pub split : events w s ≡ it ∷ after
  pub len : p.len ≡ length it.packet
  pub number : p.number ≡ it.number
  pub lies : Lies event w s p [] it after

-- What a search answers: the first of the list, or that the list has none.
abbrev pub FindsReply : ℕ → Window → List ℕ → Option Spot → Type 0
FindsReply n w s (Some p) = FirstReply n w s p
FindsReply n w s None = All (Other n) (replies w s)

abbrev pub FindsEvent : Window → List ℕ → Option Spot → Type 0
FindsEvent w s (Some p) = FirstEvent w s p
FindsEvent w s None = events w s ≡ []

-- ---- laws

reply_is : (n : ℕ) (h : Record) → wanted reply false n h ≡ true → (h.kind ≡ reply) × (h.number ≡ n)
unfolding suits either
reply_is n h t = (eqb-true h.kind reply (both_left _ _ t), eqb-true h.number n (both_right _ _ t))

event_is : (h : Record) → wanted event true 0 h ≡ true → h.kind ≡ event
unfolding suits
event_is h t = eqb-true h.kind event (both_left _ _ t)

-- those that don't pass
none_number : (n : ℕ) (hs : List Record) → All (λ h. wanted reply false n h ≡ false) hs → All (Other n) (only reply hs)
unfolding All only suits either
none_number n [] a = tt
none_number n (h ∷ hs) a =
    choose_either (All (Other n)) (eqb h.kind reply) (h ∷ only reply hs) (only reply hs)
    (λ e. ((λ q. apart (both_yes _ _ e (eq-eqb h.number n q)) a.0), none_number n hs a.1))
    (λ e. none_number n hs a.1)

none_event : (hs : List Record) → All (λ h. wanted event true 0 h ≡ false) hs → only event hs ≡ []
unfolding All only suits either
none_event [] a = refl
none_event (h ∷ hs) a =
    choose_either (λ (l : List Record). l ≡ []) (eqb h.kind event) (h ∷ only event hs) (only event hs)
    (λ e. apart (both_yes _ true e refl) a.0)
    (λ e. none_event hs a.1)

-- the first that passes lies at its place
first_lies : (kind : ℕ) (t : Record → Bool) (w : Window) (s : List ℕ) (p : Spot) (before : List Record) (F : First t w.start 0 (records w s) p) → F.it.kind ≡ kind → only kind F.front ≡ before
    → Lies kind w s p before F.it (only kind F.back)
first_lies kind t w s p before F e b = record {
  front = F.front;
  back = F.back;
  split = F.split;
  at = ap (λ (q : Spot). q.at) F.is;
  len = ap (λ (q : Spot). q.len) F.is;
  kind_is = e;
  before_is = b;
  after_is = refl;
}

-- The oldest reply of a number is found exactly where the list of replies has one of that number, and then it is the first such.
pub finds_reply : (n : ℕ) (w : Window) (s : List ℕ) → Readable w s → FindsReply n w s (found_reply n w s)
unfolding found_reply
finds_reply n w s R = go (found_reply n w s) (seeks (wanted reply false n) w.start 0 (records w s))
  where
    go : (r : Option Spot) → Seeks (wanted reply false n) w.start 0 (records w s) r → FindsReply n w s r
    go (Some p) F =
        let is = reply_is n F.it F.passes in
        let L : Lies reply w s p (only reply F.front) F.it (only reply F.back) = first_lies reply (wanted reply false n) w s p (only reply F.front) F is.0 refl in
        let f : All Fits F.front = all_left Fits F.front (F.it ∷ F.back) (subst (All Fits) F.split R.fit) in
        record {
          before = only reply F.front;
          it = F.it;
          after = only reply F.back;
          split = lies_split reply w s p (only reply F.front) F.it (only reply F.back) L;
          none = none_number n F.front F.none;
          is = is.1;
          len = L.len;
          number = ap (λ (q : Spot). q.number) F.is ∙ is.1;
          fds = ap (λ (q : Spot). q.fds) F.is;
          count = ap (λ (q : Spot). q.before) F.is ∙ zero-add (fds_in F.front) ∙ fds_replies F.front f;
          lies = L;
        }
    go None F = none_number n (records w s) F

-- The oldest event is found exactly where there is one.
pub finds_event : (w : Window) (s : List ℕ) → FindsEvent w s (found_event w s)
unfolding found_event
finds_event w s = go (found_event w s) (seeks (wanted event true 0) w.start 0 (records w s))
  where
    go : (r : Option Spot) → Seeks (wanted event true 0) w.start 0 (records w s) r → FindsEvent w s r
    go (Some p) F =
        let L : Lies event w s p [] F.it (only event F.back) = first_lies event (wanted event true 0) w s p [] F (event_is F.it F.passes) (none_event F.front F.none) in
        record {
          it = F.it;
          after = only event F.back;
          split = lies_split event w s p [] F.it (only event F.back) L;
          len = L.len;
          number = ap (λ (q : Spot). q.number) F.is;
          lies = L;
        }
    go None F = none_event (records w s) F
