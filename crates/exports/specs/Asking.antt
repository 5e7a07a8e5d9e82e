-- Each export is its public call, asked of the state that the row is: what it comes to for a session. Assumes nothing.
use Rattle.std.specs.Prelude.{Bool, true, false, List, [], ◌∷◌, ◌≡◌, refl, ℕ, ◌≤◌, ◌<◌, eqb, length, take}
use Rattle.std.proofs.Common.{sym, ap, ◌∙◌, arith, eqb-true, eq-eqb, ne_eqb, leb-false}
use Rattle.octets.specs.Logic.{choose, either, apart, either_left, either_right}
use Rattle.octets.specs.Bytes.{little_order, big_order, legal}
use Rattle.refusal.specs.Answer.{Answer, gives, refuses, pass}
use Rattle.model.specs.Client.{Client}
use Rattle.packet.specs.Class.{class_at, number_back}
use Rattle.model.specs.Model.{Filing}
use Rattle.model.specs.Reading.{Rooms, rooms, reads}
use Rattle.model.specs.SendRequests.{kind_of, ShownSendings}
use Rattle.model.specs.declared.Connection.{Connection}
use Rattle.model.specs.declared.Place.{Place}
use Rattle.honest.specs.Run.{Entry, sent, note_sent, note_took}
use Rattle.honest.specs.Public.{state_of}
use Rattle.session.specs.Ask.{Ask, send_request_ask, enqueue_fds_ask, enqueue_packet_ask, discard_reply_ask, poll_for_reply_or_error_ask, poll_check_for_reply_or_error, poll_for_reply_ask, poll_for_event_with_sequence, take_closed_fds, prepare_check_for_reply_or_error, send_requests_ask, enqueue_packets_ask, poll_for_events_ask, Value, Outputs, told, Answers, OfBytes}
use Rattle.session.specs.Noting.{note_fed}
use Rattle.session.specs.Session.{sent_all, note_sends, logged}
use Rattle.rows.specs.State.{connection_slots, connection_of, connection_row}
use Rattle.rows.specs.Theorems.{connection_back}
use Rattle.answers.specs.Exported.{returned, shown_of, Kept, When, on, off, shown_at}
use Rattle.answers.specs.Shown.{state_row, place_number, filing, sendings, mode_of, is_mode}
use Rattle.exports.specs.Refusals.{Within, of_calls, named}
use Rattle.exports.specs.Run.{place_at, filing_at, Export, xm_send_request, xm_discard_reply, xm_enqueue_fds, xm_enqueue_packet, xm_poll_for_reply_or_error, xm_poll_check_for_reply_or_error, xm_poll_for_reply, xm_poll_for_event_with_sequence, xm_take_closed_fds, xm_prepare_check_for_reply_or_error, xm_send_requests, xm_enqueue_packets, xm_poll_for_events, noted, Meaningless}

-- ---- The row

-- an order that is legal is a byte
pub legal_small : (o : ℕ) → legal o ≡ true → o < 256
unfolding legal either
legal_small o h = go (eqb o little_order) refl h
  where
    go : (b : Bool) → eqb o little_order ≡ b → either b (eqb o big_order) ≡ true → o < 256
    go true e k = omega (arith, eqb-true o little_order e)
    go false e k = omega (arith, eqb-true o big_order k)

pub row_long : (s : List ℕ) (c : Connection) → length s ≡ connection_slots → length (connection_row s c) ≡ connection_slots
unfolding connection_row choose
row_long s c n = simp (eq-eqb _ _ n)

-- a row that an export leaves: it is the state to go on with
pub record Row (s : List ℕ) (c : Connection) : Type 0 where
  pub long : length s ≡ connection_slots
  pub is : connection_of s ≡ c

pub row_left : {B : Type 0} (s s' : List ℕ) (a : Answer (B × Connection)) → s' ≡ shown_of (state_row s) a s → length s ≡ connection_slots → (state_of a (connection_of s)).order < 256 → Row s' (state_of a (connection_of s))
unfolding state_of
row_left s s' (gives x) e n o = record { long = ap length e ∙ row_long s x.1 n; is = ap connection_of e ∙ connection_back s x.1 n o }
row_left s s' (refuses k) e n o = record { long = ap length e ∙ n; is = ap connection_of e }

-- ---- The log

-- 0 was returned, or another number
noted_given : (r : ℕ) (adds : List Entry → List Entry) (l : List Entry) → r ≡ 0 → noted r adds l ≡ adds l
unfolding noted choose
noted_given r adds l e = simp e

pub noted_refused : (r n : ℕ) (adds : List Entry → List Entry) (l : List Entry) → r ≡ n → 1 ≤ n → noted r adds l ≡ l
unfolding noted choose
noted_refused r n adds l e h = simp (ne_eqb r 0 (λ z. omega arith))

noted_same : (r : ℕ) (l : List Entry) → noted r (λ x. x) l ≡ l
unfolding noted choose
noted_same r l = go (eqb r 0)
  where
    go : (b : Bool) → choose b l l ≡ l
    go true = refl
    go false = refl

-- what is shown of a filing tells it
place_meant : (x : Place) → place_at (place_number x) ≡ x
place_meant Place.Replies = refl
place_meant Place.Events = refl
place_meant Place.Dropped = refl

pub filing_meant : (x : Filing × Connection) (place number class : ℕ) → (place ∷ number ∷ class ∷ []) ≡ filing x → filing_at place number class ≡ x.0
filing_meant x place number class e = λ i. record { place = (ap place_at (shown_at 0 e) ∙ place_meant x.0.place) i; number = shown_at 1 e i; class = (ap class_at (shown_at 2 e) ∙ number_back x.0.class) i }

sent_noted : {A : Type 0} (b : Bool) (r : ℕ) (a : Answer A) → r ≡ returned a → Within of_calls a → (l : List Entry) → noted r (λ k. sent b ∷ k) l ≡ note_sent b a l
unfolding note_sent
sent_noted b r (gives x) e w l = noted_given r _ l e
sent_noted b r (refuses n) e (named p' q') l = noted_refused r n _ l e p'

took_noted : (t : ℕ) (p : List ℕ) (r : ℕ) (a : Answer (Filing × Connection)) (v : List ℕ) (place number class : ℕ) → r ≡ returned a → (place ∷ number ∷ class ∷ []) ≡ shown_of filing a v → Within of_calls a → (l : List Entry)
    → noted r (λ k. note_took t p (gives (filing_at place number class, tt {0})) k) l ≡ note_took t p a l
unfolding note_took
took_noted t p r (gives x) v place number class e s w l =
    noted_given r _ l e ∙ ap (λ (f : Filing). note_took t p (gives (f, tt {0})) l) (filing_meant x place number class s)
took_noted t p r (refuses n) v place number class e s (named p' q') l = noted_refused r n _ l e p'

sends_noted : (kinds : List ℕ) (r : ℕ) (a : Answer (ShownSendings × Connection)) (v : List ℕ) (count number stop : ℕ) → r ≡ returned a → (count ∷ number ∷ stop ∷ []) ≡ shown_of sendings a v → Within of_calls a → (l : List Entry)
    → noted r (λ k. sent_all (take count kinds) k) l ≡ note_sends kinds a l
unfolding note_sends
sends_noted kinds r (gives x) v count number stop e s w l = noted_given r _ l e ∙ ap (λ (n : ℕ). sent_all (take n kinds) l) (shown_at 0 s)
sends_noted kinds r (refuses n) v count number stop e s (named p' q') l = noted_refused r n _ l e p'

fed_noted : {A : Type 0} (ts : List ℕ) (m : Client) (bytes : List ℕ) (r : ℕ) (a : Answer A) → r ≡ returned a → Within of_calls a → (l : List Entry)
    → noted r (λ k. note_fed ts m bytes (gives (tt {0})) k) l ≡ note_fed ts m bytes a l
unfolding note_fed
fed_noted ts m bytes r (gives x) e w l = noted_given r _ l e
fed_noted ts m bytes r (refuses n) e (named p' q') l = noted_refused r n _ l e p'

-- ---- What an export comes to

-- A public call that was asked: its answer, which its promise allows; the row is the state to go on with, and after a refusal as found, the number returned is the answer's, and the log what a session notes.
pub record Asked (s : List ℕ) (q : Rooms) (s' : List ℕ) (q' : Rooms) (adds : List Entry → List Entry) (r : ℕ) : Type 0 where
  pub ask : Ask
  pub bytes : OfBytes ask
  pub numbers : List ℕ
  pub answer : Answer (Value ask × Connection)
  pub outputs : Outputs ask
  pub answers : Answers ask (connection_of s) q answer q' outputs
  pub row : length s ≡ connection_slots → (state_of answer (connection_of s)).order < 256 → Row s' (state_of answer (connection_of s))
  pub found : (n : ℕ) → answer ≡ refuses n → s' ≡ s
  pub number : r ≡ returned answer
  pub notes : Within of_calls answer → (l : List Entry) → noted r adds l ≡ logged ask numbers (reads (connection_of s) q) answer l

-- Or none was, and everything is as found.
pub record Unasked (s : List ℕ) (q : Rooms) (s' : List ℕ) (q' : Rooms) (r : ℕ) (why : Type 0) : Type 0 where
  pub number : r ≡ 9
  pub row : s' ≡ s
  pub left : q' ≡ q
  pub reason : why

pub data Came (s : List ℕ) (q : Rooms) (s' : List ℕ) (q' : Rooms) (adds : List Entry → List Entry) (r : ℕ) (why : Type 0) : Type 0 where
  asked : Asked s q s' q' adds r → Came s q s' q' adds r why
  unasked : Unasked s q s' q' r why → Came s q s' q' adds r why

-- by the case of a test before the call
tested : {A C : Type 0} {b : Bool} {same : Type 0} {P : Answer A → Type 0} {a : Answer A} → When b same P a → (P a → C) → (b ≡ false → same → a ≡ refuses 9 → C) → C
tested (on h p) f g = f p
tested (off h s) f g = g h s refl

-- an export that keeps the state in its row
module _ {s s' : List ℕ} {q q' : Rooms} {adds : List Entry → List Entry} {r : ℕ} {why : Type 0} (x : Ask) (b : OfBytes x) (ts : List ℕ) (o : Outputs x) {P : Answer (Value x × Connection) → Type 0} {show : Value x × Connection → List ℕ} {v v' : List ℕ}
    (k : Kept P show (state_row s) v v' s s' r) where
  kept_asks : (Within of_calls k.exported.answer → (l : List Entry) → noted r adds l ≡ logged x ts (reads (connection_of s) q) k.exported.answer l) → Answers x (connection_of s) q k.exported.answer q' o
      → Came s q s' q' adds r why
  kept_asks notes h =
      asked
      (record {
        ask = x;
        bytes = b;
        numbers = ts;
        answer = k.exported.answer;
        outputs = o;
        answers = h;
        row = row_left s s' k.exported.answer k.state;
        found = λ n e. k.state ∙ ap (λ (a : Answer (Value x × Connection)). shown_of (state_row s) a s) e;
        number = k.exported.number;
        notes = notes;
      })

kept_off : {A : Type 0} {P : Answer A → Type 0} {show put : A → List ℕ} {v v' s s' : List ℕ} {q q' : Rooms} {adds : List Entry → List Entry} {r : ℕ} {why : Type 0} (k : Kept P show put v v' s s' r) → k.exported.answer ≡ refuses 9 → q' ≡ q → why
    → Came s q s' q' adds r why
kept_off {A = A} {put = put} {s = s} k e l w =
    unasked (record { number = k.exported.number ∙ ap (λ (a : Answer A). returned a) e; row = k.state ∙ ap (λ (a : Answer A). shown_of put a s) e; left = l; reason = w })

-- a check, with the state that it found
checked : Connection → Answer Bool → Answer (Bool × Connection)
checked c a = pass a (λ b. gives (b, c))

check_told : (c : Connection) (a : Answer Bool) → (told (checked c a) ≡ a) × (state_of (checked c a) c ≡ c) × (returned (checked c a) ≡ returned a)
unfolding checked told state_of pass
check_told c (gives b) = (refl, refl, refl)
check_told c (refuses n) = (refl, refl, refl)

mode_none : (mode : ℕ) → is_mode mode ≡ false → (mode ≡ 1 → ⊥) × (mode ≡ 2 → ⊥)
unfolding is_mode
mode_none mode h = (λ e. apart (eq-eqb mode 1 e) (either_left _ _ h), λ e. apart (eq-eqb mode 2 e) (either_right _ _ h))

-- EVERY EXPORT is its public call, or was given what means nothing.
pub export_came : {state requests store slots state' requests' store' slots' : List ℕ} {adds : List Entry → List Entry} {r : ℕ} (x : Export state requests store slots state' requests' store' slots' adds r)
    → Came state (rooms requests store slots) state' (rooms requests' store' slots') adds r (Meaningless x)
export_came {store = store} {slots = slots} (xm_send_request kind k) =
    tested k.exported.promise (kept_asks (send_request_ask (kind_of kind)) tt [] tt k (sent_noted _ _ k.exported.answer k.exported.number))
    (λ h e z. kept_off k z (ap (λ (y : List ℕ). rooms y store slots) e) (leb-false _ _ h))
export_came (xm_discard_reply number mode k) =
    tested k.exported.promise (kept_asks (discard_reply_ask number (mode_of mode)) tt [] tt k (λ w l. noted_same _ l)) (λ h e z. kept_off k z e (mode_none mode h))
export_came (xm_enqueue_fds list k) = kept_asks (enqueue_fds_ask list) tt [] tt k (λ w l. noted_same _ l) k.exported.promise
export_came (xm_enqueue_packet t packet b k) =
    kept_asks (enqueue_packet_ask packet) (b 1) (t ∷ []) tt k (took_noted t packet _ k.exported.answer _ _ _ _ k.exported.number k.exported.values) k.exported.promise
export_came (xm_poll_for_reply_or_error number out fds {out' = out'} {fds' = fds'} k) = kept_asks (poll_for_reply_or_error_ask number out fds) tt [] (out', fds') k (λ w l. noted_same _ l) k.exported.promise
export_came (xm_poll_check_for_reply_or_error number out {out' = out'} k) = kept_asks (poll_check_for_reply_or_error number out) tt [] out' k (λ w l. noted_same _ l) k.exported.promise
export_came (xm_poll_for_reply number out {out' = out'} k) = kept_asks (poll_for_reply_ask number out) tt [] out' k (λ w l. noted_same _ l) k.exported.promise
export_came (xm_poll_for_event_with_sequence out {out' = out'} k) = kept_asks (poll_for_event_with_sequence out) tt [] out' k (λ w l. noted_same _ l) k.exported.promise
export_came (xm_take_closed_fds out {out' = out'} k) = kept_asks (take_closed_fds out) tt [] out' k (λ w l. noted_same _ l) k.exported.promise
export_came {state = state} {requests = requests} {store = store} {slots = slots} (xm_prepare_check_for_reply_or_error number k) =
    let c = connection_of state in
    let z = check_told c k.answer in
    asked
    (record {
      ask = prepare_check_for_reply_or_error number;
      bytes = tt;
      numbers = [];
      answer = checked c k.answer;
      outputs = tt;
      answers = (z.0 ∙ k.promise, z.1, refl);
      row = λ n o. record { long = n; is = sym z.1 };
      found = λ n e. refl;
      number = k.number ∙ sym z.2;
      notes = λ w l. noted_same _ l;
    })
export_came (xm_send_requests kinds k) = kept_asks (send_requests_ask kinds) tt [] tt k (sends_noted kinds _ k.exported.answer _ _ _ _ k.exported.number k.exported.values) k.exported.promise
export_came (xm_enqueue_packets ts bytes b k) = kept_asks (enqueue_packets_ask bytes) b ts tt k (fed_noted ts _ bytes _ k.exported.answer k.exported.number) k.exported.promise
export_came (xm_poll_for_events out marks {out' = out'} {marks' = marks'} k) = kept_asks (poll_for_events_ask out marks) tt [] (out', marks') k (λ w l. noted_same _ l) k.exported.promise
