-- A RUN OF THE EXPORTS IS A SESSION, and what is then certain, in the exports' own terms. Assumes nothing.
use Rattle.std.specs.Prelude.{false, ◌⊎◌, ◌≡◌, refl, ℕ, ◌≤◌, length, take}
use mathlib.Core.List.{List, [], ◌∷◌}
use Rattle.std.proofs.Common.{inl, inr, sym, ap, subst}
use native.Mathlib.Omega.{arith}
use Rattle.refusal.specs.Answer.{Answer, gives, refuses}
use Rattle.packet.specs.Packet.{code_of, unnumbered}
use Rattle.packet_reader.specs.Frame.{cut_packets}
use Rattle.model.specs.Model.{Filing}
use Rattle.model.specs.Feed.{ShownFed}
use Rattle.model.specs.Reading.{Rooms, rooms}
use Rattle.model.specs.declared.Connection.{Connection}
use Rattle.connection.specs.Calls.{Enqueues, EnqueuesMany}
use Rattle.honest.specs.Run.{Entry, Fair, Honest, Right, Ordinary, Filed}
use Rattle.honest.specs.Public.{state_of}
use Rattle.honest.specs.Server.{Packet, packets_in}
use Rattle.honest.specs.Origins.{Lists, Traced, AllTied}
use Rattle.session.specs.Ask.{enqueue_packet_ask, enqueue_packets_ask}
use Rattle.session.specs.Noting.{note_fed}
use Rattle.session.specs.Session.{Session, call}
use Rattle.session.proofs.Theorems.{session_sound, session_true, session_filed, session_never_ended, session_never_past}
use Rattle.session.specs.Serving.{bytes_in, numbers_in, FiledAll}
use Rattle.session.proofs.Served.{session_runs, session_tied, session_fed}
use Rattle.rows.specs.State.{connection_slots, connection_of}
use Rattle.answers.specs.Exported.{returned, shown_of, shown_at}
use Rattle.answers.specs.Shown.{state_row, filing, fed}
use Rattle.xiengmado.specs.Exports.{XmEnqueuePacket, XmEnqueuePackets}
use Rattle.exports.specs.Refusals.{Within, of_calls, named, call_within}
use Rattle.exports.specs.Run.{Bytes, client_of, filing_at, Export, Run, Meaningless}
use Rattle.exports.proofs.Running.{run_row, came_nine, came_found}
use Rattle.exports.specs.Asking.{legal_small, row_left, filing_meant, export_came}

-- ---- THE THEOREM

-- LONG: the row has sixteen numbers at any time.
pub run_long : {state requests store slots : List ℕ} {l : List Entry} → Run state requests store slots l → length state ≡ connection_slots
run_long k = (run_row k).0

-- A SESSION: a run of the exports is one, of the state that the row is and of the rooms, with the same log. So every theorem over sessions is one over runs.
pub run_session : {state requests store slots : List ℕ} {l : List Entry} → Run state requests store slots l → Session (connection_of state) (rooms requests store slots) l
run_session k = (run_row k).1

-- ---- What is then certain

-- TRUE NUMBERS: with an honest server the number of each packet taken in, as `xm_enqueue_packet` showed it, is its true one, however long the run is.
pub exports_true : {state requests store slots : List ℕ} {l : List Entry} → Run state requests store slots l → Honest (connection_of state).order l → Right l
exports_true k h = session_true (run_session k) h

-- TIED: however the records of a run are followed, each that is held bears the true number of the very packet that it came from.
pub exports_tied : {state requests store slots : List ℕ} {l : List Entry} (k : Run state requests store slots l) → Honest (connection_of state).order l → (x : Lists) → Traced (client_of state requests store slots) l (session_runs (run_session k)) x → AllTied (packets_in l) x
exports_tied k h x t = session_tied (run_session k) h x t

-- NEVER PAST: whatever the server sends, honest or not, the last read does not pass next reply expected, nor that the last written.
pub exports_never_past : {state requests store slots : List ℕ} {l : List Entry} → Run state requests store slots l → ((connection_of state).read ≤ (connection_of state).expected) × ((connection_of state).expected ≤ (connection_of state).written)
exports_never_past k = session_never_past (run_session k)

-- SOUND: no export of a run returns 9, but for a kind or a mode that means nothing.
pub exports_sound : {state requests store slots state' requests' store' slots' : List ℕ} {l : List Entry} {adds : List Entry → List Entry} {r : ℕ} → Run state requests store slots l
    → (x : Export state requests store slots state' requests' store' slots' adds r) → r ≡ 9 → Meaningless x
exports_sound k x e = came_nine (run_session k) (export_came x) e

-- AS FOUND: an export that returned another number than 0 leaves the row and the rooms as they were, whatever they are; and so it adds nothing to the log of a run.
pub exports_refused : {state requests store slots state' requests' store' slots' : List ℕ} {adds : List Entry → List Entry} {r : ℕ} → Export state requests store slots state' requests' store' slots' adds r → (r ≡ 0 → ⊥)
    → (state' ≡ state) × (requests' ≡ requests) × (store' ≡ store) × (slots' ≡ slots)
exports_refused x z =
    let w = came_found (export_came x) z in
    (w.0, ap (λ (q : Rooms). q.requests) w.1, ap (λ (q : Rooms). q.store) w.1, ap (λ (q : Rooms). q.slots) w.1)

-- A run with an honest server, and the `xm_enqueue_packet` that brings its next packet.
module _ {state requests store slots : List ℕ} {l : List Entry} (k : Run state requests store slots l) (h : Honest (connection_of state).order l) (t : ℕ) (packet : List ℕ) (bytes : Bytes packet)
    (carries : unnumbered (code_of packet) ≡ false) (fair : Fair (connection_of state).order l t packet) {place number class : ℕ} {state' store' slots' : List ℕ} {place' number' class' r : ℕ}
    (enqueues : XmEnqueuePacket state requests store slots packet place number class state' store' slots' place' number' class' r) where
  filed : (a : Answer (Filing × Connection)) → Enqueues (connection_of state) (rooms requests store slots) packet a (rooms requests store' slots') → r ≡ returned a → (place' ∷ number' ∷ class' ∷ []) ≡ shown_of filing a (place ∷ number ∷ class ∷ []) → state' ≡ shown_of (state_row state) a state
      → r ≡ 0 → Filed (client_of state requests store slots) packet t (filing_at place' number' class', client_of state' requests store' slots')
  unfolding state_of
  filed (gives y) p e v s z =
      let b = call (enqueue_packet_ask packet) (bytes 1) [] (gives y) (rooms requests store' slots') tt p (run_session k) in
      let w = row_left state state' (gives y) s (run_long k) (legal_small _ (session_sound b).order) in
      rw (filing_meant y place' number' class' v, w.is) (session_filed (run_session k) h t packet carries fair (gives y) (rooms requests store' slots') p y.0 y.1 refl)
  filed (refuses n) p e v s z = absurd (none (call_within (enqueue_packet_ask packet) (connection_of state) (rooms requests store slots) (session_sound (run_session k)) (refuses n) (rooms requests store' slots') tt p))
    where
      none : Within of_calls {A = Filing × Connection} (refuses n) → ⊥
      none (named i j) = omega arith

  -- FILED: where it returned 0 the packet is the last of the list that `place` says, whole and under its true number, which `number` is; or if dropped was reckoned by it.
  pub exports_filed : r ≡ 0 → Filed (client_of state requests store slots) packet t (filing_at place' number' class', client_of state' requests store' slots')
  exports_filed z = filed enqueues.exported.answer enqueues.exported.promise enqueues.exported.number enqueues.exported.values enqueues.state z

  -- NEVER ENDED, NEVER AHEAD: otherwise it returned 1, 2, 4 or 5.
  pub exports_never_ended : r ≡ 0 ⊎ Ordinary r
  exports_never_ended = go enqueues.exported.answer enqueues.exported.promise enqueues.exported.number
    where
      go : (a : Answer (Filing × Connection)) → Enqueues (connection_of state) (rooms requests store slots) packet a (rooms requests store' slots') → r ≡ returned a → r ≡ 0 ⊎ Ordinary r
      go (gives y) p e = inl e
      go (refuses n) p e =
          inr (subst Ordinary (sym e) (session_never_ended (run_session k) h t packet carries fair (refuses n) (rooms requests store' slots') p n refl))

-- A run, and the `xm_enqueue_packets` that brings bytes that are cut into the packets ps.
module _ {state requests store slots : List ℕ} {l : List Entry} (k : Run state requests store slots l) (ps : List Packet) (bytes : List ℕ) (are : Bytes bytes) (cuts : bytes_in ps ≡ (cut_packets (connection_of state).order bytes).packets)
    {size count stop : ℕ} {state' store' slots' : List ℕ} {size' count' stop' r : ℕ} (enqueues : XmEnqueuePackets state requests store slots bytes size count stop state' store' slots' size' count' stop' r) where
  fed_all : (a : Answer (ShownFed × Connection)) → EnqueuesMany (connection_of state) (rooms requests store slots) bytes a (rooms requests store' slots') → r ≡ returned a → (size' ∷ count' ∷ stop' ∷ []) ≡ shown_of fed a (size ∷ count ∷ stop ∷ []) → state' ≡ shown_of (state_row state) a state
      → r ≡ 0 → Honest (connection_of state).order (note_fed (numbers_in ps) (client_of state requests store slots) bytes (gives (tt {0})) l)
      → FiledAll (client_of state requests store slots) (take count' ps) (client_of state' requests store' slots')
  unfolding state_of note_fed
  fed_all (gives y) p e v s z h =
      let b = call (enqueue_packets_ask bytes) are [] (gives y) (rooms requests store' slots') tt p (run_session k) in
      let w = row_left state state' (gives y) s (run_long k) (legal_small _ (session_sound b).order) in
      rw (shown_at 1 v, w.is) (session_fed (run_session k) bytes ps cuts (gives y) (rooms requests store' slots') p h y.0 y.1 refl)
  fed_all (refuses n) p e v s z h = absurd (none (call_within (enqueue_packets_ask bytes) (connection_of state) (rooms requests store slots) (session_sound (run_session k)) (refuses n) (rooms requests store' slots') tt p))
    where
      none : Within of_calls {A = ShownFed × Connection} (refuses n) → ⊥
      none (named i j) = omega arith

  -- FED: where it returned 0, the first `count` of them were taken: with an honest server each stands in the rooms as they are now, or was dropped, under its true number.
  pub exports_fed : r ≡ 0 → Honest (connection_of state).order (note_fed (numbers_in ps) (client_of state requests store slots) bytes (gives (tt {0})) l) → FiledAll (client_of state requests store slots) (take count' ps) (client_of state' requests store' slots')
  exports_fed z h = fed_all enqueues.exported.answer enqueues.exported.promise enqueues.exported.number enqueues.exported.values enqueues.state z h
