-- Export by export a run goes on as a session. Assumes nothing.
use Rattle.std.specs.Prelude.{true, List, [], ◌≡◌, refl, ℕ, eqb, length}
use Rattle.std.proofs.Common.{sym, ap, ◌∙◌, subst, arith, eqb-true}
use Rattle.octets.specs.Logic.{either, apart}
use Rattle.refusal.specs.Answer.{Answer, gives, refuses}
use Rattle.model.specs.Reading.{Rooms, rooms}
use Rattle.model.specs.declared.Connection.{Connection}
use Rattle.connection.specs.Calls.{Opens}
use Rattle.connection.specs.Opening.{opens_sound}
use Rattle.connection.specs.Theorems.{refusal_leaves}
use Rattle.honest.specs.Run.{Entry}
use Rattle.honest.specs.Public.{state_of}
use Rattle.session.specs.Ask.{Ask, form, Value, Outputs, Answers}
use Rattle.session.specs.AskLaws.{has_form}
use Rattle.session.specs.Session.{Session, new, call}
use Rattle.session.proofs.Theorems.{session_sound}
use Rattle.rows.specs.State.{connection_slots, connection_of}
use Rattle.rows.specs.Theorems.{connection_back}
use Rattle.answers.specs.Exported.{returned, shown_of, When, on, off}
use Rattle.answers.specs.Shown.{state_row}
use Rattle.exports.specs.Refusals.{Within, up_to, of_calls, given, named, call_within, open_within}
use Rattle.exports.specs.Run as Exports
use Rattle.exports.specs.Run.{noted, Run, xm_connection_new}
use Rattle.exports.specs.Restoring.{restored_session}
use Rattle.exports.specs.Asking.{legal_small, row_long, noted_refused, Came, asked, unasked, export_came}

-- ---- The session

-- `xm_connection_new` that returned 0
opened : (s s' : List ℕ) (o : ℕ) (q : Rooms) (a : Answer (Unit × Connection)) → When (eqb (length s) connection_slots) Unit (Opens o q) a → 0 ≡ returned a → s' ≡ shown_of (state_row s) a s
    → (length s' ≡ connection_slots) × Session (connection_of s') q []
opened s s' o q (gives y) (on h p) z e =
    let n : length s ≡ connection_slots = eqb-true _ _ h in
    let b : connection_of s' ≡ y.1 = ap connection_of e ∙ connection_back s y.1 n (legal_small _ (opens_sound o q y.1 p).order) in
    (ap length e ∙ row_long s y.1 n, subst (λ (c : Connection). Session c q []) (sym b) (new o q y.1 p))
opened s s' o q (refuses n) (on h p) z e = absurd (none (open_within o q (refuses n) p))
  where
    none : Within (up_to 13) {A = Unit × Connection} (refuses n) → ⊥
    none (named i j) = omega arith
opened s s' o q (refuses n) (off h p) z e = absurd (omega (arith, z))

-- an export, whatever it came to
goes : {s s' : List ℕ} {q q' : Rooms} {l : List Entry} {adds : List Entry → List Entry} {r : ℕ} {why : Type 0} → length s ≡ connection_slots → Session (connection_of s) q l → Came s q s' q' adds r why
    → (length s' ≡ connection_slots) × Session (connection_of s') q' (noted r adds l)
goes {s} {q = q} {q' = q'} {l = l} {adds = adds} {r = r} n k (asked x) =
    let b = call x.ask x.bytes x.numbers x.answer q' x.outputs x.answers k in
    let w = x.row n (legal_small _ (session_sound b).order) in
    let e = x.notes (call_within x.ask (connection_of s) q (session_sound k) x.answer q' x.outputs x.answers) l in
    (w.long, subst (λ (c : Connection). Session c q' (noted r adds l)) (sym w.is) (subst (λ (m : List Entry). Session (state_of x.answer (connection_of s)) q' m) (sym e) b))
goes {s} {q = q} {q' = q'} {l = l} {adds = adds} {r = r} n k (unasked x) =
    let e = noted_refused r 9 adds l x.number (omega arith) in
    (ap length x.row ∙ n, rw (x.row, x.left, e) k)

pub run_row : {state requests store slots : List ℕ} {l : List Entry} → Run state requests store slots l → (length state ≡ connection_slots) × Session (connection_of state) (rooms requests store slots) l
run_row (xm_connection_new {state = s} o {state' = s'} k) = opened s s' o _ k.exported.answer k.exported.promise k.exported.number k.state
run_row (Exports.call k x) = let z = run_row k in goes z.0 z.1 (export_came x)
run_row
    (Exports.restored
    {state = state}
    {requests = requests}
    {store = store}
    {slots = slots}
    {l = l}
    reader
    buf
    ids
    out
    {size = size}
    {out' = out'}
    {size' = size'}
    k
    y
    {state₁ = row}
    {requests₁ = requests₁}
    {store₁ = store₁}
    {slots₁ = slots₁}
    {reader₁ = reader₁}
    {buf₁ = buf₁}
    {ids₁ = ids₁}
    {state' = row'}
    {requests' = requests'}
    {store' = store'}
    {reader' = reader'}
    {buf' = buf'}
    {ids' = ids'}
    x) =
    restored_session state requests store slots reader buf ids out out' size size' row requests₁ store₁ slots₁ reader₁ buf₁ ids₁ row' requests' store' reader' buf' ids' l (run_row k).1 y x

-- ---- What an export of it comes to

-- 9 is for what means nothing
nine : {A : Type 0} {a : Answer A} → Within of_calls a → returned a ≡ 9 → ⊥
unfolding either
nine given e = omega (arith, e)
nine (named p q) e = let z = subst (λ (k : ℕ). of_calls k ≡ true) e q in apart z refl

pub came_nine : {s s' : List ℕ} {q q' : Rooms} {l : List Entry} {adds : List Entry → List Entry} {r : ℕ} {why : Type 0} → Session (connection_of s) q l → Came s q s' q' adds r why → r ≡ 9 → why
came_nine {s} {q = q} {q' = q'} k (asked x) e =
    absurd (nine (call_within x.ask (connection_of s) q (session_sound k) x.answer q' x.outputs x.answers) (sym x.number ∙ e))
came_nine k (unasked x) e = x.reason

-- another number than 0 leaves all as found
left_found : (x : Ask) (c : Connection) (q q' : Rooms) (a : Answer (Value x × Connection)) (o : Outputs x) → Answers x c q a q' o → (s s' : List ℕ) → ((n : ℕ) → a ≡ refuses n → s' ≡ s) → (returned a ≡ 0 → ⊥) → (s' ≡ s) × (q' ≡ q)
left_found x c q q' (gives y) o h s s' f z = absurd (z refl)
left_found x c q q' (refuses n) o h s s' f z = (f n refl, refusal_leaves (form x).shows _ _ c q n q' (has_form x c q (refuses n) q' o h).promise)

pub came_found : {s s' : List ℕ} {q q' : Rooms} {adds : List Entry → List Entry} {r : ℕ} {why : Type 0} → Came s q s' q' adds r why → (r ≡ 0 → ⊥) → (s' ≡ s) × (q' ≡ q)
came_found {s} {s' = s'} {q = q} {q' = q'} (asked x) z = left_found x.ask (connection_of s) q q' x.answer x.outputs x.answers s s' x.found (λ e. z (x.number ∙ e))
came_found (unasked x) z = (x.row, x.left)
