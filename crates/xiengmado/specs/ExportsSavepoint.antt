-- THE PROMISES of the exports of savepoints, written as those of `Exports`, and that any two outcomes are equal. Assumes nothing.
use Rattle.std.specs.Prelude.{◌≡◌, refl, Bool, true, false, not, List, [], ◌∷◌, ℕ, eqb, length, Result}
use Rattle.std.proofs.Common.{sym, ap, subst, ◌∙◌, eq-eqb}
use Rattle.octets.specs.Logic.{both, both_on}
use Rattle.refusal.specs.Answer.{Answer, gives, refuses, refuse, pass}
use Rattle.requests.specs.Room.{capacity}
use Rattle.model.specs.Reading.{Rooms, rooms}
use Rattle.savepoint.specs.Saved.{Saved, decode}
use Rattle.savepoint.specs.Calls.{Laid, laid, Measures, Saves, Restores, Values, fitting, placed, restored, values_of, rooms_after, buffer_after}
use Rattle.saving.specs.declared.Client.{Client}
use Rattle.saving.specs.Says.{says_restored}
use Rattle.rows.specs.State.{connection_slots, three_slots, connection_of, connection_row, reader_of, reader_row, ids_of, ids_row}
use Rattle.answers.specs.Exported.{Exported, returned, shown_of, shown_at, exported_one, exported_left}
use Rattle.answers.specs.Shown.{number}
use Rattle.refusal.specs.declared.Refusal.{Refusal}

-- the client of three rows, and with the rooms and the buffer
abbrev pub client_in : (state reader ids : List ℕ) → Client
client_in state reader ids = record { connection = connection_of state; reader = reader_of reader; ids = ids_of ids }

abbrev pub laid_in : (state requests store slots reader buf ids : List ℕ) → Laid
laid_in state requests store slots reader buf ids = laid (connection_of state) (rooms requests store slots) (reader_of reader) buf (ids_of ids)

-- ---- writing

-- `xm_savepoint_length`
module _ (state requests store slots reader buf ids : List ℕ) (length : ℕ) where
  abbrev pub XmSavepointLength : (length' r : ℕ) → Type 0
  XmSavepointLength length' r =
      Exported (λ a. Measures (laid_in state requests store slots reader buf ids) a) number (length ∷ []) (length' ∷ []) r

  pub xm_savepoint_length_one : {length₁ r₁ : ℕ} {length₂ r₂ : ℕ} → XmSavepointLength length₁ r₁ → XmSavepointLength length₂ r₂
      → (length₁ ≡ length₂) × (r₁ ≡ r₂)
  xm_savepoint_length_one p q =
      let z = exported_one p q (λ a b x y. x ∙ sym y) in
      (shown_at 0 z.1, z.0)

saves_left : {x : Laid} {out u v : List ℕ} (a b : Answer ℕ) → Saves x out a u → Saves x out b v → (a ≡ b) × (u ≡ v)
saves_left a b p q = (p.answers ∙ sym q.answers, p.writes ∙ sym q.writes)

-- `xm_save`
module _ (state requests store slots reader buf ids out : List ℕ) (length : ℕ) where
  abbrev pub XmSave : (out' : List ℕ) (length' r : ℕ) → Type 0
  XmSave out' length' r =
      Exported (λ a. Saves (laid_in state requests store slots reader buf ids) out a out') number (length ∷ []) (length' ∷ []) r

  pub xm_save_one : {out₁ : List ℕ} {length₁ r₁ : ℕ} {out₂ : List ℕ} {length₂ r₂ : ℕ} → XmSave out₁ length₁ r₁ → XmSave out₂ length₂ r₂
      → (out₁ ≡ out₂) × (length₁ ≡ length₂) × (r₁ ≡ r₂)
  xm_save_one p q =
      let z = exported_left p q saves_left in
      (z.2, shown_at 0 z.1, z.0)

-- ---- reading

-- rows as long as those of a client
unfoldable pub rows_fit : (state reader ids : List ℕ) → Bool
rows_fit state reader ids = both (eqb (length state) connection_slots) (both (eqb (length reader) three_slots) (eqb (length ids) three_slots))

-- what is restored where the rows fit or not: 19, then 9 for rows, rooms or a buffer of other lengths
unfoldable pub restored_in : Bool → List ℕ → Rooms → List ℕ → Answer Laid
restored_in fit bytes r b = pass (decode bytes) (λ s. refuse (not (both fit (fitting s r b))) 9 (gives (placed s r b)))

-- the three states put into their rows; a refusal leaves these
pub record GivesRows (a : Answer Values) (state reader ids state' reader' ids' : List ℕ) (r : ℕ) : Type 0 where
  pub returns : r ≡ returned a
  pub connection : state' ≡ shown_of (λ v. connection_row state v.0) a state
  pub packets : reader' ≡ shown_of (λ v. reader_row reader v.1.0) a reader
  pub allocator : ids' ≡ shown_of (λ v. ids_row ids v.1.1) a ids

-- A whole client put into rows, rooms and buffer: a refusal leaves every one of them as found.
pub record GivesLaid (a : Answer Laid) (state requests store reader buf ids state' requests' store' reader' buf' ids' : List ℕ) (r : ℕ) : Type 0 where
  pub returns : r ≡ returned a
  pub connection : state' ≡ shown_of (λ x. connection_row state x.connection) a state
  pub packets : reader' ≡ shown_of (λ x. reader_row reader x.reader) a reader
  pub allocator : ids' ≡ shown_of (λ x. ids_row ids x.ids) a ids
  pub outstanding : requests' ≡ shown_of (λ x. x.rooms.requests) a requests
  pub held : store' ≡ shown_of (λ x. x.rooms.store) a store
  pub partial : buf' ≡ shown_of (λ x. x.buffer) a buf

-- `xm_restore`
module _ (bytes state requests store slots reader buf ids : List ℕ) where
  abbrev pub XmRestore : (state' requests' store' reader' buf' ids' : List ℕ) (r : ℕ) → Type 0
  XmRestore state' requests' store' reader' buf' ids' r =
      GivesLaid (restored_in (rows_fit state reader ids) bytes (rooms requests store slots) buf) state requests store reader buf ids state' requests' store' reader' buf' ids' r

  pub xm_restore_one : {state₁ requests₁ store₁ reader₁ buf₁ ids₁ : List ℕ} {r₁ : ℕ} {state₂ requests₂ store₂ reader₂ buf₂ ids₂ : List ℕ} {r₂ : ℕ} → XmRestore state₁ requests₁ store₁ reader₁ buf₁ ids₁ r₁ → XmRestore state₂ requests₂ store₂ reader₂ buf₂ ids₂ r₂
      → (state₁ ≡ state₂) × (requests₁ ≡ requests₂) × (store₁ ≡ store₂) × (reader₁ ≡ reader₂) × (buf₁ ≡ buf₂) × (ids₁ ≡ ids₂) × (r₁ ≡ r₂)
  xm_restore_one p q =
      (p.connection ∙ sym q.connection, p.outstanding ∙ sym q.outstanding, p.held ∙ sym q.held, p.packets ∙ sym q.packets, p.partial ∙ sym q.partial, p.allocator ∙ sym q.allocator, p.returns ∙ sym q.returns)

-- ---- laws

-- The call below, and its values put into the rows.
laid_given : (a : Answer Laid) {slots : List ℕ} {state requests store reader buf ids state' requests' store' reader' buf' ids' : List ℕ} {r : ℕ} → GivesRows (values_of a) state reader ids state' reader' ids' r
    → rooms requests' store' slots ≡ rooms_after a (rooms requests store slots) → buf' ≡ buffer_after a buf → GivesLaid a state requests store reader buf ids state' requests' store' reader' buf' ids' r
unfolding values_of rooms_after buffer_after
laid_given (gives x) g e f =
    record {
      returns = g.returns;
      connection = g.connection;
      packets = g.packets;
      allocator = g.allocator;
      outstanding = ap (λ (k : Rooms). k.requests) e;
      held = ap (λ (k : Rooms). k.store) e;
      partial = f;
    }
laid_given (refuses n) g e f =
    record {
      returns = g.returns;
      connection = g.connection;
      packets = g.packets;
      allocator = g.allocator;
      outstanding = ap (λ (k : Rooms). k.requests) e;
      held = ap (λ (k : Rooms). k.store) e;
      partial = f;
    }

-- Where rows fit, rooms and buffer alone decide.
pub restored_fit : (bytes : List ℕ) (r : Rooms) (b : List ℕ) → restored bytes r b ≡ restored_in true bytes r b
unfolding restored restored_in both
restored_fit bytes r b = refl

-- Where they don't, it is as with no slots.
unfit : (x y z : Bool) → both x (both y (both false z)) ≡ false
unfolding both
unfit true true z = refl
unfit true false z = refl
unfit false y z = refl

restored_unfit : (a : Answer Saved) (q s : List ℕ) (r : Rooms) (b : List ℕ)
    → pass a (λ x. refuse (not (fitting x (rooms q s []) b)) 9 (gives (placed x (rooms q s []) b))) ≡ pass a (λ x. refuse (not (both false (fitting x r b))) 9 (gives (placed x r b)))
unfolding pass fitting refuse both
restored_unfit (gives x) q s r b =
    ap (λ (t : Bool). refuse (not t) 9 (gives (placed x (rooms q s []) b)))
    (unfit (eqb (capacity q) x.client.most_requests) (eqb (length s) x.client.most_bytes) (eqb (length b) x.reader.room))
restored_unfit (refuses n) q s r b = refl

restores_given : {bytes : List ℕ} {lent : List ℕ} {a : Answer Values} {k : Answer Laid} {state requests store reader buf ids state' requests' store' reader' buf' ids' : List ℕ} {r : ℕ} → restored bytes (rooms requests store lent) buf ≡ k
    → Restores bytes (rooms requests store lent) buf a (rooms requests' store' lent) buf' → GivesRows a state reader ids state' reader' ids' r
    → GivesLaid k state requests store reader buf ids state' requests' store' reader' buf' ids' r
restores_given {bytes} {lent = lent} {state = state} {requests = requests} {store = store} {reader = reader} {buf = buf} {ids = ids} {state' = state'} {requests' = requests'} {store' = store'} {reader' = reader'} {buf' = buf'} {ids' = ids'} {r = r} e p g =
    subst (λ (x : Answer Laid). GivesLaid x state requests store reader buf ids state' requests' store' reader' buf' ids' r) e
    (laid_given (restored bytes (rooms requests store lent) buf) {slots = lent} (subst (λ (v : Answer Values). GivesRows v state reader ids state' reader' ids' r) p.answers g) p.leaves p.fills)

pub restores_on : {bytes : List ℕ} {slots : List ℕ} {a : Answer Values} {state requests store reader buf ids state' requests' store' reader' buf' ids' : List ℕ} {r : ℕ} → true ≡ rows_fit state reader ids
    → Restores bytes (rooms requests store slots) buf a (rooms requests' store' slots) buf' → GivesRows a state reader ids state' reader' ids' r → XmRestore bytes state requests store slots reader buf ids state' requests' store' reader' buf' ids' r
restores_on {bytes} {slots = slots} {requests = requests} {store = store} {buf = buf} h p g =
    restores_given (restored_fit bytes (rooms requests store slots) buf ∙ ap (λ (t : Bool). restored_in t bytes (rooms requests store slots) buf) h) p g

pub restores_off : {bytes : List ℕ} (slots : List ℕ) {a : Answer Values} {state requests store reader buf ids state' requests' store' reader' buf' ids' : List ℕ} {r : ℕ} → false ≡ rows_fit state reader ids
    → Restores bytes (rooms requests store []) buf a (rooms requests' store' []) buf' → GivesRows a state reader ids state' reader' ids' r → XmRestore bytes state requests store slots reader buf ids state' requests' store' reader' buf' ids' r
unfolding restored restored_in
restores_off {bytes} slots {requests = requests} {store = store} {buf = buf} h p g =
    restores_given (restored_unfit (decode bytes) requests store (rooms requests store slots) buf ∙ ap (λ (t : Bool). restored_in t bytes (rooms requests store slots) buf) h) p g

-- Rows given by the case of an answer.
pub gives_at : {e k : Result Client Refusal} {state reader ids state' reader' ids' : List ℕ} {r : ℕ} → e ≡ k → r ≡ returned (says_restored k) → state' ≡ shown_of (λ v. connection_row state v.0) (says_restored k) state
    → reader' ≡ shown_of (λ v. reader_row reader v.1.0) (says_restored k) reader → ids' ≡ shown_of (λ v. ids_row ids v.1.1) (says_restored k) ids → GivesRows (says_restored e) state reader ids state' reader' ids' r
gives_at {k = k} {state = state} {reader = reader} {ids = ids} {state' = state'} {reader' = reader'} {ids' = ids'} {r = r} q n c p a =
    subst (λ (x : Result Client Refusal). GivesRows (says_restored x) state reader ids state' reader' ids' r) (sym q) (record { returns = n; connection = c; packets = p; allocator = a })

-- The test of the rows, once its last part is left.
pub fit_last : (state reader ids : List ℕ) → length state ≡ connection_slots → length reader ≡ three_slots → eqb (length ids) three_slots ≡ rows_fit state reader ids
unfolding rows_fit
fit_last state reader ids a b = both_on (eq-eqb _ _ b) ∙ both_on (eq-eqb _ _ a)
